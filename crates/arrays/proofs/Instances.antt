-- The arrays of a sheet give its instances. Assumes nothing.
use mathlib.Core.Path.{◌≡◌, refl, sym, ap, ◌∙◌}
use mathlib.Core.Bool.{not}
use mathlib.Core.List.{List, [], ◌∷◌}
use Prim.Native.Nat.{ℕ, zero, suc, ◌<◌, ◌≤◌}
use native.Mathlib.Omega.{arith}
use lib.Dec.{eqb}
use lib.ListN.{length, get_or}
use lib.Seq.{ext_get_or}
use Rattle.lists.proofs.Tests.{by_order}
use Rattle.sheet.specs.Limits.{unbounded}
use Rattle.sheet.specs.Sheet.{Colour, Sheet}
use Rattle.sheet.proofs.Accepted.{Sound}
use Rattle.search.proofs.Sums.{listing-first, listing-past}
use Rattle.labelling.specs.Layout.{no_colour}
use Rattle.optimum.specs.Slots.{far_enough, sheet_slots}
use Rattle.optimum.specs.OneSided.{lead_of, may_open, has_slot, mark_count, turn_of, held_of, radices_of, draws_of, word_of, top_word, instance_of, order, point_at, points_at}
use Rattle.optimum.specs.Reached.{no_point}
use Rattle.decoding.proofs.Places.{bounds-at, xs-at, ys-at, colours-at}
use Rattle.arrays.specs.Arrays.{measures_of, bounds_of, draws_list, xs_of, ys_of, colours_of, gathered, turn_by, held_by, instance_by, point_by, points_by}
use Rattle.arrays.proofs.Ordered.{gathered-long, gathered-word}
use Rattle.arrays.proofs.Points.{points-long, point-at}
use Rattle.arrays.proofs.Barred.{barred-by}

past : (ks : List Colour) (c : ℕ) → length ks ≤ c → (get_or ks c no_colour).bound ≡ unbounded
past [] c h = refl
past (k ∷ ks) zero h = absurd (omega arith)
past (k ∷ ks) (suc c) h = past ks c (omega arith)

pub draws-at : (s : Sheet) (c : ℕ) → get_or (draws_list s) c 0 ≡ draws_of s c
draws-at s c =
    by_order (length s.colours) c
    (λ h. listing-past (draws_of s) 0 (length s.colours) c h ∙ sym (unfold draws_of in rw (past s.colours c h)))
    (λ h. listing-first (draws_of s) (length s.colours) c h)

-- THE ONE-SIDED INSTANCE
pub instance-by : (s : Sheet) → instance_by (measures_of s) s.slots (bounds_of s.colours) (radices_of s.colours) (draws_list s) ≡ instance_of s
unfolding far_enough lead_of may_open turn_of turn_by held_of held_by word_of
instance-by s = λ i. record {
  slots = sheet_slots s;
  top = top_word;
  lead = lead_of s;
  may = λ t k. not (eqb (bounds-at s.colours t.c i) 0);
  tip = λ t k. not (has_slot t.barred k);
  mark_count = mark_count;
  turn = turn_of s;
  held = held_of s;
  draw_of = λ c. draws-at s c i;
  radices = radices_of s.colours;
  word = word_of s;
}

-- THE SITES BY RISING RANK, from one array of each number
at_long : (s : Sheet) (is : List ℕ) → length (points_at s is) ≡ length is
unfolding points_at
at_long s [] = refl
at_long s (i ∷ is) = ap suc (at_long s is)

point-of : (s : Sheet) (is : List ℕ) (j : ℕ) → j < length is → get_or (points_at s is) j no_point ≡ point_at s (get_or is j 0)
unfolding points_at
point-of s [] j h = absurd (omega arith)
point-of s (i ∷ is) zero h = refl
point-of s (i ∷ is) (suc j) h = point-of s is j (omega arith)

pub points-by : (s : Sheet) → Sound s →
    points_by (measures_of s) s.slots (gathered (xs_of s.sites) (order s)) (gathered (ys_of s.sites) (order s)) (gathered (colours_of s.sites) (order s)) ≡ points_at s (order s)
points-by s o =
    ext_get_or no_point _ _ (long ∙ sym (at_long s is)) (λ j h.
    let l : j < length is = omega (arith, long) in
    point-at (measures_of s) s.slots (gathered (xs_of s.sites) is) _ _ j (omega (arith, gathered-long (xs_of s.sites) is))
    ∙ same j l ∙ sym (point-of s is j l))
  where
    is : List ℕ
    is = order s

    long : length (points_by (measures_of s) s.slots (gathered (xs_of s.sites) is) (gathered (ys_of s.sites) is) (gathered (colours_of s.sites) is)) ≡ length is
    long = points-long (measures_of s) s.slots (gathered (xs_of s.sites) is) _ _ ∙ gathered-long (xs_of s.sites) is

    same : (j : ℕ) → j < length is
        → point_by (measures_of s) s.slots (gathered (xs_of s.sites) is) (gathered (ys_of s.sites) is) (gathered (colours_of s.sites) is) j ≡ point_at s (get_or is j 0)
    same j l = λ t. record {
      x = (gathered-word (xs_of s.sites) is j l ∙ xs-at s.sites (get_or is j 0)) t;
      y = (gathered-word (ys_of s.sites) is j l ∙ ys-at s.sites (get_or is j 0)) t;
      c = (gathered-word (colours_of s.sites) is j l ∙ colours-at s.sites (get_or is j 0)) t;
      barred = barred-by s o j l t;
    }
