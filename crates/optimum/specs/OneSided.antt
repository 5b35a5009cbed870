-- The one-sided answer as code finds it: the sheet's instance, the sites by rising rank, the walk over the table, and the slots put
-- back in sheet order.
use Rattle.std.specs.Prelude.{Bool, false, cond, not, ◌&&◌, ◌||◌, List, [], ◌∷◌, ℕ, zero, suc, ◌-◌, ◌/◌, ◌%◌, ◌^◌, eqb, leb, ltb, length, set, replicate}
use Rattle.std.proofs.Math.Option.{Option, none, some}
use Rattle.search.specs.Cost.{least, first}
use Rattle.search.specs.Masks.{mask_by}
use Rattle.sheet.specs.Sheet.{all, Site, Sheet, rank_of, rank_top}
use Rattle.labelling.specs.Layout.{site_at, counts, is_clear, tie_word}
use Rattle.labelling.specs.Lawful.{rank_at}
use Rattle.optimum.specs.Slots.{sheet_slots}
use Rattle.optimum.specs.Strips.{Point, Strip, Instance, walked}
use Rattle.optimum.specs.Budgets.{full_budget}
pub use Rattle.optimum.specs.Budgets.{bound_of}
unfoldable pub use Rattle.optimum.specs.Budgets.{radices_of, draws_of}
pub use Rattle.optimum.specs.CostWord.{top_word}
unfoldable pub use Rattle.optimum.specs.CostWord.{word_of}

-- ---- what document 02 touches beside the slots, one definition each

-- the length of the backbone that a site at x opens
unfoldable pub lead_of : Sheet → (x : ℕ) → ℕ
lead_of s x = s.width - x

-- a label may be opened at slot k by this site
unfoldable pub may_open : Sheet → Point → (k : ℕ) → Bool
may_open s t k = not (eqb (bound_of s t.c) 0)

-- a label that site i opens at slot k lies clear of each site before it, by rank, that counts against it: its tip stands at the site's x,
-- and each site before it has another label (document 02, "Foreign bolts at the tip")
abbrev pub tip_passes : Sheet → (i k : ℕ) → Site → Bool
tip_passes s i k u = not (ltb (rank_of u) (rank_at s i) && counts s (site_at s i).x u.x) || is_clear s k u.y

unfoldable pub tip_clear : Sheet → (i k : ℕ) → Bool
tip_clear s i k = all (tip_passes s i k) s.sites

-- the set of slots at which site i may open no label
unfoldable pub barred_of : Sheet → (i : ℕ) → ℕ
barred_of s i = mask_by (λ k. not (tip_clear s i k)) (length s.slots)

-- slot k is in a set
unfoldable pub has_slot : (set k : ℕ) → Bool
has_slot b k = eqb (b / 2 ^ k % 2) 1

-- how many marks there are: what is proved of rows holds for any number above 0; a site leaves the mark 0, and no mark holds one
unfoldable pub mark_count : ℕ
mark_count = 1

unfoldable pub turn_of : Sheet → Point → (k : ℕ) → ℕ
turn_of s t k = 0

unfoldable pub held_of : Sheet → Strip → Point → Bool
held_of s p t = false

-- the sheet as the one-sided table sees it
abbrev pub instance_of : Sheet → Instance
instance_of s =
    record {
      slots = sheet_slots s;
      top = top_word;
      lead = lead_of s;
      may = may_open s;
      tip = λ t k. not (has_slot t.barred k);
      mark_count = mark_count;
      turn = turn_of s;
      held = held_of s;
      draw_of = draws_of s;
      radices = radices_of s.colours;
      word = word_of s;
    }

-- ---- the sites by rising x: "take the sites by rising x"

-- the x of a site
abbrev pub x_of : Sheet → ℕ → ℕ
x_of s i = (site_at s i).x

-- the least rank from a on, and the site that has it
unfoldable pub rank_from : Sheet → (from : ℕ) → ℕ
rank_from s a = least rank_top (length s.sites) (λ i. cond (leb a (rank_at s i)) (rank_at s i) rank_top)

unfoldable pub site_of : Sheet → (rank : ℕ) → ℕ
site_of s x = first (length s.sites) (λ i. eqb (rank_at s i) x)

-- the numbers of so many sites by rising rank, from a rank on; of all sites
unfoldable pub order_from : Sheet → (count from : ℕ) → List ℕ
order_from s zero a = []
order_from s (suc n) a = site_of s (rank_from s a) ∷ order_from s n (suc (rank_from s a))

unfoldable pub order : Sheet → List ℕ
order s = order_from s (length s.sites) 0

-- a site as the table sees it, and the sites of these numbers
abbrev pub point_at : Sheet → ℕ → Point
point_at s i = record { x = (site_at s i).x; y = (site_at s i).y; c = (site_at s i).colour; barred = barred_of s i }

unfoldable pub points_at : Sheet → List ℕ → List Point
points_at s [] = []
points_at s (i ∷ is) = point_at s i ∷ points_at s is

-- ---- back to sheet order: each slot of ks to the place that the order names

unfoldable pub scatter : (out is ks : List ℕ) → List ℕ
scatter out [] ks = out
scatter out (i ∷ is) [] = out
scatter out (i ∷ is) (k ∷ ks) = scatter (set out i k) is ks

-- the ties written in turn, that of site i to place i + 1 of the area
unfoldable pub write_ties : (out is ks : List ℕ) → List ℕ
write_ties out [] ks = out
write_ties out (i ∷ is) [] = out
write_ties out (i ∷ is) (k ∷ ks) = write_ties (set out (suc i) (tie_word k)) is ks

-- the walk's slots as ties, in sheet order
abbrev pub ties_of : Sheet → Option (List ℕ) → Option (List ℕ)
ties_of s none = none
ties_of s (some ks) = some (scatter (replicate (length s.sites) 0) (order s) ks)

-- THE ANSWER: the ties of the best layout of a one-sided sheet, or none
unfoldable pub one_sided : Sheet → Option (List ℕ)
one_sided s = ties_of s (walked (instance_of s) (full_budget s) (points_at s (order s)))
