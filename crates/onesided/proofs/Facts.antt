-- The arrays of an accepted sheet are as the table and the walk ask. Assumes nothing.
use mathlib.Core.Path.{◌≡◌, refl, sym, ap, ◌∙◌, subst⁻¹}
use mathlib.Core.Bool.{false, cond}
use mathlib.Core.List.{List, [], ◌∷◌, ◌++◌}
use Prim.Native.Nat.{ℕ, zero, suc, ◌+◌, ◌-◌, ◌*◌, ◌≤◌, ◌<◌}
use native.Mathlib.Nat.{mul-le-mul}
use native.Mathlib.Omega.{arith}
use lib.Dec.{eqb}
use lib.ListN.{length, get_or, drop, replicate}
use borrow.Author.Tests.{ltb-true}
use Rattle.lists.proofs.Tests.{by-test}
use Rattle.sheet.specs.Limits.{most_sites, number_top, unbounded, most_level}
use Rattle.sheet.specs.Sheet.{Colour, Sheet, sheet_in, sheet_fault, product_of, work_for}
use Rattle.sheet.proofs.Accepted.{Sound, sound, low_y, colour_low}
use Rattle.labelling.specs.Entry.{zeroed}
use Rattle.labelling.specs.Layout.{no_site}
use Rattle.labelling.proofs.Members.{all-at, used-at, rise-at}
use Rattle.labelling.proofs.Words.{height-low}
use Rattle.optimum.specs.OneSided.{order}
use Rattle.optimum.specs.Budgets.{radices_of}
use Rattle.optimum.proofs.Full.{full-holds}
use Rattle.optimum.proofs.optimality.Order.{ordered}
use Rattle.optimum.proofs.optimality.OneSidedAnswer.{work-cells}
use Rattle.arrays.specs.declared.Measures.{Measures}
use Rattle.arrays.specs.Arrays.{measures_of, bounds_of, draws_list, xs_of, ys_of, colours_of, gathered}
use Rattle.arrays.specs.Given.{Given, given, points_of, OfSheet, Bounded, Ranked}
use Rattle.arrays.specs.declared.ranked.RankedSheet.{RankedSheet}
use Rattle.arrays.specs.Ranked.{given_of}
use Rattle.decoding.proofs.Places.{ys-at, colours-at}
use Rattle.decoding.proofs.Fields.{bounds-long}
use Rattle.arrays.proofs.Ordered.{gathered-long, gathered-word}
use Rattle.sizes.proofs.Budgets.{radix-pos}
use Rattle.rows.proofs.Folding.{size}
use Rattle.walk.specs.Walk.{level_words}
use Rattle.walk.specs.Laid.{laid_work}
use Rattle.arrays.proofs.Points.{points-long}
use Rattle.onesided.specs.Laying.{RankedSites, arrays_of, LaysOut}

radices-positive : (ks : List Colour) (k : ℕ) → k < length (radices_of ks) → 0 < get_or (radices_of ks) k 0
unfolding radices_of
radices-positive [] k h = absurd (omega arith)
radices-positive (c ∷ ks) zero h = by-test (eqb c.bound unbounded) (λ e. rw e (omega arith)) (λ e. rw e (omega arith))
radices-positive (c ∷ ks) (suc k) h = radices-positive ks k (omega arith)

pub product-some : (ks : List Colour) → 0 < product_of ks
unfolding product_of
product-some [] = omega arith
product-some (k ∷ ks) = go (cond (eqb k.bound unbounded) 1 (k.bound + 1)) (product_of ks) (radix-pos k.bound) (product-some ks)
  where
    go : (a c : ℕ) → 1 ≤ a → 0 < c → 0 < a * c
    go a c h k = let e : a ≡ suc (a - 1) = omega arith in omega (arith, ap (λ (z : ℕ). z * c) e)

module _ (ws : List ℕ) (f : sheet_fault ws ≡ 0) where
  abbrev s : Sheet
  s = sheet_in ws

  o : Sound (sheet_in ws)
  o = sound ws f

  n-is : length (order s) ≡ length s.sites
  n-is = (ordered s o).long

  order-low : (i : ℕ) → i < length (order s) → get_or (order s) i 0 < length s.sites
  order-low i h = ((ordered s o).low (get_or (order s) i 0) (used-at (order s) i h)).0

  ys-low : (i : ℕ) → i < length (order s) → get_or (gathered (ys_of s.sites) (order s)) i 0 < number_top
  ys-low i h =
      let e = gathered-word (ys_of s.sites) (order s) i h ∙ ys-at s.sites (get_or (order s) i 0) in
      let l : (get_or s.sites (get_or (order s) i 0) no_site).y < number_top = ltb-true _ _ (all-at low_y no_site s.sites o.ys (get_or (order s) i 0) (order-low i h)) in
      omega arith

  colours-low : (i : ℕ) → i < length (order s) → get_or (gathered (colours_of s.sites) (order s)) i 0 < length s.colours
  colours-low i h =
      let e = gathered-word (colours_of s.sites) (order s) i h ∙ colours-at s.sites (get_or (order s) i 0) in
      let l : (get_or s.sites (get_or (order s) i 0) no_site).colour < length s.colours = ltb-true _ _ (all-at (colour_low (length s.colours)) no_site s.sites o.coloured (get_or (order s) i 0) (order-low i h)) in
      omega arith

  of-sheet : OfSheet (arrays_of s)
  of-sheet =
      let gx = gathered-long (xs_of s.sites) (order s) in
      record {
        few_slots = o.few-slots;
        few_colours = o.few-colours;
        few_sites = omega (arith, gx, n-is, o.few-sites);
        few_budgets = o.product;
        some_budget = product-some s.colours;
        narrow = o.narrow;
        charge_low = o.charged;
        height_low = λ k. height-low s.slots k o.heights;
        rising = λ j k p q. rise-at s.slots o.rise j k p q;
        divides = radices-positive s.colours;
        full = full-holds s.colours;
        ys_long = gathered-long (ys_of s.sites) (order s) ∙ sym gx;
        colours_long = gathered-long (colours_of s.sites) (order s) ∙ sym gx;
        site_in = λ i l. record { y_low = ys-low i (omega (arith, gx)); colour_low = colours-low i (omega (arith, gx)) };
        order_low = λ i l. omega (arith, order-low i l, gx, n-is);
      }

  lays-sheet : (area : ℕ) (out : List ℕ) → s.is_two_sided ≡ false → work_for s ≤ area → length s.sites + 1 ≤ length out → LaysOut (arrays_of s) area out
  lays-sheet area out one h r =
      let gx = gathered-long (xs_of s.sites) (order s) in
      record {
        fits = fits _ (omega (arith, gx, n-is)) (work-cells s one);
        answer_fits = omega (arith, n-is);
      }
    where
      fits : (size : ℕ) → length (gathered (xs_of s.sites) (order s)) ≡ length s.sites → work_for s ≡ (length s.sites + 1) * size
          → (length (gathered (xs_of s.sites) (order s)) + 1) * size ≤ area
      fits size e w = let y = ap (λ (n : ℕ). (n + 1) * size) e in omega arith

  -- what is known of arrays that are equal to these; of budgets listed besides
  pub arrays-held : (g : Given) → g ≡ arrays_of s → OfSheet g × Bounded g × Ranked g
  arrays-held g e = subst⁻¹ (λ (z : Given). OfSheet z × Bounded z × Ranked z) e (of-sheet, bounds-long s.colours, sym (gathered-long (xs_of s.sites) (order s)))

  -- the same for arrays that are equal to these
  pub lays-is : (g : Given) (area : ℕ) (out : List ℕ) → g ≡ arrays_of s → s.is_two_sided ≡ false → work_for s ≤ area → length s.sites + 1 ≤ length out → LaysOut g area out
  lays-is g area out e one h r = subst⁻¹ (λ (z : Given). LaysOut z area out) e (lays-sheet area out one h r)

-- arrays are a sheet's by their parts
pub arrays-are : (s : Sheet) {q : Measures} {hs bs rs ds xs ys cs os : List ℕ} → q ≡ measures_of s → hs ≡ s.slots → bs ≡ bounds_of s.colours → rs ≡ radices_of s.colours
    → ds ≡ draws_list s → RankedSites s xs ys cs os → given q hs bs rs ds xs ys cs os [] [] ≡ arrays_of s
arrays-are s eq eh eb er ed r =
    λ i. given (eq i) (eh i) (eb i) (er i) (ed i) (r.xs_is i) (r.ys_is i) (r.colours_is i) (r.order_is i) [] []

-- lists of budgets have no part in what is asked of a sheet's arrays
pub with-splits : {g : Given} → OfSheet g → (ps ns : List ℕ) → OfSheet (given g.measures g.heights g.bounds g.radices g.draws g.xs g.ys g.colours g.order ps ns)
with-splits o ps ns =
    record {
      few_slots = o.few_slots;
      few_colours = o.few_colours;
      few_sites = o.few_sites;
      few_budgets = o.few_budgets;
      some_budget = o.some_budget;
      narrow = o.narrow;
      charge_low = o.charge_low;
      height_low = o.height_low;
      rising = o.rising;
      divides = o.divides;
      full = o.full;
      ys_long = o.ys_long;
      colours_long = o.colours_long;
      site_in = o.site_in;
      order_low = o.order_low;
    }

module _ (sheet : RankedSheet) {area : ℕ} {out : List ℕ} (l : LaysOut (given_of sheet) area out) where
  abbrev g : Given
  g = given_of sheet

  -- the levels of all sites, counted by their places
  all-levels : (length g.order + 1) * level_words g ≡ (length g.xs + 1) * level_words g
  all-levels = ap (λ (n : ℕ). (n + 1) * level_words g) sheet.ranked

  points-are : length (points_of g) ≡ length g.xs
  points-are = points-long g.measures g.heights g.xs g.ys g.colours

  -- the words of the table are zeroed alike where the rest of the area is the same
  pub zeroed-same : (old new : List ℕ) → drop ((length g.xs + 1) * level_words g) new ≡ drop ((length g.xs + 1) * level_words g) old → laid_work g new ≡ laid_work g old
  zeroed-same old new e =
      rw points-are (ap (λ (z : List ℕ). replicate ((length g.xs + 1) * level_words g - 0) 0 ++ z) e)

  -- the words of all levels, of n words each, are what is zeroed
  pub record Zeros (n : ℕ) : Type 0 where
    pub small : (length g.order + 1) * n ≤ (most_sites + 1) * most_level
    pub within : (length g.order + 1) * n ≤ area
    pub zeros : (work : List ℕ) → zeroed 0 ((length g.order + 1) * n) work ≡ laid_work g work

  pub zeros-are : (n : ℕ) → n ≡ level_words g → Zeros n
  zeros-are n e =
      let few : length g.order + 1 ≤ most_sites + 1 = omega (arith, sheet.ranked, sheet.of_sheet.few_sites) in
      let o = sheet.of_sheet in
      record {
        small = rw e (mul-le-mul {n₂ = most_sites + 1} {m₂ = most_level} few (size (length g.heights) g.measures.colours g.measures.budgets o.few_slots o.few_colours o.few_budgets));
        within = rw e (omega (arith, l.fits, all-levels));
        zeros = λ work. rw (e, sheet.ranked, points-are) refl;
      }
