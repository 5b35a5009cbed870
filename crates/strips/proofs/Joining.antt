-- What opening a label asks, taken apart, and what joining one costs. Assumes nothing.
use mathlib.Core.Path.{◌≡◌, sym, ap, ◌∙◌}
use mathlib.Core.Logic.{◌⊎◌}
use mathlib.Core.Bool.{true, false}
use mathlib.Core.List.{List}
use Prim.Native.Nat.{ℕ, suc, ◌+◌, ◌-◌, ◌<◌, ◌≤◌}
use native.Mathlib.Omega.{arith}
use lib.ListN.{length, get_or}
use borrow.Author.Tests.{lt-ltb, ltb-true, eqb-true}
use Rattle.lists.proofs.Tests.{by-test, by-either, and_both, and-of, not_f}
use Rattle.labelling.proofs.Distances.{share-le}
use Rattle.optimum.specs.Strips.{Point, Strip, opens, joins_up, joins_down}
use Rattle.optimum.specs.OneSided.{top_word, has_slot}
use Rattle.arrays.specs.declared.Measures.{Measures}
use Rattle.arrays.specs.Arrays.{slots_by, turn_by}
use Rattle.arrays.specs.Given.{OfSheet, SiteIn, on_slots}
use Rattle.rows.specs.Rows.{marked_by}
use Rattle.strips.specs.Strips.{instance_on, gap_left, site_opens, join_cost, rise_cost, fall_cost, risen, fallen}
use Rattle.strips.proofs.Decisions.{opens-split}

-- what opening asks, taken apart
pub record Opening (q : Measures) (hs bs : List ℕ) (p : Strip) (s : Point) (k : ℕ) : Type 0 where
  pub above : p.a < k + 1
  pub under : k + 1 < p.b
  pub slot : k < length hs
  pub gap : gap_left (slots_by q hs) p s k ≡ true
  pub site : site_opens (instance_on q hs bs) p s ≡ true
  pub free : has_slot s.barred k ≡ false

pub opening : (q : Measures) (hs bs : List ℕ) (p : Strip) (s : Point) (k : ℕ) → opens (instance_on q hs bs) p s k ≡ true → Opening q hs bs p s k
opening q hs bs p s k e =
    let w = and_both _ _ (sym (opens-split q hs bs p s k) ∙ e) in
    let b = and_both _ _ w.0 in
    let c = and_both _ _ b.0 in
    let g = and_both _ _ w.1 in
    let t = and_both _ _ g.1 in
    record { above = ltb-true _ _ c.0; under = ltb-true _ _ c.1; slot = ltb-true _ _ b.1; gap = g.0; site = t.0; free = not_f _ t.1 }

pub opens_of : (q : Measures) (hs bs : List ℕ) (p : Strip) (s : Point) (k : ℕ) → Opening q hs bs p s k → opens (instance_on q hs bs) p s k ≡ true
opens_of q hs bs p s k o =
    opens-split q hs bs p s k
    ∙ and-of _ _ (and-of _ _ (and-of _ _ (lt-ltb _ _ o.above) (lt-ltb _ _ o.under)) (lt-ltb _ _ o.slot)) (and-of _ _ o.gap (and-of _ _ o.site (rw o.free)))

module _ (q : Measures) (hs bs : List ℕ) (p : Strip) (s : Point) where
  -- a label cannot be opened where one is joined
  pub shut : (k : ℕ) → (p.a ≡ suc k) ⊎ (p.b ≡ suc k) → opens (instance_on q hs bs) p s k ≡ false
  shut k e = by-test (opens (instance_on q hs bs) p s k) (λ o. let g = opening q hs bs p s k o in by-either e (λ x. absurd (omega (arith, g.above))) (λ x. absurd (omega (arith, g.under)))) (λ o. o)

  pub up_at : (k : ℕ) → joins_up (instance_on q hs bs) p s k ≡ true → p.a ≡ suc k
  unfolding joins_up
  up_at k j = eqb-true _ _ (and_both _ _ (and_both _ _ (and_both _ _ j).0).0).0

  pub down-at : (k : ℕ) → joins_down (instance_on q hs bs) p s k ≡ true → (p.b ≡ suc k) × (k < length hs)
  unfolding joins_down
  down-at k j = let w = and_both _ _ (and_both _ _ (and_both _ _ j).0).0 in (eqb-true _ _ w.0, ltb-true _ _ w.1)

  -- what a join leaves of the strip
  pub risen-at : (k : ℕ) → joins_up (instance_on q hs bs) p s k ≡ true → marked_by (turn_by hs s k) p ≡ risen hs p s
  risen-at k j = let a = up_at k j in ap (λ (i : ℕ). marked_by (turn_by hs s i) p) (omega arith)

  pub fallen-at : (k : ℕ) → joins_down (instance_on q hs bs) p s k ≡ true → marked_by (turn_by hs s k) p ≡ fallen hs p s
  fallen-at k j = let a = (down-at k j).0 in ap (λ (i : ℕ). marked_by (turn_by hs s i) p) (omega arith)

  -- and what it costs
  pub up_least : (k : ℕ) → k < length hs → joins_up (instance_on q hs bs) p s k ≡ true → rise_cost q hs bs p s ≤ join_cost q hs s k
  unfolding rise_cost
  up_least k h j =
      let a = up_at k j in
      let e : p.a - 1 ≡ k = omega arith in
      rw (e, lt-ltb k (length hs) h, j) (omega arith)

  pub down-least : (k : ℕ) → joins_down (instance_on q hs bs) p s k ≡ true → fall_cost q hs bs p s ≤ join_cost q hs s k
  unfolding fall_cost
  down-least k j =
      let a = (down-at k j).0 in
      let e : p.b - 1 ≡ k = omega arith in
      rw (e, j) (omega arith)

  -- a join costs less than none
  pub join-low : (k : ℕ) → OfSheet (on_slots q hs) → SiteIn q s → join_cost q hs s k < top_word
  join-low k o i =
      let h = share-le q.head.charge (get_or hs k 0) s.y o.charge_low (o.height_low k) i.y_low in
      by-test q.head.shortest (λ e. rw e (omega (arith, h))) (λ e. rw e (omega (arith, h)))
