-- An accepted sheet obeys what the steps ask of an instance beside its slots: its costs and its budget.
use mathlib.Core.Path.{◌≡◌, refl, ap}
use mathlib.Core.Logic.{◌⊎◌, inl, inr}
use mathlib.Core.Bool.{true, not, false}
use Prim.Native.Nat.{ℕ, ◌+◌, ◌<◌}
use native.Mathlib.Omega.{arith}
use lib.Dec.{eqb}
use lib.ListN.{get_or}
use borrow.Author.Tests.{eqb-true, eqb-false, ne_eqb}
use Rattle.lists.proofs.Tests.{by-test, by-either, clash, not_f}
use Rattle.search.specs.Radix.{below}
use Rattle.search.proofs.Radix.{digit-le, below-splits}
use Rattle.search.proofs.Digits.{place_same, digit-wide}
use Rattle.sheet.specs.Limits.{unbounded}
use Rattle.sheet.specs.Sheet.{Sheet}
use Rattle.optimum.specs.Strips.{Strip, Point}
use Rattle.optimum.specs.Budgets.{bound_of, is_unbounded, radices_of, digit_in, draws_of}
use Rattle.optimum.specs.OneSided.{may_open, mark_count, turn_of, held_of, instance_of}
use Rattle.optimum.proofs.Steps.{Linear}
use Rattle.optimum.proofs.Budgets.{positive, radix-at, draws-none, draws-one, draws}
use Rattle.optimum.proofs.optimality.CostWord.{word-nothing, word-adds}
use Rattle.optimum.proofs.optimality.Pays.{Budgeted}

-- ---- what is asked of a step beside the slots: that the tip be clear (Tips); a site leaves the mark 0

pub not-held : (s : Sheet) (p : Strip) (t : Point) → held_of s p t ≡ false
unfolding held_of
not-held s p t = refl

pub turn_low : (s : Sheet) (t : Point) (k : ℕ) → turn_of s t k < mark_count
unfolding turn_of mark_count
turn_low s t k = omega arith

-- ---- costs

pub linear : (s : Sheet) → Linear (instance_of s)
linear s = record { nothing = word-nothing s; adds = word-adds s }

-- ---- the budget

module _ (s : Sheet) where
  pub budgeted : Budgeted (instance_of s) (digit_in s) (is_unbounded s)
  unfolding may_open
  budgeted = record {
    can-e = λ t k v m b u.
        let n = eqb-false (bound_of s t.c) 0 (not_f _ m) in
        let q : get_or (radices_of s.colours) t.c 1 ≡ bound_of s t.c + 1 = rw u at (radix-at s.colours t.c) in
        let w : 1 < get_or (radices_of s.colours) t.c 1 = omega arith in
        let d = digit-le (radices_of s.colours) t.c _ v (rw (draws-one s t.c u) at b) in
        omega (arith, place_same (radices_of s.colours) t.c (positive s.colours) w);
    can-i = λ t k v h. (can-open t v h, can-draw t v h);
    same = λ c v u h. rw (draws-one s c u) (omega (arith, (draws s c v h).same));
    other = λ c d v h n. by-test (is_unbounded s c)
        (λ u. rw (draws-none s c u) (ap (digit_in s d) (omega arith)))
        (λ u. by-either h (λ w. clash w u) (λ w. rw (draws-one s c u) ((draws s c v w).other d n)));
  }
    where
      can-open : (t : Point) (v : ℕ) → (is_unbounded s t.c ≡ true) ⊎ (0 < digit_in s t.c v) → not (eqb (bound_of s t.c) 0) ≡ true
      can-open t v (inl u) = rw (ne_eqb (bound_of s t.c) 0 (λ (e : bound_of s t.c ≡ 0). omega (arith, eqb-true (bound_of s t.c) unbounded u)))
      can-open t v (inr h) =
          by-test (eqb (bound_of s t.c) 0)
          (λ e. absurd (let z = eqb-true (bound_of s t.c) 0 e in
          let q : get_or (radices_of s.colours) t.c 1 ≡ bound_of s t.c + 1 = rw (ne_eqb (bound_of s t.c) unbounded (λ (y : bound_of s t.c ≡ unbounded). omega arith)) at (radix-at s.colours t.c) in
          omega (arith, digit-wide (radices_of s.colours) t.c v (positive s.colours) h)))
          (λ e. rw e)

      can-draw : (t : Point) (v : ℕ) → (is_unbounded s t.c ≡ true) ⊎ (0 < digit_in s t.c v) → below (radices_of s.colours) (draws_of s t.c) v ≡ true
      can-draw t v h =
          by-test (is_unbounded s t.c)
          (λ u. rw (draws-none s t.c u) ((below-splits (radices_of s.colours)).nothing v))
          (λ u. by-either h (λ w. clash w u) (λ w. rw (draws-one s t.c u) (draws s t.c v w).taken))
