-- Which refusal it is, and what holds without one. Assumes nothing.
use mathlib.Core.Path.{◌≡◌, sym, ◌∙◌}
use mathlib.Core.Bool.{Bool, true, false}
use Prim.Native.Nat.{ℕ, ◌+◌, ◌≤◌, ◌<◌}
use native.Mathlib.Omega.{arith}
use borrow.Author.Tests.{lt-ltb, le-ltb, eq-eqb, ne_eqb}
use Rattle.lists.proofs.Tests.{by-test, by_order, by_equal}
use Rattle.faults.specs.Faults.{maker_fault}

module _ (f : ℕ) (t : Bool) (w n k o : ℕ) where
  pub fault-sheet : (f ≡ 0 → ⊥) → maker_fault f t w n k o ≡ f
  fault-sheet e = rw (ne_eqb f 0 e)

  pub fault-side : f ≡ 0 → t ≡ true → maker_fault f t w n k o ≡ 18
  fault-side e s = rw (eq-eqb f 0 e, s)

  pub fault-work : f ≡ 0 → t ≡ false → k < w → maker_fault f t w n k o ≡ 8
  fault-work e s h = rw (eq-eqb f 0 e, s, lt-ltb k w h)

  pub fault-out : f ≡ 0 → t ≡ false → w ≤ k → o < n + 1 → maker_fault f t w n k o ≡ 9
  fault-out e s h l = rw (eq-eqb f 0 e, s, le-ltb k w h, lt-ltb o (n + 1) l)

  pub fault-none : f ≡ 0 → t ≡ false → w ≤ k → n + 1 ≤ o → maker_fault f t w n k o ≡ 0
  fault-none e s h l = rw (eq-eqb f 0 e, s, le-ltb k w h, le-ltb o (n + 1) l)

  -- the five cases
  pub by-fault : {P : Type 0} → ((f ≡ 0 → ⊥) → P) → (f ≡ 0 → t ≡ true → P) → (f ≡ 0 → t ≡ false → k < w → P) →
      (f ≡ 0 → t ≡ false → w ≤ k → o < n + 1 → P) → (f ≡ 0 → t ≡ false → w ≤ k → n + 1 ≤ o → P) → P
  by-fault a b c d g =
      by_equal f 0 (λ e. by-test t (b e) (λ s. by_order w k (λ h. by_order (n + 1) o (g e s h) (d e s h)) (c e s))) a

  pub no-fault : maker_fault f t w n k o ≡ 0 → (f ≡ 0) × (t ≡ false) × (w ≤ k) × (n + 1 ≤ o)
  no-fault z =
      by-fault
      (λ e. absurd (e (sym (fault-sheet e) ∙ z)))
      (λ e s. absurd (over 17 (sym (fault-side e s) ∙ z)))
      (λ e s h. absurd (over 7 (sym (fault-work e s h) ∙ z)))
      (λ e s h l. absurd (over 8 (sym (fault-out e s h l) ∙ z)))
      (λ e s h l. (e, s, h, l))
    where
      over : (m : ℕ) → m + 1 ≡ 0 → ⊥
      over m q = omega arith
