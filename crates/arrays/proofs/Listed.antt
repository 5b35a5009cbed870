-- What may be taken from a budget stands at a place of its list, which can be found: a ghost field says only that there is one. And lists that
-- are within bounds for the first budgets are so for all, where nothing is counted for the others. Assumes nothing.
use mathlib.Core.Path.{◌≡◌}
use mathlib.Core.Bool.{true}
use mathlib.Core.List.{List}
use mathlib.Core.Logic.{◌⊎◌, inl, inr, ∥∥₁_elim}
use Prim.Native.Nat.{ℕ, zero, suc, ◌<◌, ◌≤◌}
use native.Mathlib.Omega.{arith}
use Rattle.lists.proofs.Tests.{by_equal, by-either, by_order}
use Rattle.search.specs.Radix.{below}
use lib.ListN.{get_or}
use Rattle.sheet.specs.Limits.{most_budgets}
use Rattle.arrays.specs.Budgets.{Listed, Within}

-- one of the first n places has the number x
abbrev Placed : (at : ℕ → ℕ) → (x n : ℕ) → Type 0
Placed at x n = (i : ℕ) × (i < n) × (at i ≡ x)

-- it is found, or none of them has it
placed : (at : ℕ → ℕ) (x n : ℕ) → Placed at x n ⊎ (Placed at x n → ⊥)
placed at x zero = inr (λ p. absurd (omega (arith, p.1)))
placed at x (suc n) =
    by-either (placed at x n)
    (λ p. inl (p.0, omega (arith, p.1), p.2))
    (λ f. by_equal (at n) x (λ e. inl (n, omega arith, e)) (λ e. inr (λ p. by_equal p.0 n (λ h. e (rw h at p.2)) (λ h. f (p.0, omega (arith, p.1, h), p.2)))))

pub listed-place : {rs : List ℕ} {v w count : ℕ} {at : ℕ → ℕ} → Listed rs v w count at → (x : ℕ) → x < w → below rs x v ≡ true
    → (i : ℕ) × (i < count) × (at i ≡ x)
listed-place {count = count} {at = at} r x h e =
    by-either (placed at x count) (λ p. p) (λ f. absurd (∥∥₁_elim (r.whole x h e) (λ a b. absurd a) f))

pub within-all : {P : ℕ} {parts counts : List ℕ} → Within P parts counts → ((v : ℕ) → P ≤ v → get_or counts v 0 ≡ 0) → Within most_budgets parts counts
within-all {P} r none = record {
  few = omega arith;
  parts_long = r.parts_long;
  counts_long = r.counts_long;
  counted = λ v h. by_order P v (λ l. omega (arith, none v l)) (r.counted v);
  small = λ v i h k. by_order P v (λ l. absurd (omega (arith, none v l, k))) (λ l. r.small v i l k);
}
