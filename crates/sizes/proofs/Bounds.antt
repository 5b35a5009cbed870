-- The number of work words fits 32 bits. Assumes nothing.
use mathlib.Core.Path.{◌≡◌, refl, sym, ap, ◌∙◌}
use Prim.Native.Nat.{ℕ, ◌+◌, ◌*◌, ◌^◌, ◌≤◌}
use native.Mathlib.Nat.{mul-le-mul, mul_assoc, mul_comm, pow-suc, pow-zero, one-mul}
use native.Mathlib.Omega.{arith}
use Rattle.sheet.specs.Limits.{most_slots, most_colours, most_sites, most_budgets, most_ends, most_rows, most_table}

pub square : (x : ℕ) → x ^ 2 ≡ x * x
square x = pow-suc x 1 ∙ ap (λ (n : ℕ). n * x) (pow-suc x 0 ∙ ap (λ (n : ℕ). n * x) (pow-zero x) ∙ one-mul x)

-- the largest of each product: the ends of a strip, the pairs of ends, a level for each site and one more, and the budgets
pub record Bounds (m c n p : ℕ) : Type 0 where
  pub strips : (m + 2) * (c + 1) ≤ most_ends
  pub two : (m + 2) * (c + 1) * p ≤ most_ends * most_budgets
  pub pairs : (m + 2) * (c + 1) * ((m + 2) * (c + 1)) ≤ most_rows
  pub levels : (m + 2) * (c + 1) * ((m + 2) * (c + 1)) * (n + 1) ≤ most_rows * (most_sites + 1)
  pub one : (m + 2) * (c + 1) * ((m + 2) * (c + 1)) * (n + 1) * p ≤ most_table

pub bounds : (m c n p : ℕ) → (m ≤ most_slots) × (c ≤ most_colours) × (n ≤ most_sites) × (p ≤ most_budgets) → Bounds m c n p
bounds m c n p q =
    let slots : m + 2 ≤ most_slots + 2 = omega arith in
    let colours : c + 1 ≤ most_colours + 1 = omega arith in
    let sites : n + 1 ≤ most_sites + 1 = omega arith in
    let strips = mul-le-mul {n₂ = most_slots + 2} {m₂ = most_colours + 1} slots colours in
    let pairs = mul-le-mul {n₂ = most_ends} {m₂ = most_ends} strips strips in
    let levels = mul-le-mul {n₂ = most_rows} {m₂ = most_sites + 1} pairs sites in
    record {
      strips = strips;
      two = mul-le-mul {n₂ = most_ends} {m₂ = most_budgets} strips q.3;
      pairs = pairs;
      levels = levels;
      one = mul-le-mul {n₂ = most_rows * (most_sites + 1)} {m₂ = most_budgets} levels q.3;
    }

-- the square of a product is the product of the squares
pub squares : (a b : ℕ) → a * b * (a * b) ≡ a ^ 2 * b ^ 2
squares a b =
    let swap : b * (a * b) ≡ a * (b * b) = sym (mul_assoc b a b) ∙ ap (λ (n : ℕ). n * b) (mul_comm b a) ∙ mul_assoc a b b in
    mul_assoc a b (a * b) ∙ ap (λ (n : ℕ). a * n) swap ∙ sym (mul_assoc a a (b * b)) ∙ rw (square a, square b) refl
