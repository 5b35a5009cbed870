-- Bounds as numbers: radices, and P. Assumes nothing: these are definitions.
use Rattle.std.specs.Prelude.{cond, List, [], ◌∷◌, ℕ, ◌+◌, ◌*◌, eqb}
use Rattle.sheet.specs.Limits.{unbounded}

-- the radix of a bound: 1 if it is none; and P, the product of the radices
abbrev pub radix_by : (bound : ℕ) → ℕ
radix_by b = cond (eqb b unbounded) 1 (b + 1)

unfoldable pub product_by : (bounds : List ℕ) → ℕ
product_by [] = 1
product_by (b ∷ bs) = radix_by b * product_by bs
