-- Sums of a function's values, and a function's values as a list: definitions.
use Rattle.std.specs.Prelude.{List, [], ◌∷◌, ℕ, zero, suc, ◌+◌}

-- f k, f (k+1), .. so many
unfoldable pub listing : (ℕ → ℕ) → (from count : ℕ) → List ℕ
listing f k zero = []
listing f k (suc c) = f k ∷ listing f (suc k) c

-- f 0 + .. + f (n-1)
unfoldable pub sum : ℕ → (ℕ → ℕ) → ℕ
sum zero f = 0
sum (suc n) f = sum n f + f n
