-- Budgets in mixed radix: a number v has a digit for each radix of a list, the lowest first, and what is left above them. So rule 2's
-- bounds are one number (optimum/specs/Budgets). w may be taken from v where each digit of w is at most v's. Any list of radices will
-- do, 0 and 1 among them.
use Rattle.std.specs.Prelude.{Bool, ◌&&◌, List, [], ◌∷◌, ℕ, zero, suc, ◌+◌, ◌*◌, ◌/◌, ◌%◌, leb}
use Rattle.search.specs.Masks.{mask_by}

-- w may be taken from v
unfoldable pub below : List ℕ → ℕ → ℕ → Bool
below [] w v = leb w v
below (r ∷ rs) w v = leb (w % r) (v % r) && below rs (w / r) (v / r)

-- one digit of a budget, and the number that has 1 at a digit
unfoldable pub digit_of : List ℕ → ℕ → ℕ → ℕ
digit_of [] c v = 0
digit_of (r ∷ rs) zero v = v % r
digit_of (r ∷ rs) (suc c) v = digit_of rs c (v / r)

unfoldable pub place : List ℕ → ℕ → ℕ
place [] c = 0
place (r ∷ rs) zero = 1
place (r ∷ rs) (suc c) = place rs c * r

-- ---- what may be taken from a budget, as a mask

-- the mask of the budget v: bit w says that w may be taken from it
unfoldable pub mask_of : (radices : List ℕ) → (v : ℕ) → ℕ
mask_of rs v = mask_by (λ w. below rs w v) (v + 1)
