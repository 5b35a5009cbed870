-- Splitting a budget. `below w v` says that w may be taken from the budget v, which leaves v - w; `conv f g v` is the least cost of
-- splitting v between f and g. With it, and the least of two, the functions from budgets to costs are a commutative semiring (proofs/Split).
use Rattle.std.specs.Prelude.{◌≡◌, Bool, true, cond, ℕ, suc, ◌-◌, ◌≤◌, min, eqb}
use Rattle.search.specs.Cost.{plus, least}

-- what may be taken from what
pub record Splitting (below : ℕ → ℕ → Bool) : Type 0 where
  pub fits : (w v : ℕ) → below w v ≡ true → w ≤ v
  pub nothing : (v : ℕ) → below 0 v ≡ true
  pub other : (w v : ℕ) → below w v ≡ true → below (v - w) v ≡ true
  pub trans : (a w v : ℕ) → below a w ≡ true → below w v ≡ true → below a v ≡ true
  pub less : (a w v : ℕ) → below a w ≡ true → below w v ≡ true → below (w - a) (v - a) ≡ true

-- the least cost of splitting v between f and g: the convolution of f and g in sums and minima
unfoldable pub conv : (top : ℕ) (below : ℕ → ℕ → Bool) → (ℕ → ℕ) → (ℕ → ℕ) → ℕ → ℕ
conv top below f g v = least top (suc v) (λ w. cond (below w v) (plus top (f w) (g (v - w))) top)

-- the cheaper of two; what cannot be had; what takes just e and costs c
unfoldable pub cheaper : (ℕ → ℕ) → (ℕ → ℕ) → ℕ → ℕ
cheaper f g v = min (f v) (g v)

unfoldable pub never : (top : ℕ) → ℕ → ℕ
never top v = top

unfoldable pub just : (top c e : ℕ) → ℕ → ℕ
just top c e w = cond (eqb w e) c top
