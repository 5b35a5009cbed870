-- Costs: numbers up to `top`, which stands for none. Sums saturate at it, so that none plus anything is none. `least n f` is
-- the least of f 0 .. f (n-1), and `first n t` the first k below n that passes the test t, or n.
use Rattle.std.specs.Prelude.{Bool, cond, ℕ, zero, suc, ◌+◌, min}

module _ (top : ℕ) where
  -- the sum of two costs
  unfoldable pub plus : ℕ → ℕ → ℕ
  plus a b = min (a + b) top

  -- the least of so many
  unfoldable pub least : ℕ → (ℕ → ℕ) → ℕ
  least zero f = top
  least (suc n) f = min (least n f) (f n)

-- the first number that passes a test
unfoldable pub first : ℕ → (ℕ → Bool) → ℕ
first zero t = 0
first (suc n) t = cond (t 0) 0 (suc (first n (λ k. t (suc k))))
