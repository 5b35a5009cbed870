-- Sets of numbers as the bits of one number.
use Rattle.std.specs.Prelude.{Bool, cond, ℕ, zero, suc, ◌+◌, ◌-◌, ◌*◌}

-- a mask is one word of 64 bits, so it is of at most 64 numbers; above every mask, 2^64
abbrev pub mask_bits : ℕ
mask_bits = 64

abbrev pub mask_top : ℕ
mask_top = 18446744073709551616

-- the number whose bits, so many of them, are what a test says of 0, 1, ..
unfoldable pub mask_by : (ℕ → Bool) → (count : ℕ) → ℕ
mask_by t zero = 0
mask_by t (suc n) = mask_by (λ w. t (suc w)) n * 2 + cond (t 0) 1 0

-- its bits from w on
unfoldable pub mask_from : (ℕ → Bool) → (count w : ℕ) → ℕ
mask_from t n w = mask_by (λ i. t (w + i)) (n - w)
