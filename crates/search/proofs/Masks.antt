-- Laws of masks, for any test: a bit of one, a bit more, what is left without its lowest bits, two as one. Assumes nothing.
use mathlib.Core.Path.{◌≡◌, refl, sym, ap, ap₂, ◌∙◌}
use mathlib.Core.Bool.{Bool, true, false, cond, ◌||◌}
use Prim.Native.Nat.{ℕ, zero, suc, ◌+◌, ◌-◌, ◌*◌, ◌/◌, ◌%◌, ◌^◌, ◌≤◌, ◌<◌, max}
use native.Mathlib.Nat.{div-div-eq-div-mul, div-one, pow-zero, pow-succ'}
use native.Mathlib.Omega.{arith}
use lib.Bits.{bit_or, or_step, or_zero_l}
use lib.Dec.{eqb}
use lib.Pow.{pow_mono}
use mir.Val.{bool_byte}
use Rattle.search.specs.Masks.{mask_by, mask_from, mask_bits, mask_top}

-- ---- the lowest bit and the others

half : (m : ℕ) (t : Bool) → (m * 2 + cond t 1 0) / 2 ≡ m
half m true = omega arith
half m false = omega arith

odd : (m : ℕ) (t : Bool) → (m * 2 + cond t 1 0) % 2 ≡ cond t 1 0
odd m true = omega arith
odd m false = omega arith

is_one : (t : Bool) → eqb (cond t 1 0) 1 ≡ t
is_one true = refl
is_one false = refl

low_bit : (m : ℕ) (t : Bool) → eqb ((m * 2 + cond t 1 0) % 2) 1 ≡ t
low_bit m t = ap (λ (b : ℕ). eqb b 1) (odd m t) ∙ is_one t

-- a test as the number that code makes of it
pub bit-of : (t : Bool) → bool_byte t ≡ cond t 1 0
bit-of true = refl
bit-of false = refl

pub bit-small : (t : Bool) → cond t 1 0 < 2
bit-small true = omega arith
bit-small false = omega arith

mask-small : (t : ℕ → Bool) (n : ℕ) → mask_by t n < 2 ^ n
unfolding mask_by
mask-small t zero = rw pow-zero (omega arith)
mask-small t (suc n) = rw pow-succ' (omega (arith, mask-small (λ k. t (suc k)) n, bit-small (t 0)))

-- ---- masks of other tests

-- tests that say the same of all numbers give the same mask
pub mask-cong : (s t : ℕ → Bool) (n : ℕ) → ((k : ℕ) → k < n → s k ≡ t k) → mask_by s n ≡ mask_by t n
unfolding mask_by
mask-cong s t zero h = refl
mask-cong s t (suc n) h =
    ap₂ (λ (m : ℕ) (b : Bool). m * 2 + cond b 1 0) (mask-cong (λ k. s (suc k)) (λ k. t (suc k)) n (λ k l. h (suc k) (omega arith))) (h 0 (omega arith))

-- a test that nothing passes gives 0
pub mask-empty : (n : ℕ) → mask_by (λ k. false) n ≡ 0
unfolding mask_by
mask-empty zero = refl
mask-empty (suc n) = rw (mask-empty n) refl

-- what is in one of two is in both together
either-bit : (a b : Bool) → max (cond a 1 0) (cond b 1 0) ≡ cond (a || b) 1 0
either-bit true true = refl
either-bit true false = refl
either-bit false true = refl
either-bit false false = refl

pub mask-or : (s t : ℕ → Bool) (n : ℕ) → bit_or (mask_by s n) (mask_by t n) ≡ mask_by (λ k. s k || t k) n
unfolding mask_by
mask-or s t zero = or_zero_l 0
mask-or s t (suc n) =
    or_step (a * 2 + cond (s 0) 1 0) (b * 2 + cond (t 0) 1 0)
    ∙ ap₂ (λ (u v : ℕ). u * 2 + v)
    (ap₂ bit_or (half a (s 0)) (half b (t 0)) ∙ mask-or (λ k. s (suc k)) (λ k. t (suc k)) n)
    (ap₂ max (odd a (s 0)) (odd b (t 0)) ∙ either-bit (s 0) (t 0))
  where
    a : ℕ
    a = mask_by (λ k. s (suc k)) n

    b : ℕ
    b = mask_by (λ k. t (suc k)) n

-- A BIT of a mask is what the test says of its number
pub mask-bit : (t : ℕ → Bool) (n k : ℕ) → k < n → eqb (mask_by t n / 2 ^ k % 2) 1 ≡ t k
unfolding mask_by
mask-bit t zero k h = absurd (omega arith)
mask-bit t (suc n) zero h = rw (pow-zero, div-one) (low_bit (mask_by (λ k. t (suc k)) n) (t 0))
mask-bit t (suc n) (suc k) h =
    let m = mask_by (λ k. t (suc k)) n in
    let e : (m * 2 + cond (t 0) 1 0) / 2 ^ suc k ≡ m / 2 ^ k
    = ap (λ (z : ℕ). (m * 2 + cond (t 0) 1 0) / z) two-pow ∙ sym (div-div-eq-div-mul (m * 2 + cond (t 0) 1 0) 2 (2 ^ k)) ∙ ap (λ (z : ℕ). z / 2 ^ k) (half m (t 0)) in
    rw e (mask-bit (λ k. t (suc k)) n k (omega arith))
  where
    two-pow : 2 ^ suc k ≡ 2 * 2 ^ k
    two-pow = rw pow-succ' (omega arith)

-- ---- without its lowest w bits: nothing is left of it past the last, its lowest bit is that of w, all of it is the mask

pub mask-none : (t : ℕ → Bool) (n : ℕ) → 0 ≡ mask_from t n n
unfolding mask_from mask_by
mask-none t n = let e : n - n ≡ 0 = omega arith in rw e refl

mask-more : (t : ℕ → Bool) (n w : ℕ) → w < n → mask_from t n (w + 1) * 2 + cond (t w) 1 0 ≡ mask_from t n w
unfolding mask_from mask_by
mask-more t n w h =
    let e : n - w ≡ suc (n - (w + 1)) = omega arith in
    rw e
    (ap₂ (λ (m : ℕ) (b : Bool). m * 2 + cond b 1 0)
    (mask-cong _ _ (n - (w + 1)) (λ k l. ap t (omega arith)))
    (ap t (omega arith)))

pub mask_low : (t : ℕ → Bool) (n w : ℕ) → w < n → eqb (mask_from t n w % 2) 1 ≡ t w
mask_low t n w h = rw (← (mask-more t n w h)) (low_bit (mask_from t n (w + 1)) (t w))

pub mask-half : (t : ℕ → Bool) (n w : ℕ) → w < n → mask_from t n w / 2 ≡ mask_from t n (w + 1)
mask-half t n w h = rw (← (mask-more t n w h)) (half (mask_from t n (w + 1)) (t w))

pub mask-all : (t : ℕ → Bool) (n : ℕ) → mask_from t n 0 ≡ mask_by t n
unfolding mask_from
mask-all t n =
    let e : n - 0 ≡ n = omega arith in
    rw e (mask-cong _ _ n (λ k l. ap t (omega arith)))

-- it is one word, of 64 bits
mask_word : (t : ℕ → Bool) (n w : ℕ) → n ≤ mask_bits → mask_from t n w < mask_top
unfolding mask_from
mask_word t n w h =
    let p : 2 ^ (n - w) ≤ 2 ^ mask_bits = pow_mono {i = n - w} {j = mask_bits} (omega arith) in
    omega (arith, mask-small (λ i. t (w + i)) (n - w))

-- A BIT MORE, as a loop downwards adds it, and that there is room for it
pub mask-down : (t : ℕ → Bool) (n m k : ℕ) → 0 < k → k ≤ n → m ≡ mask_from t n k → m * 2 + cond (t (k - 1)) 1 0 ≡ mask_from t n (k - 1)
mask-down t n m k h l e =
    let q : k ≡ k - 1 + 1 = omega arith in
    ap (λ (z : ℕ). z * 2 + cond (t (k - 1)) 1 0) (e ∙ ap (mask_from t n) q) ∙ mask-more t n (k - 1) (omega arith)

pub mask-room : (t : ℕ → Bool) (n m k : ℕ) → n ≤ mask_bits → 0 < k → k ≤ n → m ≡ mask_from t n k → m * 2 + 1 < mask_top
mask-room t n m k f h l e = omega (arith, mask-down t n m k h l e, mask_word t n (k - 1) f)
