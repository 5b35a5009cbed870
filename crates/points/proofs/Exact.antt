-- `in_points n` is an eighth of n, a 32-bit float holds it, and no other float is both. The code's division gives it. Assumes nothing.
use mathlib.Core.Path.{◌≡◌, refl, sym, ap, subst, ◌∙◌}
use mathlib.Core.Bool.{true, false, true≢false}
use Prim.Native.Nat.{ℕ, zero, suc, ◌+◌, ◌-◌, ◌*◌, ◌/◌, ◌^◌, ◌≤◌, ◌<◌}
use native.Mathlib.Nat.{mul_comm, mul_assoc, mul-one, mul_right_comm, mul-pos, lt_of_lt_of_le, lt_of_le_of_lt, le_of_lt, zero-lt-suc, eq_of_mul-eq-mul_right}
use native.Mathlib.Decide.{dec_le}
use native.Mathlib.Omega.{arith}
use lib.IntN.{ℤ, pos, negsuc}
use lib.Dec.{T, le→leb, lit≤, lit<}
use lib.Pow.{shl_lt, pow_mono}
use lib.Count.{count_trailing_zeros}
use lib.Ieee.{Float, nan, inf, fin, binary32, prec, low, up, down, minus, size, hid, odd, round, div, of_int, in_float, fits, of_bits, to_bits}
use lib.Ieee.Fits.{odd-fits, round-fits, down_pos}
use lib.Ieee.Exact.{HasValue, odd_sign, round_exact}
use lib.Ieee.Back.{round_whole}
use lib.Ieee.Scale.{round_same}
use lib.Ieee.Nearest.{div_same}
use lib.Ieee.Bits.{of_bits-to_bits}
use borrow.Author.Tests.{le-leb, lt-leb}
use Rattle.points.specs.Points.{widest_number, IsEighth, in_points, PointsExact}

-- ---- its value
eighth-of : (x : Float) (n : ℕ) → HasValue x false n 8 → IsEighth n x
eighth-of nan n v = v
eighth-of (inf s) n v = v
eighth-of (fin s m e) n v = (v.0, mul_comm 8 (m * up e) ∙ v.1)

-- EIGHT TIMES THE FLOAT IS THE WHOLE NUMBER
pub in-points-exact : (n : ℕ) → IsEighth n (in_points n)
unfolding in_points
in-points-exact n = eighth-of (in_points n) n (subst (λ (a : ℕ). HasValue (in_points n) false a 8) (mul-one n) (odd_sign (prec binary32) false n 0 3))

-- zero is plus zero
in-points-zero : in_points 0 ≡ fin false 0 (pos 0)
unfolding in_points
in-points-zero = refl

-- 0.0 as the machine has it, by its bits
pub zero_is : of_bits binary32 0 ≡ in_points 0
unfolding of_bits in_points
zero_is = refl

-- a float is an eighth of one number only
pub eighth-injective : (n k : ℕ) (x : Float) → IsEighth n x → IsEighth k x → n ≡ k
eighth-injective n k nan v w = absurd v
eighth-injective n k (inf s) v w = absurd v
eighth-injective n k (fin s m e) v w = eq_of_mul-eq-mul_right (down e) (down_pos e) n k (sym v.1 ∙ w.1)

-- ---- a 32-bit float holds it
few-digits : (n : ℕ) → n ≤ widest_number → n < 2 ^ prec binary32
few-digits n h = lt_of_le_of_lt h (lit< tt)

-- The least positive 32-bit float is 2 ^ -149, so an eighth is 2 ^ 146 of it. From 2 ^ 277 of it on, a float is infinite
no_overflow : (n : ℕ) → n ≤ widest_number → n * 2 ^ 146 < 2 ^ 277
no_overflow n h = lt_of_lt_of_le (shl_lt 24 146 (few-digits n h)) (pow_mono {i = 170} {j = 277} (lit≤ tt))

same-exponent : (t : ℕ) → minus (146 + t) 149 ≡ minus (0 + t) 3
same-exponent t =
    elim (dec_le 3 t) [
      | yes h ↦ rw (le-leb 149 (146 + t) (omega arith), le-leb 3 (0 + t) (omega arith)) (ap pos (omega arith))
      | no h ↦ rw (lt-leb 149 (146 + t) (omega arith), lt-leb 3 (0 + t) (omega arith)) (ap negsuc (omega arith))
    ]

of-the-least : (n : ℕ) → odd (prec binary32) false n 146 (low binary32) ≡ in_points n
unfolding in_points odd
of-the-least zero = refl
of-the-least (suc n) =
    let t = count_trailing_zeros (prec binary32) (suc n) in
    ap (fin false (suc n / 2 ^ t)) (same-exponent t)

pub in-points-fits : (n : ℕ) → n ≤ widest_number → T (fits binary32 (in_points n))
in-points-fits n h =
    subst (λ (x : Float). T (fits binary32 x)) (of-the-least n)
    (odd-fits binary32 (prec binary32) false n 146 (few-digits n h) (le_of_lt (few-digits n h)) (no_overflow n h))

-- ---- no other float is both: a float's bits follow from its value, and the float from its bits
same_bits : (m n : ℕ) (e g : ℤ) → m * up e * down g ≡ n * up g * down e → to_bits binary32 (fin false m e) ≡ to_bits binary32 (fin false n g)
unfolding to_bits
same_bits m n e g h =
    let least = 2 ^ low binary32 in
    ap (λ (z : ℕ). 0 + (size z - prec binary32) * hid binary32 + z / 2 ^ (size z - prec binary32))
    (div_same (m * up e * least) (down e) (n * up g * least) (down g) (down_pos e) (down_pos g)
    (mul_right_comm (m * up e) least (down g) ∙ ap (λ (z : ℕ). z * least) h ∙ mul_right_comm (n * up g) (down e) least))

-- n * 2 ^ -3 has the bits, though n may be even
eighth-bits : (n : ℕ) (x : Float) → IsEighth n x → to_bits binary32 x ≡ to_bits binary32 (fin false n (negsuc 2))
eighth-bits n nan v = absurd v
eighth-bits n (inf s) v = absurd v
eighth-bits n (fin true m e) v = absurd (true≢false v.0)
eighth-bits n (fin false m e) v = same_bits m n e (negsuc 2) (mul_comm (m * up e) 8 ∙ v.1 ∙ ap (λ (z : ℕ). z * down e) (sym (mul-one n)))

-- THE FLOAT IS FIXED by the number that it is an eighth of
pub in-points-only : (n : ℕ) (x : Float) → n ≤ widest_number → T (fits binary32 x) → IsEighth n x → x ≡ in_points n
in-points-only n x h p v =
    sym (of_bits-to_bits binary32 x p)
    ∙ ap (of_bits binary32) (eighth-bits n x v ∙ sym (eighth-bits n (in_points n) (in-points-exact n)))
    ∙ of_bits-to_bits binary32 (in_points n) (in-points-fits n h)

pub points-exact : PointsExact
points-exact = record { held = in-points-fits; exact = λ n h. in-points-exact n; only = in-points-only; plus-zero = in-points-zero; lossless = eighth-injective }

-- ---- the code's cast and division
pub can-be-cast : (n : ℕ) → n ≤ widest_number → T (in_float binary32 (pos n))
unfolding in_float
can-be-cast n h = le→leb n (2 ^ prec binary32) (le_of_lt (few-digits n h))

cast-value : (n : ℕ) → n ≤ widest_number → HasValue (of_int binary32 (pos n)) false n 1
unfolding of_int
cast-value n h = round_whole binary32 false n (le_of_lt (few-digits n h))

divided-at : (x : Float) (n : ℕ) → HasValue x false n 1 → div binary32 x (fin false 1 (pos 3)) ≡ round binary32 false n 8
unfolding div
divided-at nan n v = absurd v
divided-at (inf s) n v = absurd v
divided-at (fin true m e) n v = absurd (true≢false v.0)
divided-at (fin false m e) n v =
    round_same binary32 false (m * up e * 1) (8 * down e) n 8 (mul-pos (zero-lt-suc 7) (down_pos e)) (zero-lt-suc 7)
    (ap (λ (z : ℕ). z * 8) v.1 ∙ mul_assoc n (down e) 8 ∙ ap (λ (z : ℕ). n * z) (mul_comm (down e) 8))

-- nothing is rounded
rounded-value : (n : ℕ) → n ≤ widest_number → HasValue (round binary32 false n 8) false n 8
rounded-value n h = round_exact binary32 false n 8 n 146 (zero-lt-suc 7) (few-digits n h) (no_overflow n h) (sym (mul_assoc n (2 ^ 146) 8))

-- 8.0 as the machine has it, by its bits
eight : of_bits binary32 0x4100_0000 ≡ fin false 1 (pos 3)
unfolding of_bits
eight = refl

pub divided : (n : ℕ) → n ≤ widest_number → div binary32 (of_int binary32 (pos n)) (of_bits binary32 0x4100_0000) ≡ in_points n
divided n h =
    let x = of_int binary32 (pos n) in
    let r = round binary32 false n 8 in
    ap (div binary32 x) eight ∙ divided-at x n (cast-value n h)
    ∙ in-points-only n r h (round-fits binary32 false n 8) (eighth-of r n (rounded-value n h))
