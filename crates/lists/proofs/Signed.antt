-- Numbers with a sign at 32 bits: small numbers there and back, a difference, its size. Assumes nothing.
use mathlib.Core.Path.{◌≡◌, refl, ap}
use mathlib.Core.Bool.{Bool, true, false, true≢false}
use Prim.Native.Nat.{ℕ, zero, suc, ◌+◌, ◌-◌, ◌<◌, ◌≤◌}
use native.Mathlib.Nat.{zero-add}
use native.Mathlib.Omega.{arith}
use borrow.Author.Tests.{ltb-true, ltb-false, le-ltb}
use lib.Dec.{ltb}
use lib.IntN.{ℤ, pos, negsuc, nat_abs, ◌-ℤ◌, sub_ℕ}
use lib.Signed.{mag, lt_z}
use mir.Syntax.{w32}
use mir.Val.{SFits, to_z, of_z}
use mir.ValLaws.{to_z_pos, to_z-of_z}
use Rattle.lists.specs.Signs.{sign_top}

pub small : (n : ℕ) → n < sign_top → SFits w32 (pos n)
small n h = record { sfits = h }

pub back : (n : ℕ) → n < sign_top → to_z w32 n ≡ pos n
back n h = to_z_pos w32 n h

diff-by : (b : Bool) (h k : ℕ) → ltb h (suc k) ≡ b → nat_abs (sub_ℕ h (suc k)) ≡ (h - suc k) + (suc k - h)
diff-by true h k e = rw e (omega (arith, ltb-true h (suc k) e))
diff-by false h k e = rw e (omega (arith, ltb-false h (suc k) e))

-- the size of a difference is how far the two lie apart
pub diff-size : (h y : ℕ) → nat_abs (pos h -ℤ pos y) ≡ (h - y) + (y - h)
diff-size h zero = omega arith
diff-size h (suc k) = diff-by (ltb h (suc k)) h k refl

-- the sign of a difference
sign-by : (b : Bool) (h k : ℕ) → ltb h (suc k) ≡ b → lt_z (sub_ℕ h (suc k)) (pos 0) ≡ b
sign-by true h k e = rw e
sign-by false h k e = rw e (le-ltb (h - suc k) 0 (omega arith))

pub diff-sign : (h y : ℕ) → lt_z (pos h -ℤ pos y) (pos 0) ≡ ltb h y
diff-sign h zero = let e : h + 0 ≡ h = omega arith in ap (λ (n : ℕ). ltb n 0) e
diff-sign h (suc k) = sign-by (ltb h (suc k)) h k refl

mag-le : (z : ℤ) → mag z ≤ nat_abs z
mag-le (pos n) = omega arith
mag-le (negsuc n) = omega arith

pub diff-fits : (h y : ℕ) → h < sign_top → y < sign_top → SFits w32 (pos h -ℤ pos y)
diff-fits h y a b = record { sfits = omega (arith, mag-le (pos h -ℤ pos y), diff-size h y) }

pub diff-back : (h y : ℕ) → h < sign_top → y < sign_top → to_z w32 (of_z w32 (pos h -ℤ pos y)) ≡ pos h -ℤ pos y
diff-back h y a b = to_z-of_z w32 (pos h -ℤ pos y) (diff-fits h y a b)

pub neg_of : (d : ℤ) → lt_z d (pos 0) ≡ true → pos 0 -ℤ d ≡ pos (nat_abs d)
neg_of (pos n) e = absurd (omega (arith, ltb-true n 0 e))
neg_of (negsuc k) e = ap pos (zero-add (suc k))

pub pos_of : (d : ℤ) → lt_z d (pos 0) ≡ false → d ≡ pos (nat_abs d)
pos_of (pos n) e = refl
pos_of (negsuc k) e = absurd (true≢false e)
