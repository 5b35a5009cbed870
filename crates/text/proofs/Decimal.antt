-- A number's digits, by its last digit and the number before it. Assumes nothing.
use mathlib.Core.Path.{◌≡◌, refl, ◌∙◌}
use mathlib.Core.List.{[], ◌∷◌, ◌++◌}
use Prim.Native.Nat.{ℕ, zero, suc, ◌+◌, ◌*◌, ◌/◌, ◌%◌, ◌^◌, ◌≤◌, ◌<◌}
use native.Mathlib.Omega.{arith}
use native.Mathlib.Nat.{pow-suc}
use lib.Dec.{ltb}
use lib.ListN.{length, length-append}
use borrow.Author.Tests.{ltb-false, lt-ltb, le-ltb}
use Rattle.lists.proofs.Tests.{by-test, by_order}
use Rattle.text.specs.Text.{zero_digit, digits_by, decimal}

-- any fuel that is enough gives the same
enough : (f g n : ℕ) → n ≤ f → n ≤ g → digits_by f n ≡ digits_by g n
unfolding digits_by
enough zero zero n h k = refl
enough zero (suc g) n h k = rw (lt-ltb n 10 (omega arith))
enough (suc f) zero n h k = rw (lt-ltb n 10 (omega arith))
enough (suc f) (suc g) n h k =
    by-test (ltb n 10) (λ e. rw e) λ e.
    let m : 10 ≤ n = ltb-false n 10 e in
    rw (e, enough f g (n / 10) (omega arith) (omega arith))

digits-one : (f n : ℕ) → n < 10 → digits_by (suc f) n ≡ (zero_digit + n) ∷ []
unfolding digits_by
digits-one f n h = rw (lt-ltb n 10 h)

digits_more : (f n : ℕ) → 10 ≤ n → digits_by (suc f) n ≡ digits_by f (n / 10) ++ ((zero_digit + n % 10) ∷ [])
unfolding digits_by
digits_more f n h = rw (le-ltb n 10 h)

pub decimal-one : (n : ℕ) → n < 10 → decimal n ≡ (zero_digit + n % 10) ∷ []
unfolding decimal
decimal-one n h = let e : n % 10 ≡ n = omega arith in enough n (suc n) n (omega arith) (omega arith) ∙ rw e (digits-one n n h)

pub decimal-more : (n : ℕ) → 10 ≤ n → decimal n ≡ decimal (n / 10) ++ ((zero_digit + n % 10) ∷ [])
unfolding decimal
decimal-more n h = enough n (suc n) n (omega arith) (omega arith) ∙ digits_more n n h ∙ rw (enough n (n / 10) (n / 10) (omega arith) (omega arith)) refl

tenth : (k n : ℕ) → n < 10 ^ suc (suc k) → n / 10 < 10 ^ suc k
tenth k n h = let e : 10 ^ suc (suc k) ≡ 10 ^ suc k * 10 = pow-suc 10 (suc k) in omega arith

-- a number below a power of ten
pub decimal-length : (k n : ℕ) → n < 10 ^ suc k → length (decimal n) ≤ suc k
decimal-length zero n h = rw (decimal-one n (omega arith)) (omega arith)
decimal-length (suc k) n h =
    by_order 10 n
    (λ m. rw (decimal-more n m, length-append (decimal (n / 10)) ((zero_digit + n % 10) ∷ [])) (omega (arith, decimal-length k (n / 10) (tenth k n h))))
    λ m. rw (decimal-one n m) (omega arith)
