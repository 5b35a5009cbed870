-- Tests and case splits: what a test says, and proofs by its two outcomes. Assumes nothing.
use mathlib.Core.Path.{◌≡◌, refl, sym, ◌∙◌}
use mathlib.Core.Logic.{◌⊎◌, inl, inr, ◌≢◌}
use mathlib.Core.Bool.{Bool, true, false, ◌&&◌, ◌||◌, not, true≢false, false≢true}
use Prim.Native.Nat.{ℕ, ◌≤◌, ◌<◌}
use native.Mathlib.Decide.{dec_le, ℕ_discrete}
use native.Mathlib.Omega.{arith}
use lib.Dec.{eqb}
use borrow.Author.Tests.{ltb-true, ltb-false, leb-true, leb-false, eqb-true, eqb-false, lt-ltb, le-ltb, le-leb, lt-leb, eq-eqb, ne_eqb}

-- on a test, with the equation that it came out so
pub by-test {ℓ} : {P : Type ℓ} (b : Bool) → (b ≡ true → P) → (b ≡ false → P) → P
by-test true f g = f refl
by-test false f g = g refl

-- on the order of two numbers
pub by_order {ℓ} : {P : Type ℓ} (a b : ℕ) → (a ≤ b → P) → (b < a → P) → P
by_order a b f g = elim (dec_le a b) [ yes h ↦ f h | no h ↦ g (omega arith) ]

pub by_equal {ℓ} : {P : Type ℓ} (a b : ℕ) → (a ≡ b → P) → (a ≢ b → P) → P
by_equal a b f g = elim (ℕ_discrete a b) [ yes h ↦ f h | no h ↦ g h ]

-- on a sum
pub by-either {ℓ} : {A B : Type 0} {P : Type ℓ} → A ⊎ B → (A → P) → (B → P) → P
by-either (inl a) f g = f a
by-either (inr b) f g = g b

-- a test does not come out both ways
pub clash {ℓ} : {P : Type ℓ} {b : Bool} → b ≡ true → b ≡ false → P
clash p q = absurd (true≢false (sym p ∙ q))

-- a conjunction of tests
pub and_both : (a b : Bool) → a && b ≡ true → (a ≡ true) × (b ≡ true)
and_both true b h = (refl, h)
and_both false b h = (h, let z : false ≡ true = h in cc)

pub and-of : (a b : Bool) → a ≡ true → b ≡ true → a && b ≡ true
and-of a b h k = rw (h, k)

pub and_l : (a b : Bool) → (a && b) ≡ true → a ≡ true
and_l true b e = refl
and_l false b e = e

pub and_r : (a b : Bool) → (a && b) ≡ true → b ≡ true
and_r true b e = e
and_r false b e = absurd (false≢true e)

pub and_i : {a b : Bool} → a ≡ true → b ≡ true → (a && b) ≡ true
and_i p q = cc

pub or-e : (a b : Bool) → (a || b) ≡ true → (a ≡ true) ⊎ (b ≡ true)
or-e true b e = inl refl
or-e false b e = inr e

pub or_l : (a b : Bool) → (a || b) ≡ false → a ≡ false
or_l true b e = absurd (true≢false e)
or_l false b e = refl

pub or_r : (a b : Bool) → (a || b) ≡ false → b ≡ false
or_r true b e = absurd (true≢false e)
or_r false b e = e

-- not true: false
pub is_false : (b : Bool) → (b ≡ true → ⊥) → b ≡ false
is_false true f = absurd (f refl)
is_false false f = refl

pub is_true : (b : Bool) → (b ≡ false → ⊥) → b ≡ true
is_true true f = refl
is_true false f = absurd (f refl)

-- two tests that say the same
pub same_test : (a b : Bool) → (a ≡ true → b ≡ true) → (b ≡ true → a ≡ true) → a ≡ b
same_test true b f g = sym (f refl)
same_test false true f g = g refl
same_test false false f g = refl

pub not-e : (b : Bool) → not b ≡ false → b ≡ true
not-e true e = refl
not-e false e = sym e

pub not_f : (b : Bool) → not b ≡ true → b ≡ false
not_f true e = sym e
not_f false e = refl

pub not-not : (b : Bool) → not (not b) ≡ b
not-not true = refl
not-not false = refl

pub not-and : (a b : Bool) → (not a || not b) ≡ not (a && b)
not-and true b = refl
not-and false b = refl

pub and-true : (b : Bool) → (b && true) ≡ b
and-true true = refl
and-true false = refl

-- for `omega (arith, tests)`: what a test says of numbers, and its value from what is known
pub ruleset tests = (ltb-true, ltb-false, leb-true, leb-false, eqb-true, eqb-false, lt-ltb, le-ltb, le-leb, lt-leb, eq-eqb, ne_eqb)

pub eqb-self : (n : ℕ) → eqb n n ≡ true
eqb-self n = eq-eqb n n refl

pub eqb-sym : (m n : ℕ) → eqb m n ≡ eqb n m
eqb-sym m n = by_equal m n (λ e. rw (eq-eqb m n e, eq-eqb n m (sym e))) λ e. rw (ne_eqb m n e, ne_eqb n m (λ q. e (sym q)))
