-- The number of those of which a statement holds: none, the same of an equal statement, one more, one less; there is one at most. Assumes nothing.
use mathlib.Core.Path.{◌≡◌, refl, sym, ap, ◌∙◌, subst}
use mathlib.Core.Logic.{◌⊎◌, inl, inr}
use mathlib.Core.Bool.{cond}
use Prim.Native.Nat.{ℕ, zero, suc, ◌<◌}
use native.Mathlib.Omega.{arith}
use lib.Dec.{eqb}
use borrow.Author.Tests.{eq-eqb, ne_eqb}
use Rattle.lists.specs.Number.{NumberOf}
use Rattle.lists.proofs.Tests.{by_equal, by-either}

pub number-none : {P : ℕ → Type 0} → ((k : ℕ) → P k → ⊥) → NumberOf P 0
number-none e = record { at = λ i. 0; holds = λ i l. absurd (omega arith); once = λ i j l m q. absurd (omega arith); every = λ k p. absurd (e k p) }

pub number_same : {P Q : ℕ → Type 0} {n : ℕ} → ((k : ℕ) → P k → Q k) → ((k : ℕ) → Q k → P k) → NumberOf P n → NumberOf Q n
number_same f g a = record { at = a.at; holds = λ i l. f (a.at i) (a.holds i l); once = a.once; every = λ k q. a.every k (g k q) }

-- one place with another number
abbrev put : (at : ℕ → ℕ) → (place number : ℕ) → ℕ → ℕ
put f i k j = cond (eqb j i) k (f j)

put-here : (f : ℕ → ℕ) (i k : ℕ) → put f i k i ≡ k
put-here f i k = rw (eq-eqb i i refl)

put_other : (f : ℕ → ℕ) (i k j : ℕ) → (j ≡ i → ⊥) → put f i k j ≡ f j
put_other f i k j n = rw (ne_eqb j i n)

-- ONE MORE
pub number_more : {P : ℕ → Type 0} {n : ℕ} (k : ℕ) → (P k → ⊥) → NumberOf P n → NumberOf (λ j. P j ⊎ (j ≡ k)) (suc n)
number_more {P} {n} k new a = record { at = f; holds = holds; once = once; every = every }
  where
    f : ℕ → ℕ
    f = put a.at n k

    before : (i : ℕ) → i < n → f i ≡ a.at i
    before i l = put_other a.at n k i (λ e. omega arith)

    holds : (i : ℕ) → i < suc n → P (f i) ⊎ (f i ≡ k)
    holds i l =
        by_equal i n (λ e. inr (ap f e ∙ put-here a.at n k)) λ e.
        let m : i < n = omega arith in inl (subst P (sym (before i m)) (a.holds i m))

    -- what stands before is other
    other : (i : ℕ) → i < n → f i ≡ f n → ⊥
    other i l e = new (subst P (sym (before i l) ∙ e ∙ put-here a.at n k) (a.holds i l))

    once : (i j : ℕ) → i < suc n → j < suc n → f i ≡ f j → i ≡ j
    once i j l m e =
        by_equal i n
        (λ p. by_equal j n (λ q. p ∙ sym q) λ q. absurd (other j (omega arith) (sym e ∙ ap f p)))
        λ p. by_equal j n (λ q. absurd (other i (omega arith) (e ∙ ap f q)))
        λ q. let u : i < n = omega arith in let v : j < n = omega arith in a.once i j u v (sym (before i u) ∙ e ∙ before j v)

    every : (j : ℕ) → P j ⊎ (j ≡ k) → (i : ℕ) × (i < suc n) × (f i ≡ j)
    every j p =
        by-either p (λ h. let (i, l, e) = a.every j h in (i, omega arith, before i l ∙ e)) λ e. (n, omega arith, put-here a.at n k ∙ sym e)

-- ONE LESS: the last takes its place
pub number-less : {P : ℕ → Type 0} {n : ℕ} (k : ℕ) → P k → NumberOf P (suc n) → NumberOf (λ j. P j × (j ≡ k → ⊥)) n
number-less {P} {n} k p a = record { at = f; holds = holds; once = once; every = every }
  where
    z : ℕ
    z = (a.every k p).0

    zl : z < suc n
    zl = (a.every k p).1

    ze : a.at z ≡ k
    ze = (a.every k p).2

    f : ℕ → ℕ
    f = put a.at z (a.at n)

    here : (i : ℕ) → i ≡ z → f i ≡ a.at n
    here i e = ap f e ∙ put-here a.at z (a.at n)

    there : (i : ℕ) → (i ≡ z → ⊥) → f i ≡ a.at i
    there i e = put_other a.at z (a.at n) i e

    -- a place whose number was k is z
    only : (i : ℕ) → i < suc n → a.at i ≡ k → i ≡ z
    only i l e = a.once i z l zl (e ∙ sym ze)

    holds : (i : ℕ) → i < n → P (f i) × (f i ≡ k → ⊥)
    holds i l =
        by_equal i z
        (λ e. (subst P (sym (here i e)) (a.holds n (omega arith)), λ q. let y : n ≡ z = only n (omega arith) (sym (here i e) ∙ q) in omega arith))
        λ e. (subst P (sym (there i e)) (a.holds i (omega arith)), λ q. e (only i (omega arith) (sym (there i e) ∙ q)))

    once : (i j : ℕ) → i < n → j < n → f i ≡ f j → i ≡ j
    once i j l m e =
        by_equal i z
        (λ p. by_equal j z (λ q. p ∙ sym q) λ q. let y : n ≡ j = a.once n j (omega arith) (omega arith) (sym (here i p) ∙ e ∙ there j q) in absurd (omega arith))
        λ p. by_equal j z (λ q. let y : i ≡ n = a.once i n (omega arith) (omega arith) (sym (there i p) ∙ e ∙ here j q) in absurd (omega arith))
        λ q. a.once i j (omega arith) (omega arith) (sym (there i p) ∙ e ∙ there j q)

    every : (j : ℕ) → P j × (j ≡ k → ⊥) → (i : ℕ) × (i < n) × (f i ≡ j)
    every j (h, d) =
        let (i, l, e) = a.every j h in
        let c : (i ≡ z → ⊥) = λ q. d (sym e ∙ ap a.at q ∙ ze) in
        by_equal i n
        (λ q. (z, omega (arith, zl, c), here z refl ∙ ap a.at (sym q) ∙ e))
        λ q. (i, omega arith, there i c ∙ e)

-- ONE AT MOST
pub number-one : {P : ℕ → Type 0} (n m : ℕ) → NumberOf P n → NumberOf P m → n ≡ m
number-one zero zero a b = refl
number-one zero (suc m) a b = let (i, l, e) = a.every (b.at 0) (b.holds 0 (omega arith)) in absurd (omega arith)
number-one (suc n) zero a b = let (i, l, e) = b.every (a.at 0) (a.holds 0 (omega arith)) in absurd (omega arith)
number-one (suc n) (suc m) a b =
    let p = a.holds 0 (omega arith) in ap suc (number-one n m (number-less (a.at 0) p a) (number-less (a.at 0) p b))
