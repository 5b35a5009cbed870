-- The order of layouts: number, number, list. Abstract in what is compared.
-- Assumes nothing.
use mathlib.Core.Path.{◌≡◌, refl, sym, ap₂}
use mathlib.Core.Logic.{◌⊎◌, inl, inr}
use mathlib.Core.Bool.{Bool, true, false, ◌&&◌, ◌||◌, false≢true}
use mathlib.Core.List.{List, [], ◌∷◌}
use Prim.Native.Nat.{ℕ, ◌≤◌, ◌<◌}
use native.Mathlib.Omega.{arith}
use lib.Dec.{ltb, eqb}
use lib.ListN.{length}
use borrow.Author.Tests.{ltb-true, ltb-false, eqb-true, lt-ltb, le-ltb, eq-eqb}
use Rattle.labelling.specs.Layout.{comes_first}
use Rattle.lists.proofs.Tests.{clash, and_l, and_r, and_i, or-e, or_l, or_r, is_false, tests}

-- one step of a lexicographic order
abbrev pub lexb : (one other : ℕ) → (rest : Bool) → Bool
lexb a b t = ltb a b || (eqb a b && t)

pub lex-le : (a b : ℕ) (t : Bool) → lexb a b t ≡ false → b ≤ a
lex-le a b t e = ltb-false a b (or_l (ltb a b) (eqb a b && t) e)

pub lex-rest : (a b : ℕ) (t : Bool) → lexb a b t ≡ false → a ≡ b → t ≡ false
lex-rest a b true e q = clash (and_i {b = true} (eq-eqb a b q) refl) (or_r (ltb a b) (eqb a b && true) e)
lex-rest a b false e q = refl

pub lex-false : (a b : ℕ) (t : Bool) → b ≤ a → (a ≡ b → t ≡ false) → lexb a b t ≡ false
lex-false a b t h f =
    is_false (lexb a b t) λ e. go (or-e (ltb a b) (eqb a b && t) e)
  where
    go : (ltb a b ≡ true) ⊎ ((eqb a b && t) ≡ true) → ⊥
    go (inl p) = omega (arith, tests)
    go (inr p) = clash (and_r (eqb a b) t p) (f (eqb-true a b (and_l (eqb a b) t p)))

pub lex-true : (a b : ℕ) (t : Bool) → lexb a b t ≡ true → (a < b) ⊎ ((a ≡ b) × (t ≡ true))
lex-true a b t e = go (or-e (ltb a b) (eqb a b && t) e)
  where
    go : (ltb a b ≡ true) ⊎ ((eqb a b && t) ≡ true) → (a < b) ⊎ ((a ≡ b) × (t ≡ true))
    go (inl p) = inl (ltb-true a b p)
    go (inr p) = inr (eqb-true a b (and_l (eqb a b) t p), and_r (eqb a b) t p)

pub lex-lt : (a b : ℕ) (t : Bool) → a < b → lexb a b t ≡ true
lex-lt a b t h = rw (lt-ltb a b h)

pub lex-eq : (a b : ℕ) (t : Bool) → a ≡ b → t ≡ true → lexb a b t ≡ true
lex-eq a b t h k = rw (le-ltb a b (omega arith), eq-eqb a b h, k)

-- not before, twice
pub lex-trans : (a b c : ℕ) (u v w : Bool) → lexb b a u ≡ false → lexb c b v ≡ false → (u ≡ false → v ≡ false → w ≡ false) → lexb c a w ≡ false
lex-trans a b c u v w p q f =
    let x : a ≤ b = lex-le b a u p in
    let y : b ≤ c = lex-le c b v q in
    lex-false c a w (omega arith) λ e. f (lex-rest b a u p (omega arith)) (lex-rest c b v q (omega arith))

-- before: not after
pub lex-asym : (a b : ℕ) (t u : Bool) → lexb a b t ≡ true → (t ≡ true → u ≡ false) → lexb b a u ≡ false
lex-asym a b t u e f = go (or-e (ltb a b) (eqb a b && t) e)
  where
    go : (ltb a b ≡ true) ⊎ ((eqb a b && t) ≡ true) → lexb b a u ≡ false
    go (inl p) = let h : a < b = ltb-true a b p in lex-false b a u (omega arith) λ q. absurd (omega arith)
    go (inr p) =
        let h : a ≡ b = eqb-true a b (and_l (eqb a b) t p) in
        lex-false b a u (omega arith) λ q. f (and_r (eqb a b) t p)

-- LISTS OF ONE LENGTH
pub first-trans : (xs ys zs : List ℕ) → length xs ≡ length ys → length ys ≡ length zs →
    comes_first ys xs ≡ false → comes_first zs ys ≡ false → comes_first zs xs ≡ false
unfolding comes_first
first-trans xs ys [] l k p q = refl
first-trans [] ys (z ∷ zs) l k p q = refl
first-trans (x ∷ xs) [] (z ∷ zs) l k p q = absurd (omega arith)
first-trans (x ∷ xs) (y ∷ ys) (z ∷ zs) l k p q =
    lex-trans x y z (comes_first ys xs) (comes_first zs ys) (comes_first zs xs) p q (first-trans xs ys zs (omega arith) (omega arith))

pub first-asym : (xs ys : List ℕ) → comes_first xs ys ≡ true → comes_first ys xs ≡ false
unfolding comes_first
first-asym [] ys p = absurd (false≢true p)
first-asym (x ∷ xs) [] p = refl
first-asym (x ∷ xs) (y ∷ ys) p = lex-asym x y (comes_first xs ys) (comes_first ys xs) p (first-asym xs ys)

pub first-total : (xs ys : List ℕ) → length xs ≡ length ys → comes_first xs ys ≡ false → comes_first ys xs ≡ false → xs ≡ ys
unfolding comes_first
first-total [] [] l p q = refl
first-total [] (y ∷ ys) l p q = absurd (omega arith)
first-total (x ∷ xs) [] l p q = absurd (omega arith)
first-total (x ∷ xs) (y ∷ ys) l p q =
    let h : x ≤ y = lex-le y x (comes_first ys xs) q in
    let k : y ≤ x = lex-le x y (comes_first xs ys) p in
    let e : x ≡ y = omega arith in
    ap₂ (λ (a : ℕ) (b : List ℕ). a ∷ b) e
    (first-total xs ys (omega arith) (lex-rest x y (comes_first xs ys) p e) (lex-rest y x (comes_first ys xs) q (sym e)))

-- TWO NUMBERS, THEN A LIST
abbrev pub before : (a b : ℕ) (xs : List ℕ) (c d : ℕ) (ys : List ℕ) → Bool
before a b xs c d ys = lexb a c (lexb b d (comes_first xs ys))

pub before-trans : (a b : ℕ) (xs : List ℕ) (c d : ℕ) (ys : List ℕ) (e f : ℕ) (zs : List ℕ) → length xs ≡ length ys → length ys ≡ length zs →
    before c d ys a b xs ≡ false → before e f zs c d ys ≡ false → before e f zs a b xs ≡ false
before-trans a b xs c d ys e f zs l k p q =
    lex-trans a c e (lexb d b (comes_first ys xs)) (lexb f d (comes_first zs ys)) (lexb f b (comes_first zs xs)) p q
    λ u v. lex-trans b d f (comes_first ys xs) (comes_first zs ys) (comes_first zs xs) u v (first-trans xs ys zs l k)

pub before-asym : (a b : ℕ) (xs : List ℕ) (c d : ℕ) (ys : List ℕ) → before a b xs c d ys ≡ true → before c d ys a b xs ≡ false
before-asym a b xs c d ys p =
    lex-asym a c (lexb b d (comes_first xs ys)) (lexb d b (comes_first ys xs)) p
    (λ u. lex-asym b d (comes_first xs ys) (comes_first ys xs) u (first-asym xs ys))

pub before-total : (a b : ℕ) (xs : List ℕ) (c d : ℕ) (ys : List ℕ) → length xs ≡ length ys →
    before a b xs c d ys ≡ false → before c d ys a b xs ≡ false → xs ≡ ys
before-total a b xs c d ys l p q =
    let t : Bool = lexb b d (comes_first xs ys) in
    let u : Bool = lexb d b (comes_first ys xs) in
    let h : a ≤ c = lex-le c a u q in
    let k : c ≤ a = lex-le a c t p in
    let e : a ≡ c = omega arith in
    let p' : lexb b d (comes_first xs ys) ≡ false = lex-rest a c t p e in
    let q' : lexb d b (comes_first ys xs) ≡ false = lex-rest c a u q (sym e) in
    let h' : b ≤ d = lex-le d b (comes_first ys xs) q' in
    let k' : d ≤ b = lex-le b d (comes_first xs ys) p' in
    let e' : b ≡ d = omega arith in
    first-total xs ys l (lex-rest b d (comes_first xs ys) p' e') (lex-rest d b (comes_first ys xs) q' (sym e'))
