-- Laws of sums and products in a commutative semiring.
use mathlib.Core.Path.{◌≡◌, refl, sym, ap, ap₂, ◌∙◌}
use mathlib.Core.List.{List, [], ◌∷◌, ◌++◌}
use Prim.Native.Nat.{ℕ, zero, suc}
use Rattle.search.specs.Semi.{Semiring, sum, prod, fold}

module _ {S : Type 0} {add mul : S → S → S} {none one : S} (R : Semiring S add mul none one) where
  pub sum-cong : (n : ℕ) (f g : ℕ → S) → ((k : ℕ) → f k ≡ g k) → sum add none n f ≡ sum add none n g
  unfolding sum
  sum-cong zero f g h = refl
  sum-cong (suc n) f g h = ap₂ add (sum-cong n f g h) (h n)

  -- a factor goes into a sum
  pub mul-sum : (n : ℕ) (a : S) (f : ℕ → S) → mul a (sum add none n f) ≡ sum add none n (λ k. mul a (f k))
  unfolding sum
  mul-sum zero a f = R.absorbs a
  mul-sum (suc n) a f = R.dist a (sum add none n f) (f n) ∙ ap (λ (z : S). add z (mul a (f n))) (mul-sum n a f)

  pub sum-mul : (n : ℕ) (a : S) (f : ℕ → S) → mul (sum add none n f) a ≡ sum add none n (λ k. mul (f k) a)
  sum-mul n a f = R.comm _ a ∙ mul-sum n a f ∙ sum-cong n (λ k. mul a (f k)) (λ k. mul (f k) a) (λ k. R.comm a (f k))

  -- a product over two lists
  pub one-prod : {A : Type 0} (f : A → S) (xs : List A) → mul one (prod mul one f xs) ≡ prod mul one f xs
  unfolding prod
  one-prod f [] = R.one-one
  one-prod f (x ∷ xs) = R.one-mul (f x) (prod mul one f xs)

  pub prod-append : {A : Type 0} (f : A → S) (xs ys : List A) → prod mul one f (xs ++ ys) ≡ mul (prod mul one f xs) (prod mul one f ys)
  unfolding prod
  prod-append f [] ys = sym (one-prod f ys)
  prod-append f (x ∷ xs) ys = ap (mul (f x)) (prod-append f xs ys) ∙ sym (R.assoc (f x) (prod mul one f xs) (prod mul one f ys))

  -- a factor goes past the one beside it
  pub swap : (a b c : S) → mul a (mul b c) ≡ mul b (mul a c)
  swap a b c = sym (R.assoc a b c) ∙ ap (λ (z : S). mul z c) (R.comm a b) ∙ R.assoc b a c

  -- a loop that folds the product from the left, from an element that the unit leaves as it is
  pub fold-prod : {A : Type 0} (f : A → S) (xs : List A) (acc : S) → mul one acc ≡ acc → fold mul f acc xs ≡ mul acc (prod mul one f xs)
  unfolding fold prod
  fold-prod f [] acc h = sym (R.comm acc one ∙ h)
  fold-prod f (x ∷ xs) acc h = fold-prod f xs (mul acc (f x)) (R.one-mul acc (f x)) ∙ R.assoc acc (f x) (prod mul one f xs)
