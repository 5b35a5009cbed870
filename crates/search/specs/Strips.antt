-- Strips: how many hold a site, what a step does to them and weighs, the table over them, and the definition by steps. For any strips,
-- sites, steps and costs: what a part of a budget costs is an element of a commutative semiring.
use Rattle.std.specs.Prelude.{Bool, true, false, ℕ, ◌+◌}
use Rattle.std.proofs.Math.Bool.{cond}
use mathlib.Core.List.{List, [], ◌∷◌, ◌++◌}
use Rattle.search.specs.Semi.{sum, prod}

-- 1 where the test passes
abbrev pub one_if : Bool → ℕ
one_if true = 1
one_if false = 0

-- how many of the strips hold the site
unfoldable pub holders : {Strip Site : Type 0} (inside : Strip → Site → Bool) → Site → List Strip → ℕ
holders inside t [] = 0
holders inside t (p ∷ L) = one_if (inside p t) + holders inside t L

-- the strips after the step to slot k: the strip that holds the site is replaced, in place, by its children
unfoldable pub after : {Strip Site : Type 0} (inside : Strip → Site → Bool) (children : Strip → Site → ℕ → List Strip)
    → Site → ℕ → List Strip → List Strip
after inside children s k [] = []
after inside children s k (p ∷ L) = cond (inside p s) (children p s k ++ L) (p ∷ after inside children s k L)

-- the weight of that step: the one that the strip which holds the site has
unfoldable pub weigh : {S Strip Site : Type 0} (none : S) (inside : Strip → Site → Bool) (weight : Strip → Site → ℕ → S)
    → Site → ℕ → List Strip → S
weigh none inside weight s k [] = none
weigh none inside weight s k (p ∷ L) = cond (inside p s) (weight p s k) (weigh none inside weight s k L)

module _ {S Strip Site : Type 0} (add mul : S → S → S) (none one : S) (m : ℕ) (inside : Strip → Site → Bool)
    (weight : Strip → Site → ℕ → S) (children : Strip → Site → ℕ → List Strip) (base : Strip → S) where
  -- the table: what the sites that lie in a strip cost
  unfoldable pub table : List Site → Strip → S
  unfolding prod
  table [] p = base p
  table (s ∷ ss) p =
      cond (inside p s) (sum add none m (λ k. mul (weight p s k) (prod mul one (λ q. table ss q) (children p s k)))) (table ss p)

  -- the budget is split between the strips of a list
  unfoldable pub rest : List Site → List Strip → S
  unfolding table prod
  rest ss L = prod mul one (table ss) L

  -- the definition by steps
  unfoldable pub run : List Site → List Strip → S
  unfolding after weigh
  run [] L = prod mul one base L
  run (s ∷ ss) L = sum add none m (λ k. mul (weigh none inside weight s k L) (run ss (after inside children s k L)))
