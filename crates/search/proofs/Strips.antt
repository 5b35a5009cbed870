-- THEOREM 3: strips are independent. For any strips, sites, steps and costs.
use mathlib.Core.Path.{◌≡◌, refl, sym, ap, ap₂, ◌∙◌}
use mathlib.Core.Logic.{◌⊎◌, inl, inr}
use mathlib.Core.Bool.{Bool, true, false}
use mathlib.Core.List.{List, [], ◌∷◌, ◌++◌}
use Prim.Native.Nat.{ℕ, suc, ◌+◌}
use native.Mathlib.Nat.{zero-add, add_assoc}
use native.Mathlib.Omega.{arith}
use Rattle.lists.proofs.Tests.{by-test, by-either}
use Rattle.search.specs.Semi.{Semiring, sum}
use Rattle.search.proofs.Semi.{sum-cong, mul-sum, sum-mul, prod-append, swap}
use Rattle.search.specs.Strips.{one_if, holders, after, weigh, table as table_by, rest as rest_by, run as run_by}

pub holders-append : {Strip Site : Type 0} (inside : Strip → Site → Bool) (t : Site) (A B : List Strip)
    → holders inside t (A ++ B) ≡ holders inside t A + holders inside t B
unfolding holders
holders-append inside t [] B = sym (zero-add _)
holders-append inside t (p ∷ A) B = ap (λ (n : ℕ). one_if (inside p t) + n) (holders-append inside t A B) ∙ sym (add_assoc (one_if (inside p t)) _ _)

-- of strips of which the first holds the site, and of which it does not, how many of the others do
pub holders-in : {Strip Site : Type 0} (inside : Strip → Site → Bool) (t : Site) (p : Strip) (L : List Strip) (n : ℕ)
    → inside p t ≡ true → holders inside t (p ∷ L) ≡ suc n → holders inside t L ≡ n
unfolding holders
holders-in inside t p L n e h = let h' : 1 + holders inside t L ≡ suc n = rw e at h in omega arith

pub holders-out : {Strip Site : Type 0} (inside : Strip → Site → Bool) (t : Site) (p : Strip) (L : List Strip) (n : ℕ)
    → inside p t ≡ false → holders inside t (p ∷ L) ≡ n → holders inside t L ≡ n
unfolding holders
holders-out inside t p L n e h = let h' : 0 + holders inside t L ≡ n = rw e at h in omega arith

pub holders-none : {Strip Site : Type 0} (inside : Strip → Site → Bool) (t : Site) (p : Strip) (L : List Strip)
    → inside p t ≡ true → holders inside t (p ∷ L) ≡ 0 → ⊥
unfolding holders
holders-none inside t p L e h = let h' : 1 + holders inside t L ≡ 0 = rw e at h in omega arith

module _ {S Strip Site : Type 0} (add mul : S → S → S) (none one : S) (m : ℕ) (inside : Strip → Site → Bool)
    (weight : Strip → Site → ℕ → S) (children : Strip → Site → ℕ → List Strip) (base : Strip → S) where
  abbrev table : List Site → Strip → S
  table = table_by add mul none one m inside weight children base

  abbrev rest : List Site → List Strip → S
  rest = rest_by add mul none one m inside weight children base

  abbrev run : List Site → List Strip → S
  run = run_by add mul none one m inside weight children base

  pub table-in : (s : Site) (ss : List Site) (p : Strip) → inside p s ≡ true
      → table (s ∷ ss) p ≡ sum add none m (λ k. mul (weight p s k) (rest ss (children p s k)))
  unfolding table_by rest_by
  table-in s ss p e = rw e

  pub table-out : (s : Site) (ss : List Site) (p : Strip) → inside p s ≡ false → table (s ∷ ss) p ≡ table ss p
  unfolding table_by rest_by
  table-out s ss p e = rw e

  -- strips that do not hold the site are as they were
  pub skip : (s : Site) (ss : List Site) (L : List Strip) → holders inside s L ≡ 0 → rest (s ∷ ss) L ≡ rest ss L
  unfolding rest_by
  skip s ss [] h = refl
  skip s ss (p ∷ L) h =
      by-test (inside p s)
      (λ e. absurd (holders-none inside s p L e h))
      (λ e. ap₂ mul (table-out s ss p e) (skip s ss L (holders-out inside s p L 0 e h)))

  -- the least over the slots of the step's cost and what is left after it
  unfoldable pub slots : Site → List Site → List Strip → S
  slots s ss L = sum add none m (λ k. mul (weigh none inside weight s k L) (rest ss (after inside children s k L)))

  module _ (R : Semiring S add mul none one) where
    -- the table of a list of strips of which one holds the site: a sum over the slots
    pub step_in : (s : Site) (ss : List Site) (p : Strip) (L : List Strip) → inside p s ≡ true → holders inside s L ≡ 0
        → rest (s ∷ ss) (p ∷ L) ≡ slots s ss (p ∷ L)
    unfolding rest_by slots weigh after
    step_in s ss p L e h =
        ap₂ mul (table-in s ss p e) (skip s ss L h)
        ∙ sum-mul R m (rest ss L) (λ k. mul (weight p s k) (rest ss (children p s k)))
        ∙ sum-cong R m _ _ (λ k. R.assoc (weight p s k) (rest ss (children p s k)) (rest ss L)
        ∙ ap (mul (weight p s k)) (sym (prod-append R (table ss) (children p s k) L))
        ∙ rw e)

    pub step-out : (s : Site) (ss : List Site) (p : Strip) (L : List Strip) → inside p s ≡ false → rest (s ∷ ss) L ≡ slots s ss L
        → rest (s ∷ ss) (p ∷ L) ≡ slots s ss (p ∷ L)
    unfolding rest_by slots weigh after
    step-out s ss p L e ih =
        ap₂ mul (table-out s ss p e) ih
        ∙ mul-sum R m (table ss p) _
        ∙ sum-cong R m _ _ (λ k. swap R (table ss p) (weigh none inside weight s k L) (rest ss (after inside children s k L))
        ∙ rw e)

    pub step : (s : Site) (ss : List Site) (L : List Strip) → holders inside s L ≡ 1 → rest (s ∷ ss) L ≡ slots s ss L
    unfolding holders
    step s ss [] h = absurd (let z : ◌≡◌ {A = ℕ} 0 1 = h in omega arith)
    step s ss (p ∷ L) h =
        by-test (inside p s)
        (λ e. step_in s ss p L e (holders-in inside s p L 0 e h))
        (λ e. step-out s ss p L e (step s ss L (holders-out inside s p L 1 e h)))

  -- a step that weighs anything keeps the number of strips that hold each site, where each strip's children part it
  module _ (parts : (p : Strip) (s : Site) (k : ℕ) → (weight p s k ≡ none) ⊎ ((t : Site) → holders inside t (children p s k) ≡ one_if (inside p t))) where
    pub keeps : (s : Site) (k : ℕ) (L : List Strip)
        → (weigh none inside weight s k L ≡ none) ⊎ ((t : Site) → holders inside t (after inside children s k L) ≡ holders inside t L)
    unfolding holders weigh after
    keeps s k [] = inl refl
    keeps s k (p ∷ L) =
        by-test (inside p s)
        (λ e. by-either (parts p s k)
        (λ w. inl (rw e w))
        (λ q. inr (λ t. rw e (holders-append inside t (children p s k) L ∙ ap (λ (n : ℕ). n + holders inside t L) (q t)))))
        (λ e. by-either (keeps s k L)
        (λ w. inl (rw e w))
        (λ q. inr (λ t. rw e (ap (λ (n : ℕ). one_if (inside p t) + n) (q t)))))

    module _ (R : Semiring S add mul none one) where
      step-with : (s : Site) (ss : List Site) (k : ℕ) (L : List Strip) → ((t : Site) → holders inside t L ≡ 1)
          → ((L' : List Strip) → ((t : Site) → holders inside t L' ≡ 1) → run ss L' ≡ rest ss L')
          → mul (weigh none inside weight s k L) (run ss (after inside children s k L))
          ≡ mul (weigh none inside weight s k L) (rest ss (after inside children s k L))
      step-with s ss k L h ih =
          by-either (keeps s k L)
          (λ w. rw w (R.comm none _ ∙ R.absorbs _ ∙ sym (R.absorbs _) ∙ R.comm _ none))
          (λ q. ap (mul (weigh none inside weight s k L)) (ih (after inside children s k L) (λ t. q t ∙ h t)))

      -- THEOREM 3: strips are independent. Where one strip holds each site, the definition by steps is the table, the budget split between the strips.
      pub independent : (ss : List Site) (L : List Strip) → ((t : Site) → holders inside t L ≡ 1) → run ss L ≡ rest ss L
      unfolding run_by rest_by slots
      independent [] L h = refl
      independent (s ∷ ss) L h = sum-cong R m _ _ (λ k. step-with s ss k L h (independent ss)) ∙ sym (step R s ss L (h s))
