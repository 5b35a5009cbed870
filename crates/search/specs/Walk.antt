-- The walk: steps from state to state, the least cost by steps, the walk that takes the lowest slot which keeps it, and what is first. For
-- any states, sites, steps and costs.
use Rattle.std.specs.Prelude.{◌≡◌, ◌⊎◌, cond, List, [], ◌∷◌, ℕ, ◌≤◌, ◌<◌, min, eqb, ltb}
use Rattle.std.proofs.Math.Option.{Option, none, some}
use Rattle.search.specs.Cost.{plus, least, first}

-- js is ks, or is smaller at the first place where they differ
unfoldable pub Before : List ℕ → List ℕ → Type 0
Before [] [] = Unit
Before [] (k ∷ ks) = ⊥
Before (j ∷ js) [] = ⊥
Before (j ∷ js) (k ∷ ks) = (j < k) ⊎ ((j ≡ k) × Before js ks)

-- steps from state to state: to put the site s on slot k, one of m, in the state x costs `price x s k` (top: it is not lawful)
-- and leads to `next x s k`; once all sites are put, a state costs `final x`
pub record Process (X Site : Type 0) : Type 0 where
  pub top : ℕ
  pub m : ℕ
  pub price : X → Site → ℕ → ℕ
  pub next : X → Site → ℕ → X
  pub final : X → ℕ

module _ {X Site : Type 0} (G : Process X Site) where
  open G use {top, m, price, next, final}

  -- the least cost, by steps
  unfoldable pub best : X → List Site → ℕ
  best x [] = min (final x) top
  best x (s ∷ ss) = least top m (λ k. plus top (price x s k) (best (next x s k) ss))

  -- what a sequence of slots costs
  unfoldable pub cost_of : X → List Site → List ℕ → ℕ
  cost_of x [] [] = min (final x) top
  cost_of x [] (k ∷ ks) = top
  cost_of x (s ∷ ss) [] = top
  cost_of x (s ∷ ss) (k ∷ ks) = cond (ltb k m) (plus top (price x s k) (cost_of (next x s k) ss ks)) top

  -- the slot that the walk takes: the lowest that keeps the least cost
  unfoldable pub choose : X → Site → List Site → ℕ
  choose x s ss = first m (λ k. eqb (plus top (price x s k) (best (next x s k) ss)) (best x (s ∷ ss)))

  -- the walk: the slots that it takes
  unfoldable pub walk : X → List Site → List ℕ
  walk x [] = []
  walk x (s ∷ ss) = choose x s ss ∷ walk (next x s (choose x s ss)) ss

  -- the answer: none where there is none
  unfoldable pub answer : X → List Site → Option (List ℕ)
  answer x ss = cond (ltb (best x ss) top) (some (walk x ss)) none

  -- js costs less than none, no sequence costs less, and js comes before every sequence that costs as much
  pub record Cheapest (x : X) (ss : List Site) (js : List ℕ) : Type 0 where
    pub lawful : cost_of x ss js < top
    pub lowest : (ks : List ℕ) → cost_of x ss js ≤ cost_of x ss ks
    pub ahead : (ks : List ℕ) → cost_of x ss ks ≡ cost_of x ss js → Before js ks

  -- ---- a walk by another way to find the least cost, which need be right only at the states that are met

  unfoldable pub choose_by : (X → List Site → ℕ) → X → Site → List Site → ℕ
  choose_by value x s ss = first m (λ k. eqb (plus top (price x s k) (value (next x s k) ss)) (value x (s ∷ ss)))

  unfoldable pub walk_by : (X → List Site → ℕ) → X → List Site → List ℕ
  walk_by value x [] = []
  walk_by value x (s ∷ ss) = choose_by value x s ss ∷ walk_by value (next x s (choose_by value x s ss)) ss

  unfoldable pub answer_by : (X → List Site → ℕ) → X → List Site → Option (List ℕ)
  answer_by value x ss = cond (ltb (value x ss) top) (some (walk_by value x ss)) none
