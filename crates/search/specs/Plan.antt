-- The table and the walk at a budget, for strips whose steps have a cost (top: not lawful) and draw on a budget that is split between the strips. The
-- record `Laws` is what theorems 3 and 4 ask.
use Rattle.std.specs.Prelude.{◌≡◌, ◌⊎◌, Bool, cond, List, [], ◌∷◌, ℕ, ◌-◌}
use Rattle.std.proofs.Math.Option.{Option}
use Rattle.search.specs.Split.{Splitting, conv, cheaper, never, just}
use Rattle.search.specs.Strips.{holders, one_if, after, weigh, table, rest}
use Rattle.search.specs.Walk.{Process, best, answer_by}

-- a list that holds something
unfoldable pub Filled : {A : Type 0} → List A → Type 0
Filled [] = ⊥
Filled (p ∷ L) = Unit

-- strips, sites and steps: to put the site s, which lies inside the strip p, on slot k, one of m, costs `cost p s k` (top: it
-- is not lawful), draws `draw p s k` on the budget, and puts `children p s k` in the strip's place; w may be taken from the
-- budget v where `below w v`
pub record Rules (Strip Site : Type 0) : Type 0 where
  pub top : ℕ
  pub m : ℕ
  pub below : ℕ → ℕ → Bool
  pub inside : Strip → Site → Bool
  pub cost : Strip → Site → ℕ → ℕ
  pub draw : Strip → Site → ℕ → ℕ
  pub children : Strip → Site → ℕ → List Strip

-- what the theorems ask of them
pub record Laws {Strip Site : Type 0} (G : Rules Strip Site) : Type 0 where
  pub splits : Splitting G.below
  pub filled : (p : Strip) (s : Site) (k : ℕ) → Filled (G.children p s k)
  pub parts : (p : Strip) (s : Site) (k : ℕ)
      → (G.cost p s k ≡ G.top) ⊎ ((t : Site) → holders G.inside t (G.children p s k) ≡ one_if (G.inside p t))

module _ {Strip Site : Type 0} (G : Rules Strip Site) where
  open G use {top, m, below, inside, cost, draw, children}

  -- what a step weighs, as a function of the budget
  unfoldable pub weight : Strip → Site → ℕ → ℕ → ℕ
  weight p s k = just top (cost p s k) (draw p s k)

  -- the table, and what a list of strips costs between which a budget is split
  unfoldable pub T : List Site → Strip → ℕ → ℕ
  unfolding table
  T = table cheaper (conv top below) (never top) (just top 0 0) m inside weight children (λ p v. 0)

  unfoldable pub Rest : List Site → List Strip → ℕ → ℕ
  unfolding rest
  Rest = rest cheaper (conv top below) (never top) (just top 0 0) m inside weight children (λ p v. 0)

  -- the states of the definition by steps: the strips, and what is left of the budget
  abbrev pub State : Type 0
  State = List Strip × ℕ

  -- what a step costs in a state, top where the budget does not allow it or it is not lawful; what it leads to; the steps as a process
  unfoldable pub price : State → Site → ℕ → ℕ
  price x s k = cond (below (weigh 0 inside draw s k x.0) x.1) (weigh top inside cost s k x.0) top

  unfoldable pub next : State → Site → ℕ → State
  next x s k = (after inside children s k x.0, x.1 - weigh 0 inside draw s k x.0)

  abbrev pub process : Process State Site
  process = record { top = top; m = m; price = price; next = next; final = λ x. 0 }

  -- the least cost by steps
  unfoldable pub Run : List Site → List Strip → ℕ → ℕ
  Run ss L v = best process (L, v) ss

  -- the code's walk goes by the table
  unfoldable pub answer_rest : List Site → List Strip → ℕ → Option (List ℕ)
  unfolding answer_by
  answer_rest ss L v = answer_by process (λ x ss. Rest ss x.0 x.1) (L, v) ss
