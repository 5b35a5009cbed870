-- Which entries are asked for: the strips of each level that the whole sheet's entry leads to. A table need be right only there.
use Rattle.std.specs.Prelude.{◌≡◌, ◌⊎◌, Bool, true, false, ◌||◌, List, [], ◌∷◌, ℕ, zero, suc, ◌+◌, ◌*◌, ◌<◌, ◌≤◌, length, get_or, drop}
use Rattle.search.specs.Plan.{T}
use Rattle.optimum.specs.Strips.{Point, Strip, Instance, inside, opens, joins_up, joins_down, children, rules_of}
use Rattle.optimum.specs.Cells.{cells, cell_of}

-- a member of a list of strips
unfoldable pub In : Strip → List Strip → Type 0
In q [] = ⊥
In q (p ∷ L) = (q ≡ p) ⊎ In q L

-- past the last site
abbrev pub no_point : Point
no_point = record { x = 0; y = 0; c = 0; barred = 0 }

module _ (P : Instance) where
  open P.slots use {m}

  -- the site s, which lies in the strip p, may be tied to slot k
  abbrev pub steps : Strip → Point → ℕ → Bool
  steps p s k = opens P p s k || (joins_up P p s k || joins_down P p s k)

  -- the entry of p, where the site s comes next, is worked out from that of q a level below
  abbrev pub Asks : Strip → Point → Strip → Type 0
  Asks p s q = ((inside P p s ≡ false) × (q ≡ p)) ⊎ ((inside P p s ≡ true) × ((k : ℕ) × (k < m) × (steps p s k ≡ true) × In q (children P p s k)))

  -- the whole sheet: the strip between its edges
  abbrev pub whole_sheet : Strip
  whole_sheet = record { a = 0; ca = 0; b = suc m; cb = 0; d = 0 }

  -- q is asked for at the level where the first j of the sites are tied
  unfoldable pub Reached : List Point → (j : ℕ) → Strip → Type 0
  Reached ss zero q = q ≡ whole_sheet
  Reached ss (suc j) q = (p : Strip) × Reached ss j p × Asks p (get_or ss j no_point) q

  -- THE TABLE IS RIGHT wherever it is asked: level j stands from word j * cells on; C colours, budgets below R
  unfoldable pub TableOf : (C R : ℕ) → List Point → (work : List ℕ) → Type 0
  TableOf C R ss work =
      (j : ℕ) (p : Strip) (v : ℕ) → j ≤ length ss → Reached ss j p → v < R →
      get_or work (j * cells P C R + cell_of P C R p v) 0 ≡ T (rules_of P) (drop j ss) p v
