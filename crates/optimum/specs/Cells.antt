-- The one-sided table as words, as code fills and reads it: a level of cells for each number of sites left, a cell for each strip
-- and budget; the least cost of the strips between the open labels at each of R budgets.
use Rattle.std.specs.Prelude.{cond, ◌||◌, List, [], ◌∷◌, ℕ, zero, suc, ◌+◌, ◌-◌, ◌*◌, ◌/◌, ◌%◌, eqb, get_or, replicate}
use Rattle.search.specs.Cost.{plus, least}
use Rattle.search.specs.Radix.{below}
use Rattle.search.specs.Split.{conv, just}
use Rattle.search.specs.Sums.{listing}
use Rattle.optimum.specs.Strips.{Point, Strip, Instance, inside, opens, joins_up, joins_down, State}

-- C colours, and budgets below R
module _ (P : Instance) (C R : ℕ) where
  open P use {slots, top, mark_count, turn, lead, draw_of, radices, word}
  open slots use {m, height, share}

  -- how many cells a level has; the cell of a strip and a budget; the strip and the budget of a cell
  abbrev pub cells : ℕ
  cells = (m + 2) * (C + 1) * (m + 2) * (C + 1) * mark_count * R

  unfoldable pub cell_of : Strip → ℕ → ℕ
  cell_of p v = ((((p.a * (C + 1) + p.ca) * (m + 2) + p.b) * (C + 1) + p.cb) * mark_count + p.d) * R + v

  unfoldable pub strip_at : ℕ → Strip
  strip_at i = record { a = i / R / mark_count / (C + 1) / (m + 2) / (C + 1); ca = i / R / mark_count / (C + 1) / (m + 2) % (C + 1); b = i / R / mark_count / (C + 1) % (m + 2); cb = i / R / mark_count % (C + 1); d = i / R % mark_count }

  unfoldable pub budget_at : ℕ → ℕ
  budget_at i = i % R

  -- what two strips cost between which the budget u is split, by the level below
  unfoldable pub split_cells : (low : List ℕ) → Strip → Strip → ℕ → ℕ
  split_cells low p q u = conv top (below radices) (λ w. get_or low (cell_of p w) 0) (λ w. get_or low (cell_of q w) 0) u

  -- the cost of tying the site s to slot k in the strip p, and the rest, with the budget v
  unfoldable pub step_cell : (low : List ℕ) → Strip → Point → ℕ → ℕ → ℕ
  step_cell low p s k v =
      cond (opens P p s k)
      (cond (below radices (draw_of s.c) v)
      (plus top (word 1 (lead s.x + share (height k) s.y))
      (split_cells low (record { a = p.a; ca = p.ca; b = suc k; cb = suc s.c; d = turn s k }) (record { a = suc k; ca = suc s.c; b = p.b; cb = p.cb; d = 0 }) (v - draw_of s.c))) top)
      (cond (joins_up P p s k || joins_down P p s k) (plus top (word 0 (share (height k) s.y)) (get_or low (cell_of (record { a = p.a; ca = p.ca; b = p.b; cb = p.cb; d = turn s k }) v) 0)) top)

  -- cell i of the level that has the site s more than the level low
  unfoldable pub entry_of : (low : List ℕ) → Point → ℕ → ℕ
  entry_of low s i = cond (inside P (strip_at i) s) (least top m (λ k. step_cell low (strip_at i) s k (budget_at i))) (get_or low i 0)

  -- the levels, the one for no sites first
  unfoldable pub level : List Point → List ℕ
  level [] = replicate cells 0
  level (s ∷ ss) = listing (entry_of (level ss) s) 0 cells

  -- one strip more takes its part, at each budget below R
  unfoldable pub join_cells : (low : List ℕ) → (acc : List ℕ) → Strip → List ℕ
  join_cells low acc p = listing (conv top (below radices) (λ w. get_or acc w 0) (λ w. get_or low (cell_of p w) 0)) 0 R

  -- all strips of the open labels L, from slot i on; r slots are left, and a is the last label passed
  unfoldable pub fold_cells : (low : List ℕ) → ℕ → ℕ → ℕ → ℕ → (labels marks acc : List ℕ) → List ℕ
  fold_cells low zero i a ca L M acc = join_cells low acc (record { a = a; ca = ca; b = suc i; cb = 0; d = get_or M a 0 })
  fold_cells low (suc r) i a ca L M acc =
      cond (eqb (get_or L i 0) 0) (fold_cells low r (suc i) a ca L M acc)
      (fold_cells low r (suc i) (suc i) (get_or L i 0) L M (join_cells low acc (record { a = a; ca = ca; b = suc i; cb = get_or L i 0; d = get_or M a 0 })))

  unfoldable pub start_cells : List ℕ
  start_cells = listing (just top 0 0) 0 R

  -- the least cost of tying the sites ss from a state, by their level
  unfoldable pub value_cells : State P → List Point → ℕ
  value_cells x ss = get_or (fold_cells (level ss) m 0 0 0 x.0 x.2 start_cells) x.1 0
