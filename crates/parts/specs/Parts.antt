-- The rows of the two parts that a label leaves of a strip: what they cost together, and their marks. Definitions.
use Rattle.std.specs.Prelude.{◌≡◌, List, ℕ, ◌+◌, ◌*◌, get_or}
use Rattle.search.specs.Cost.{plus}
use Rattle.optimum.specs.Strips.{Point, Strip}
use Rattle.optimum.specs.OneSided.{top_word}
use Rattle.arrays.specs.declared.Measures.{Measures}
use Rattle.rows.specs.Budgets.{Others}
use Rattle.rows.specs.Rows.{row_of, upper_part, lower_part}

-- what the parts cost together where there is but one budget, the whole of which goes to both; the site leaves the mark d in the upper one
abbrev pub parts_cost : (row : Strip → ℕ → ℕ) → Strip → Point → (k d : ℕ) → ℕ
parts_cost row p s k d = plus top_word (row (upper_part d p s k) 0) (row (lower_part p s k) 0)

-- the row of the strip p is marked, in the level that begins at the word `base`; m slots, C colours, rows of n words
abbrev pub Marked : (work : List ℕ) → (base m C n : ℕ) → Strip → Type 0
Marked work base m C n p = get_or work (base + row_of m C p * n) 0 ≡ 1

-- in the level of `size` words that begins at the word `low` some words became 1; nothing else changed
pub record Marking (old new : List ℕ) (low size : ℕ) : Type 0 where
  pub others : Others old new low size
  pub kept : (i : ℕ) → get_or old i 0 ≡ 1 → get_or new i 0 ≡ 1

-- both parts that a label at slot k leaves of the strip p, the upper one with the mark d, are marked, in the level that begins at the word `low`; m slots
pub record PartsMarked (q : Measures) (work : List ℕ) (low m : ℕ) (p : Strip) (s : Point) (k d : ℕ) : Type 0 where
  pub upper : Marked work low m q.colours q.budgets (upper_part d p s k)
  pub lower : Marked work low m q.colours q.budgets (lower_part p s k)
