-- A strip, a site and an end of a strip as the code holds them, and the row of a strip in its level. Definitions.
use Rattle.std.specs.Prelude.{Bool, cond, List, ℕ, ◌+◌, ◌*◌, ◌<◌, ◌≤◌, eqb, ltb, length, get_or}
use Rattle.optimum.specs.Strips.{Point, Strip}
use Rattle.optimum.specs.OneSided.{mark_count}
use Rattle.arrays.specs.declared.Measures.{Measures}
use Rattle.rows.specs.declared.Strip as held
use Rattle.rows.specs.declared.Site as tied
use Rattle.sheet.specs.Limits.{most_slots, most_colours, most_budgets}

-- the strip and the site of the model
abbrev pub strip_of : held.Strip → Strip
strip_of p = record { a = p.a; ca = p.ca; b = p.b; cb = p.cb; d = p.d }

abbrev pub point_of : tied.Site → Point
point_of s = record { x = s.x; y = s.y; c = s.c; barred = s.barred }

-- ---- where rows stand: m slots, C colours

-- the number of a strip's row in its level; how many rows a level has
abbrev pub row_of : (m C : ℕ) → Strip → ℕ
row_of m C p = (((p.a * (C + 1) + p.ca) * (m + 2) + p.b) * (C + 1) + p.cb) * mark_count + p.d

abbrev pub rows_of : (m C : ℕ) → ℕ
rows_of m C = (m + 2) * (C + 1) * (m + 2) * (C + 1) * mark_count

-- the words of a level: of m slots, C colours and R budgets; of a sheet's heights
abbrev pub level_size : (m C R : ℕ) → ℕ
level_size m C R = rows_of m C * R

abbrev pub level_of : Measures → (heights : List ℕ) → ℕ
level_of q hs = level_size (length hs) q.colours q.budgets

-- a place of an area is a number of 64 bits
abbrev pub most_place : ℕ
most_place = 18446744073709551615

-- a strip between edges or labels of the sheet
pub record Lies (m C : ℕ) (p : Strip) : Type 0 where
  pub a_low : p.a < m + 2
  pub ca_low : p.ca < C + 1
  pub b_low : p.b < m + 2
  pub cb_low : p.cb < C + 1
  pub d_low : p.d < mark_count

-- the words of a strip's row, in the level that begins at the word `low`; rows of n words
abbrev pub row_in : (work : List ℕ) → (low m C n : ℕ) → Strip → (v : ℕ) → ℕ
row_in work low m C n p v = get_or work (low + row_of m C p * n + v) 0

-- a strip with another mark
abbrev pub marked_by : (d : ℕ) → Strip → Strip
marked_by d p = record { a = p.a; ca = p.ca; b = p.b; cb = p.cb; d = d }

-- the parts that a label at slot k leaves of a strip; the site leaves the mark d in the upper one
abbrev pub upper_part : (d : ℕ) → Strip → Point → (k : ℕ) → Strip
upper_part d p s k = record { a = p.a; ca = p.ca; b = k + 1; cb = s.c + 1; d = d }

abbrev pub lower_part : Strip → Point → (k : ℕ) → Strip
lower_part p s k = record { a = k + 1; ca = s.c + 1; b = p.b; cb = p.cb; d = 0 }

-- the place of an end, an edge or a label, among all ends: by its slot and its colour
abbrev pub end_place : (C slot colour : ℕ) → ℕ
end_place C slot colour = slot * (C + 1) + colour

-- the place of a strip's row below its upper end: by its lower end, then by its mark
abbrev pub low_place : (C : ℕ) → Strip → ℕ
low_place C p = end_place C p.b p.cb * mark_count + p.d

-- the words of the rows below one upper end
abbrev pub end_words : Measures → (heights : List ℕ) → ℕ
end_words q hs = end_place q.colours (length hs + 2) 0 * mark_count * q.budgets

-- an upper end: the top edge has no colour, a label has one
unfoldable pub upper_end : (slot colour : ℕ) → Bool
upper_end slot colour = cond (eqb slot 0) (eqb colour 0) (ltb 0 colour)

-- rows of a level that begins at the word `low` lie in an area of so many words
pub record LevelFits (q : Measures) (m low area : ℕ) : Type 0 where
  pub few_slots : m ≤ most_slots
  pub few_colours : q.colours ≤ most_colours
  pub few_budgets : q.budgets ≤ most_budgets
  pub some_budget : 0 < q.budgets
  pub within : low + rows_of m q.colours * q.budgets ≤ area
