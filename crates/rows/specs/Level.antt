-- One level of the one-sided table, as one value that a contract names once. Definitions.
use Rattle.std.specs.Prelude.{List, [], ℕ, ◌+◌, ◌≤◌, length}
use Rattle.optimum.specs.Strips.{Point}
use Rattle.arrays.specs.Given.{Given, OfSheet, SiteIn}
use Rattle.arrays.specs.Ranked.{given_of}
use Rattle.rows.specs.declared.level.TableLevel.{TableLevel}
use Rattle.rows.specs.Rows.{point_of, level_of}

-- the arrays of the sheet; what a label of the next site's colour leaves of each budget, and what it costs that site to open one at
-- each slot; that site; the word at which the level, or one of its rows, begins; and the word at which the level below it begins.
-- What a function is not given is an empty list.
pub record Level : Type 0 where
  pub arrays : Given
  pub left : List ℕ
  pub opening : List ℕ
  pub site : Point
  pub base : ℕ
  pub low : ℕ

abbrev pub filling : Given → (left opening : List ℕ) → Point → (base low : ℕ) → Level
filling g left opening s base low = record { arrays = g; left = left; opening = opening; site = s; base = base; low = low }

-- where a function is given no such costs
abbrev pub level : Given → (left : List ℕ) → Point → (base low : ℕ) → Level
level g left s base low = filling g left [] s base low

-- the level that code is given; one of its rows, which begins at the word `at`
abbrev pub row_at : TableLevel → (at : ℕ) → Level
row_at v at = level (given_of v.sheet.now) [] (point_of v.site) at v.low

abbrev pub level_in : TableLevel → Level
level_in v = row_at v v.base

abbrev pub slots_in : Level → ℕ
slots_in l = length l.arrays.heights

abbrev pub colours_in : Level → ℕ
colours_in l = l.arrays.measures.colours

abbrev pub budgets_in : Level → ℕ
budgets_in l = l.arrays.measures.budgets

abbrev pub words_in : Level → ℕ
words_in l = level_of l.arrays.measures l.arrays.heights

-- so many words at `base` may be made from the level at `low`, or that from them, in an area of so many words
pub record Ready (l : Level) (words area : ℕ) : Type 0 where
  pub sheet : OfSheet l.arrays
  pub site : SiteIn l.arrays.measures l.site
  pub apart : l.base + words ≤ l.low
  pub within : l.low + words_in l ≤ area
