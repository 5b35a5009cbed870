-- A level as it is filled, as the value that contracts speak of. Definitions.
use Rattle.std.specs.Prelude.{ℕ}
use Rattle.arrays.specs.Ranked.{given_of}
use Rattle.rows.specs.Rows.{point_of}
use Rattle.rows.specs.Level.{Level, filling}
use Rattle.entries.specs.declared.filling.Filling.{Filling}

-- the level; one of its rows, which begins at the word `at`
abbrev pub filled_at : Filling → (at : ℕ) → Level
filled_at f at = filling (given_of f.level.sheet.now) f.left.now f.opening.now (point_of f.level.site) at f.level.low

abbrev pub filled_in : Filling → Level
filled_in f = filled_at f f.level.base
