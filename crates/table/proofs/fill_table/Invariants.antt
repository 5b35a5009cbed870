use Rattle.rows.specs.Rows.{level_of}
use Rattle.arrays.specs.Ranked.{given_of}
use Rattle.table.proofs.Right.{Done}
use mathlib.Core.Path.{◌≡◌}
use lib.ListN.{length}
use Rattle.table.proofs.fill_table.Given as goal

abbrev pub invariant-loop-j : goal.invariant-loop-j
invariant-loop-j l = (l.size ≡ level_of l.sheet.measures l.sheet.heights.now) × (length l.work ≡ length l.initial.work) × Done {g = given_of l.sheet} l.sheet.of_sheet l.initial.work l.work l.size l.j
