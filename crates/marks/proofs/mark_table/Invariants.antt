use Rattle.arrays.specs.Arrays.{points_by}
use Rattle.strips.specs.Strips.{instance_on}
use Rattle.rows.specs.Rows.{level_of}
use Rattle.marks.specs.Marks.{ReachMarked}
use mathlib.Core.Path.{◌≡◌}
use Prim.Native.Nat.{ℕ, ◌+◌, ◌*◌, ◌≤◌}
use lib.ListN.{length, get_or}
use Rattle.marks.proofs.mark_table.Given as goal

abbrev pub invariant-loop-j : goal.invariant-loop-j
invariant-loop-j l = (l.size ≡ level_of l.sheet.measures l.sheet.heights.now) × (length l.work ≡ length l.initial.work) × (ReachMarked (instance_on l.sheet.measures l.sheet.heights.now l.sheet.bounds.now) l.sheet.measures (points_by l.sheet.measures l.sheet.heights.now l.sheet.xs.now l.sheet.ys.now l.sheet.colours.now) l.work l.size (l.j + 1)) × ((i : ℕ) → (length l.sheet.xs.now + 1) * l.size ≤ i → get_or l.work i 0 ≡ get_or l.initial.work i 0)
