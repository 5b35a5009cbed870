use Rattle.rows.specs.Rows.{end_place, level_of}
use Rattle.marks.specs.Marks.{KeptFrom}
use mathlib.Core.Path.{◌≡◌}
use Prim.Native.Nat.{◌+◌, ◌-◌, ◌≤◌}
use lib.ListN.{length}
use Rattle.marks.proofs.clear_level.Given as goal

abbrev pub invariant-loop-above : goal.invariant-loop-above
invariant-loop-above l = (l.above.colour ≤ l.sheet.measures.colours) × (l.above.slot ≤ length l.sheet.heights.now + 1) × (length l.work ≡ length l.initial.work) × KeptFrom (l.base + level_of l.sheet.measures l.sheet.heights.now) l.initial.work l.work

abbrev pub decreases-loop-above : goal.decreases-loop-above
decreases-loop-above l = end_place l.sheet.measures.colours (length l.sheet.heights.now + 1) 0 - end_place l.sheet.measures.colours l.above.slot l.above.colour
