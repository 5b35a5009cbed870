use Rattle.rows.specs.Rows.{point_of, end_place}
use Rattle.table.proofs.Filling.{Passed}
use mathlib.Core.Path.{◌≡◌}
use Prim.Native.Nat.{◌+◌, ◌-◌, ◌≤◌}
use lib.ListN.{length}
use Rattle.table.proofs.fill_level.Given as goal

abbrev pub invariant-loop-above : goal.invariant-loop-above
invariant-loop-above l = (l.above.colour ≤ l.filling.level.sheet.now.measures.colours) × (end_place l.filling.level.sheet.now.measures.colours l.above.slot l.above.colour ≤ end_place l.filling.level.sheet.now.measures.colours (length l.filling.level.sheet.now.heights.now + 1) 0) × (length l.work ≡ length l.initial.work) × Passed l.filling.level.sheet.now.measures l.filling.level.sheet.now.heights.now l.filling.level.sheet.now.bounds.now l.filling.level.sheet.now.splits.parts.now l.filling.level.sheet.now.splits.counts.now l.filling.left.now l.filling.level.base l.filling.level.low (point_of l.filling.level.site) l.initial.work l.work (end_place l.filling.level.sheet.now.measures.colours l.above.slot l.above.colour)

abbrev pub decreases-loop-above : goal.decreases-loop-above
decreases-loop-above l = end_place l.filling.level.sheet.now.measures.colours (length l.filling.level.sheet.now.heights.now + 1) 0 - end_place l.filling.level.sheet.now.measures.colours l.above.slot l.above.colour
