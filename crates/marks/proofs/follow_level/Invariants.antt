use Rattle.rows.specs.Rows.{point_of, end_place}
use Rattle.marks.proofs.Followed.{Passed}
use mathlib.Core.Path.{◌≡◌}
use Prim.Native.Nat.{◌+◌, ◌-◌, ◌≤◌}
use lib.ListN.{length}
use Rattle.marks.proofs.follow_level.Given as goal

abbrev pub invariant-loop-above : goal.invariant-loop-above
invariant-loop-above l = (l.above.colour ≤ l.level.sheet.now.measures.colours) × (l.above.slot ≤ length l.level.sheet.now.heights.now + 1) × (length l.work ≡ length l.initial.work) × Passed l.level.sheet.now.measures l.level.sheet.now.heights.now l.level.sheet.now.bounds.now l.level.base l.level.low (point_of l.level.site) l.initial.work l.work (end_place l.level.sheet.now.measures.colours l.above.slot l.above.colour)

abbrev pub decreases-loop-above : goal.decreases-loop-above
decreases-loop-above l = end_place l.level.sheet.now.measures.colours (length l.level.sheet.now.heights.now + 1) 0 - end_place l.level.sheet.now.measures.colours l.above.slot l.above.colour
