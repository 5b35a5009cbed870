use mathlib.Core.Path.{◌≡◌}
use mathlib.Core.Bool.{false}
use Prim.Native.Nat.{ℕ, ◌<◌, ◌≤◌}
use lib.ListN.{length}
use Rattle.optimum.specs.OneSided.{has_slot}
use Rattle.arrays.specs.Arrays.{turn_by}
use Rattle.rows.specs.Rows.{strip_of, point_of, level_of}
use Rattle.parts.specs.Parts.{Marking, PartsMarked}
use Rattle.marks.proofs.mark_window.Given as goal

abbrev pub invariant-loop-k : goal.invariant-loop-k
invariant-loop-k l = Marking l.initial.work l.work l.level.low (level_of l.level.sheet.now.measures l.level.sheet.now.heights.now) × (length l.work ≡ length l.initial.work) × ((i : ℕ) → l.initial.k ≤ i → i < l.k → has_slot l.level.site.barred i ≡ false → PartsMarked l.level.sheet.now.measures l.work l.level.low (length l.level.sheet.now.heights.now) (strip_of l.p) (point_of l.level.site) i (turn_by l.level.sheet.now.heights.now (point_of l.level.site) i))
