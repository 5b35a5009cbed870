use mathlib.Core.Path.{◌≡◌}
use Rattle.optimum.specs.OneSided.{mark_count}
use Rattle.rows.specs.Rows.{strip_of, point_of, row_of, end_place, low_place}
use Rattle.table.proofs.Filling.{Filled}
use Prim.Native.Nat.{◌+◌, ◌-◌, ◌*◌, ◌<◌, ◌≤◌}
use lib.ListN.{length}
use Rattle.table.proofs.fill_below.Given as goal

abbrev pub invariant-loop-p : goal.invariant-loop-p
invariant-loop-p l = (l.p.a ≡ l.initial.p.a) × (l.p.ca ≡ l.initial.p.ca) × ((l.p.cb ≤ l.filling.level.sheet.now.measures.colours) × (l.p.d < mark_count)) × (low_place l.filling.level.sheet.now.measures.colours (strip_of l.p) ≤ end_place l.filling.level.sheet.now.measures.colours (length l.filling.level.sheet.now.heights.now + 2) 0 * mark_count) × (l.«at» ≡ l.filling.level.base + row_of (length l.filling.level.sheet.now.heights.now) l.filling.level.sheet.now.measures.colours (strip_of l.p) * l.filling.level.sheet.now.measures.budgets) × (length l.work ≡ length l.initial.work) × Filled l.filling.level.sheet.now.measures l.filling.level.sheet.now.heights.now l.filling.level.sheet.now.bounds.now l.filling.level.sheet.now.splits.parts.now l.filling.level.sheet.now.splits.counts.now l.filling.left.now l.filling.level.base l.filling.level.low (point_of l.filling.level.site) l.initial.work l.work (end_place l.filling.level.sheet.now.measures.colours l.p.a l.p.ca) (low_place l.filling.level.sheet.now.measures.colours (strip_of l.p))

abbrev pub decreases-loop-p : goal.decreases-loop-p
decreases-loop-p l = end_place l.filling.level.sheet.now.measures.colours (length l.filling.level.sheet.now.heights.now + 2) 0 * mark_count - low_place l.filling.level.sheet.now.measures.colours (strip_of l.p)
