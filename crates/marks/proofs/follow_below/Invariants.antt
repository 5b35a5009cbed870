use mathlib.Core.Path.{◌≡◌}
use Rattle.rows.specs.Rows.{strip_of, point_of, row_of, end_place, low_place}
use Rattle.optimum.specs.OneSided.{mark_count}
use Rattle.marks.proofs.Followed.{Followed}
use Prim.Native.Nat.{◌+◌, ◌-◌, ◌*◌, ◌<◌, ◌≤◌}
use lib.ListN.{length}
use Rattle.marks.proofs.follow_below.Given as goal

abbrev pub invariant-loop-p : goal.invariant-loop-p
invariant-loop-p l = (l.p.a ≡ l.initial.p.a) × (l.p.ca ≡ l.initial.p.ca) × ((l.p.cb ≤ l.level.sheet.now.measures.colours) × (l.p.d < mark_count)) × (l.p.b ≤ length l.level.sheet.now.heights.now + 2) × (l.«at» ≡ l.level.base + row_of (length l.level.sheet.now.heights.now) l.level.sheet.now.measures.colours (strip_of l.p) * l.level.sheet.now.measures.budgets) × (length l.work ≡ length l.initial.work) × Followed l.level.sheet.now.measures l.level.sheet.now.heights.now l.level.sheet.now.bounds.now l.level.base l.level.low (point_of l.level.site) l.initial.work l.work (end_place l.level.sheet.now.measures.colours l.p.a l.p.ca) (low_place l.level.sheet.now.measures.colours (strip_of l.p))

abbrev pub decreases-loop-p : goal.decreases-loop-p
decreases-loop-p l = end_place l.level.sheet.now.measures.colours (length l.level.sheet.now.heights.now + 2) 0 * mark_count - low_place l.level.sheet.now.measures.colours (strip_of l.p)
