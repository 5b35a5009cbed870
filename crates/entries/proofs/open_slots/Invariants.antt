use Rattle.rows.specs.Rows.{strip_of, point_of}
use Rattle.entries.proofs.Terms.{Tried}
use Prim.Native.Nat.{◌-◌}
use Rattle.entries.proofs.open_slots.Given as goal

abbrev pub invariant-loop-k : goal.invariant-loop-k
invariant-loop-k l = let g = l.filling.level.sheet.now in Tried g.measures g.heights.now g.splits.parts.now g.splits.counts.now l.filling.left.now l.initial.work l.work l.base l.filling.level.low (strip_of l.p) (point_of l.filling.level.site) (l.k - l.p.a)
