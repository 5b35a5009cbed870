use Rattle.rows.proofs.Folding.{Joined}
use Rattle.rows.proofs.rest.join_row.Given as goal

abbrev pub invariant-loop-v : goal.invariant-loop-v
invariant-loop-v l = Joined l.splits.parts.now l.splits.counts.now l.initial.acc l.work l.row l.acc l.v
