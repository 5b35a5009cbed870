use Rattle.rows.proofs.Folding.{Folding}
use Rattle.rows.proofs.rest.fold_rows.Given as goal

abbrev pub invariant-loop-i : goal.invariant-loop-i
invariant-loop-i l = Folding l.splits.parts.now l.splits.counts.now l.work l.base l.colours l.splits.budgets l.labels l.marks l.initial.acc l.acc l.a l.ca l.i
