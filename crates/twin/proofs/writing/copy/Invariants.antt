use Rattle.lists.proofs.Grown.{Grown}
use lib.ListN.{drop}
use Rattle.twin.proofs.writing.copy.Given as goal

abbrev pub invariant-loop-i : goal.invariant-loop-i
invariant-loop-i l = Grown l.initial.out l.out l.stored (drop l.i l.stored) l.i
