use Prim.Native.Nat.{◌+◌}
use lib.ListN.{get_or}
use Rattle.entries.proofs.Written.{Written}
use Rattle.entries.proofs.copy_row.Given as goal

abbrev pub invariant-loop-v : goal.invariant-loop-v
invariant-loop-v l = Written l.initial.work l.work l.base l.v (λ k. get_or l.initial.work (l.from + k) 0)
