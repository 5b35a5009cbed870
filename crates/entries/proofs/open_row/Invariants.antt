use Rattle.entries.specs.Entries.{open_by}
use Rattle.entries.proofs.Written.{Written}
use Prim.Native.Nat.{◌+◌, min}
use lib.ListN.{get_or}
use Rattle.entries.proofs.open_row.Given as goal

abbrev pub invariant-loop-v : goal.invariant-loop-v
invariant-loop-v l = Written l.initial.work l.work l.base l.v (λ k. min (get_or l.initial.work (l.base + k) 0) (open_by l.splits.parts.now l.splits.counts.now l.n l.cost (get_or l.left k 0) (λ w. get_or l.initial.work (l.upper + w) 0) (λ w. get_or l.initial.work (l.lower + w) 0)))
