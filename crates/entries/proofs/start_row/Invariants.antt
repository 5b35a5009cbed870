use Prim.Native.Nat.{◌+◌, min}
use lib.ListN.{get_or}
use Rattle.search.specs.Cost.{plus}
use Rattle.optimum.specs.OneSided.{top_word}
use Rattle.entries.proofs.Written.{Written}
use Rattle.entries.proofs.start_row.Given as goal

abbrev pub invariant-loop-v : goal.invariant-loop-v
invariant-loop-v l = Written l.initial.work l.work l.base l.v (λ k. min (plus top_word l.rise (get_or l.initial.work (l.up + k) 0)) (plus top_word l.fall (get_or l.initial.work (l.down + k) 0)))
