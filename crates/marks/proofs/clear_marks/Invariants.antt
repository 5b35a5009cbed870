use Rattle.marks.specs.Marks.{KeptFrom}
use mathlib.Core.Path.{◌≡◌}
use Prim.Native.Nat.{◌*◌}
use lib.ListN.{length}
use Rattle.marks.proofs.clear_marks.Given as goal

abbrev pub invariant-loop-j : goal.invariant-loop-j
invariant-loop-j l = (length l.work ≡ length l.initial.work) × KeptFrom (l.levels * l.size) l.initial.work l.work
