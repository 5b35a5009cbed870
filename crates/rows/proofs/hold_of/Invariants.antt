use mathlib.Core.List.{List}
use Prim.Native.Nat.{ℕ}
use Rattle.arrays.specs.declared.Measures.{Measures}
use Rattle.arrays.specs.Arrays.{instance_by}
use Rattle.rows.proofs.Holding.{Looking}
use Rattle.rows.proofs.hold_of.Given as goal

abbrev pub invariant-loop-i : goal.invariant-loop-i
invariant-loop-i l = (q : Measures) (bs rs ds : List ℕ) → Looking (instance_by q l.sheet.heights.now bs rs ds) l.labels l.marks l.y l.a l.ca l.i
