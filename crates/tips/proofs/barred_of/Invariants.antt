use mathlib.Core.Path.{◌≡◌}
use Rattle.arrays.specs.Arrays.{barred_from}
use Rattle.tips.proofs.barred_of.Given as goal

abbrev pub invariant-loop-i : goal.invariant-loop-i
invariant-loop-i l = l.barred ≡ barred_from l.gap l.sheet.heights.now l.sheet.xs.now l.sheet.ys.now l.j l.i
