use mathlib.Core.Path.{◌≡◌}
use lib.ListN.{length}
use Rattle.labelling.specs.Entry.{zeroed}
use Rattle.areas.proofs.zero_part.Given as goal

abbrev pub invariant-loop-i : goal.invariant-loop-i
invariant-loop-i l = (length l.area ≡ length l.initial.area) × (l.area ≡ zeroed l.from l.i l.initial.area)
