use mathlib.Core.Path.{refl}
use Rattle.layouts.proofs.Loops.{taken_none, taken_more}
use Rattle.layouts.proofs.labels.is_taken.Goals as goal

pub loop-j-init : goal.loop-j-init
loop-j-init c = taken_none _ _ _

pub loop-j-preserved : goal.loop-j-preserved
loop-j-preserved c = taken_more _ _ _ c.loop-j.j c.loop-j.invariant c.is_among.ensures (rw c.slot_at.ensures refl)
