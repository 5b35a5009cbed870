use Rattle.marks.proofs.Cleared.{kept-none}
use mathlib.Core.Path.{refl}
use Rattle.marks.proofs.clear_rows.Goals as goal

pub loop-at-init : goal.loop-at-init
loop-at-init c = (refl, kept-none _ _)
