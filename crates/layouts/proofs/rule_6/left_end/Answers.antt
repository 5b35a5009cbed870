use mathlib.Core.Path.{ap, sym, ◌∙◌}
use Prim.Native.Nat.{min}
use Rattle.layouts.proofs.Loops.{least-none, least-same, least-other}
use Rattle.layouts.proofs.rule_6.left_end.Goals as goal
use Rattle.layouts.proofs.rule_6.left_end.Goals.{then-slot_at-slot, else-slot_at-slot}

pub loop-i-init : goal.loop-i-init
loop-i-init c = least-none _ _ _ _

pub loop-i-preserved : goal.loop-i-preserved
loop-i-preserved c =
    elim c.if-slot_at-slot.branch [
      | then-slot_at-slot w ↦ w.low-is ∙ least-same _ _ _ _ c.loop-i.i c.loop-i.invariant (sym c.slot_at.ensures ∙ w.if-slot_at-slot.true) (w.min-low.ensures ∙ ap (min c.loop-i.low) w.site_at.ensures.x)
      | else-slot_at-slot w ↦ w.low-is ∙ least-other _ _ _ _ c.loop-i.i c.loop-i.invariant (λ q. w.if-slot_at-slot.false (c.slot_at.ensures ∙ q))
    ]
