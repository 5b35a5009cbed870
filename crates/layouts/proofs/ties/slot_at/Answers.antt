use Rattle.layouts.proofs.Loops.{ties-at}
use mathlib.Core.Path.{sym, ◌∙◌}
use Rattle.layouts.proofs.ties.slot_at.Goals as goal

pub returns : goal.returns
returns c = let a = c.args in
    c.byte_field.ensures ∙ sym (ties-at a.ties.now a.i)
