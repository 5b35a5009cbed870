use mathlib.Core.Bool.{Bool, true, false, ◌&&◌, not, cond}
use mathlib.Core.Path.{◌≡◌, refl, ap, ap₂, ◌∙◌}
use mir.Val.{bool_byte}
use Rattle.layouts.specs.Flaws.{flaw_of}
use Rattle.layouts.proofs.flaws.flaw.Goals as goal

-- 1 for a flaw
as_number : (b : Bool) → bool_byte (not b) ≡ cond b 0 1
as_number true = refl
as_number false = refl

pub returns : goal.returns
unfolding flaw_of
returns c = c.from.ensures ∙ as_number _ ∙ ap (λ (b : Bool). cond b 0 1) (ap₂ ◌&&◌ c.passes_both.ensures (ap₂ ◌&&◌ c.passes_one.ensures c.passes_one-2.ensures))
