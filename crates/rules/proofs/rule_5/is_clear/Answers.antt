use mathlib.Core.Path.{refl}
use Rattle.labelling.specs.Layout.{clear_by}
use Rattle.rules.proofs.rule_5.is_clear.Goals as goal

pub returns : goal.returns
unfolding clear_by
returns c = rw c.abs_diff.ensures refl
