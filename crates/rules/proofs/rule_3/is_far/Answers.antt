use mathlib.Core.Path.{refl}
use Rattle.labelling.specs.Layout.{far_by}
use Rattle.rules.proofs.rule_3.is_far.Goals as goal

pub returns : goal.returns
unfolding far_by
returns c = rw c.abs_diff.ensures refl
