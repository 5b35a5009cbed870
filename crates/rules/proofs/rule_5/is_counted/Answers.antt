use mathlib.Core.Path.{refl}
use Rattle.labelling.specs.Layout.{counts_by}
use Rattle.rules.proofs.rule_5.is_counted.Goals as goal

pub returns : goal.returns
unfolding counts_by
returns c = rw c.saturating_sub.ensures refl
