use mathlib.Core.Path.{sym, ◌∙◌}
use lib.Seq.{set-set, set-get_or}
use Rattle.choice.proofs.kept.Keeping.{taken_back, never-keeps}
use Rattle.choice.proofs.kept.keeps_cost.Goals as goal

pub returns-then-step-eq-NONE-clause-value : goal.returns-then-step-eq-NONE-clause-value
returns-then-step-eq-NONE-clause-value c = sym (never-keeps _ _ _ c.if-step-eq-NONE.true c.requires.low)

pub returns-clause-labels_unchanged : goal.returns-clause-labels_unchanged
returns-clause-labels_unchanged c = set-set c.args.labels.now c.args.tie.slot _ _ ∙ set-get_or c.args.labels.now c.args.tie.slot 0

pub returns-clause-marks_unchanged : goal.returns-clause-marks_unchanged
returns-clause-marks_unchanged c = rw c.write_marks.ensures (taken_back c.requires.places c.args.tie.mark)
