use mathlib.Core.Path.{refl}
use Rattle.demands.proofs.Demands.{served-by-judge, demand-two}
use Rattle.cabi.proofs.backbone_judge.Goals as goal

pub returns-clause-served_by_judge : goal.returns-clause-served_by_judge
returns-clause-served_by_judge c = let ws = c.args.stored.now in let r = c.judge_layout in served-by-judge ws r.result ws (r.ensures, refl)

pub returns-clause-true_verdict : goal.returns-clause-true_verdict
returns-clause-true_verdict c = let ws = c.args.stored.now in let r = c.judge_layout in demand-two ws r.result ws (r.ensures, refl)
