-- What the judge gives. Assumes nothing: these are definitions.
use Rattle.std.specs.Prelude.{cond, List, ℕ, eqb}
use Rattle.labelling.specs.Layout.{judge_fault, judged}
use Rattle.judge.specs.declared.Verdict.{Verdict}

-- THE JUDGE: its refusal, 1 to 7 or 11, or 0; and the least broken rule, or 0. Document 01 leaves free what stands beside a
-- refusal: 0
abbrev pub judge_post : (stored : List ℕ) → Verdict
judge_post ws = record { refusal = judge_fault ws; rule = cond (eqb (judge_fault ws) 0) (judged ws) 0 }
