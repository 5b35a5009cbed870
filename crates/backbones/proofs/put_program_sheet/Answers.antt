use mathlib.Core.Path.{sym, ◌∙◌}
use native.Mathlib.Omega.{arith}
use lib.ListN.{replicate}
use Rattle.report.specs.Report.{program_sheet_text, work_words, answer_words}
use Rattle.report.proofs.Report.{made-accepted, sheet_laid, sheet_refused}
use Rattle.backbones.proofs.put_program_sheet.Goals as goal

pub put_answer-requires : goal.put_answer-requires
put_answer-requires c =
    made-accepted c.args.sheet.now (replicate work_words 0) (replicate answer_words 0) (sym c.make_layout.ensures.value ∙ c.in-0.is)

pub returns-in-0 : goal.returns-in-0
unfolding program_sheet_text
returns-in-0 c =
    let made = c.make_layout.ensures in
    rw (← sheet_laid c.args.sheet.now (replicate work_words 0) (replicate answer_words 0) made.value c.in-0.is made.out_after) c.put_answer.ensures

pub returns-in_default : goal.returns-in_default
unfolding program_sheet_text
returns-in_default c =
    rw (← sheet_refused c.args.sheet.now (replicate work_words 0) (replicate answer_words 0) c.make_layout.ensures.value (λ z. omega arith)) (rw c.from.ensures at c.put_refused.ensures)
