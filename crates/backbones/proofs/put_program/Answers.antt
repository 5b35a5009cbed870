use Rattle.report.specs.Input.{words_in}
use Rattle.report.proofs.Report.{text-unfit, text-fit, words-few, front}
use mathlib.Core.Path.{◌≡◌, sym, ◌∙◌}
use lib.ListN.{take}
use Rattle.backbones.proofs.put_program.Goals as goal

pub returns-then-is_unfit : goal.returns-then-is_unfit
returns-then-is_unfit c = rw (← text-unfit c.args.input.now (sym c.is_unfit.ensures ∙ c.if-is_unfit.true)) (rw (c.from.ensures, c.number.ensures) at c.put_refused.ensures)

pub returns : goal.returns
returns c =
    let t = c.put_words-n in
    let f = sym c.is_unfit.ensures ∙ c.if-is_unfit.false in
    let e : take t.result t.new.words ≡ words_in c.args.input.now = front _ _ (words-few c.args.input.now f) t.ensures.value t.ensures.words_after in
    rw (← text-fit c.args.input.now f, ← e) c.put_program_sheet.ensures
