use mathlib.Core.Path.{◌∙◌}
use Rattle.std.proofs.Common.{rules}
use Rattle.report.proofs.Report.{reported}
use Rattle.text.proofs.Puts.{filled}
use Rattle.backbones.proofs.report.Goals as goal

pub returns-clause-value : goal.returns-clause-value
returns-clause-value c =
    let text = filled c.new-text.ensures c.put_program.ensures in
    c.past.ensures ∙ text.past ∙ (reported c.args.input.now c.args.area.now c.requires).0

pub returns-clause-area_after : goal.returns-clause-area_after
returns-clause-area_after c =
    let text = filled c.new-text.ensures c.put_program.ensures in
    let same = text.same in
    search rules ∙ text.after ∙ (reported c.args.input.now c.args.area.now c.requires).1
