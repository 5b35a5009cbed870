use Rattle.report.proofs.LinesPut.{layout-put}
use Rattle.report.proofs.lines.put_layout_line.Goals as goal

pub returns : goal.returns
returns c = layout-put _ _ (rw (c.from.ensures, c.count_field.ensures) at c.put_named.ensures) (rw (c.from-2.ensures, c.length_field.ensures) at c.put_named-2.ensures)
