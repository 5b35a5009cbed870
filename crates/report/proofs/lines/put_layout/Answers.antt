use Rattle.report.specs.Lines.{layout_text_by}
use Rattle.text.proofs.Puts.{puts-more}
use Rattle.report.proofs.lines.put_layout.Goals as goal

pub returns : goal.returns
unfolding layout_text_by
returns c = puts-more (rw c.get.ensures at c.put_layout_line.ensures) c.put_site_lines.ensures
