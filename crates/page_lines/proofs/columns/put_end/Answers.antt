use Rattle.text.proofs.Puts.{puts-more}
use Rattle.page_lines.proofs.columns.put_end.Goals as goal

pub returns : goal.returns
returns c = puts-more (rw c.saturating_sub.ensures at c.put_blanks.ensures) c.put_byte.ensures
