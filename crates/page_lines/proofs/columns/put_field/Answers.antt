use Rattle.text.proofs.Puts.{puts-more}
use Rattle.page_lines.proofs.columns.put_field.Goals as goal

pub returns : goal.returns
returns c =
    puts-more (rw (c.saturating_sub.ensures, c.saturating_sub-start.ensures) at c.put_blanks.ensures)
    (rw (c.saturating_sub-2.ensures, c.saturating_sub-start.ensures) at c.put_number.ensures)
