use Rattle.text.specs.Text.{right_in}
use Rattle.text.proofs.Puts.{puts-more}
use Rattle.text.proofs.Text.put_right.Goals as goal

pub returns : goal.returns
unfolding right_in
returns c = puts-more (rw c.saturating_sub.ensures at c.put_blanks.ensures) c.put_bytes.ensures
