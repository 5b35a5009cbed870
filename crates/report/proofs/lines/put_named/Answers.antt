use Rattle.text.proofs.Right.{right-none}
use Rattle.text.proofs.Puts.{puts-more}
use Rattle.report.proofs.lines.put_named.Goals as goal

pub returns : goal.returns
returns c = puts-more (rw right-none at c.put_number.ensures) c.put_byte.ensures
