use Rattle.report.proofs.LinesPut.{site-put}
use Rattle.report.proofs.lines.put_site_line.Goals as goal

pub returns : goal.returns
returns c = site-put _ _ _ c.put_named.ensures (rw c.from.ensures at c.put_named-2.ensures) (rw c.slot_of.ensures at c.put_named-3.ensures)
