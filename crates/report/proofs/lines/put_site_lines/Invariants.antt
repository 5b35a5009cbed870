use lib.ListN.{drop}
use Rattle.report.specs.Lines.{site_lines_by}
use Rattle.text.proofs.Puts.{Left}
use Rattle.report.proofs.lines.put_site_lines.Given as goal

abbrev pub invariant-loop-site : goal.invariant-loop-site
invariant-loop-site l = Left l.initial.text (site_lines_by l.layout 0 l.colours) l.text (site_lines_by l.layout l.site (drop l.site l.colours))
