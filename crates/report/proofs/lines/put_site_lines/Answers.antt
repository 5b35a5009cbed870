use mathlib.Core.Path.{refl}
use lib.ListN.{drop_of_length-le}
use Rattle.report.specs.Lines.{site_lines_by}
use Rattle.report.proofs.LinesPut.{lines_at}
use Rattle.text.proofs.Puts.{left-more, left-none}
use Rattle.report.proofs.lines.put_site_lines.Goals as goal

pub loop-site-preserved : goal.loop-site-preserved
loop-site-preserved c =
    left-more _ c.loop-site.invariant (lines_at c.args.layout.now c.args.colours.now c.loop-site.site c.loop-site-test.true) c.put_site_line.ensures

pub returns : goal.returns
unfolding site_lines_by
returns c = left-none c.loop-site.invariant (rw (drop_of_length-le c.args.colours.now c.loop-site-test.false) refl)
