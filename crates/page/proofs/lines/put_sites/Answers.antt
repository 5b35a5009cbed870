use mathlib.Core.Path.{subst}
use Rattle.labelling.specs.Layout.{layout_ties}
use Rattle.decoding.specs.Decoding.{sheet_by}
use Rattle.layouts.proofs.Read.{sites_long}
use Rattle.judge.proofs.opened.Opening.{layout-read}
use Rattle.text.specs.Puts.{Puts}
use Rattle.text.proofs.Puts.{left-more, left-none}
use Rattle.page.specs.Page.{site_line_of}
use Rattle.page.proofs.Texts.{sites-all, sites-more, sites-none}
use Rattle.page.proofs.lines.put_sites.Goals as goal

pub loop-i-preserved : goal.loop-i-preserved
loop-i-preserved c =
    let o = c.args.opened.now in
    let f = site_line_of (sheet_by o.numbers) (layout_ties o.layout.now) in
    left-more _ c.loop-i.invariant (sites-more f o.numbers.sites c.loop-i.i c.loop-i-test.true) c.put_site.ensures

pub returns : goal.returns
returns c =
    let o = c.args.opened.now in
    let f = site_line_of (sheet_by o.numbers) (layout_ties o.layout.now) in
    subst (Puts _ _) (sites-all f o.numbers.sites 0 (sites_long (layout-read o.sheet.now o.layout.now o.accepted o.read o.formed)))
    (left-none c.loop-i.invariant (sites-none f o.numbers.sites c.loop-i.i c.loop-i-test.false))
