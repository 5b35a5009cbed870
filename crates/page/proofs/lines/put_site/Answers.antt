use mathlib.Core.Path.{subst}
use native.Mathlib.Omega.{arith}
use Rattle.layouts.proofs.Read.{sites-few}
use Rattle.judge.proofs.opened.Opening.{layout-read}
use Rattle.text.specs.Puts.{Puts}
use Rattle.page.proofs.Numbered.{site-line-is}
use Rattle.page.proofs.lines.put_site.Goals as goal

pub overflow_cast-i : goal.overflow_cast-i
overflow_cast-i c =
    let o = c.args.opened.now in
    omega (arith, c.requires, sites-few (layout-read o.sheet.now o.layout.now o.accepted o.read o.formed))

pub put_site_line-requires : goal.put_site_line-requires
put_site_line-requires c =
    let p = c.sites-sites.result.low in
    (omega (arith, c.get-height.ensures, p.heights c.slot_at-slot.result), omega (arith, p.ys c.args.i))

pub returns : goal.returns
returns c =
    let o = c.args.opened.now in
    let r = layout-read o.sheet.now o.layout.now o.accepted o.read o.formed in
    subst (Puts _ _) (site-line-is r c.sites-sites.ensures c.args.i c.slot_at-slot.ensures c.get-height.ensures) (rw c.site_at.ensures.y at c.put_site_line.ensures)
