use Rattle.judge.proofs.opened.Opening.{layout-read}
use Rattle.strokes.proofs.Read.{drop-low, drop-is}
use Rattle.strokes.proofs.drawing.drop_of.Goals as goal

pub drop-requires : goal.drop-requires
drop-requires c =
    let o = c.args.opened.now in
    let p = layout-read o.sheet.now o.layout.now o.accepted o.read o.formed in
    rw (c.site_at-site.ensures.x, c.site_at-site.ensures.y) (drop-low p c.sites-sites.ensures c.args.i c.slot_at.ensures c.get-height.ensures c.requires)

pub returns : goal.returns
returns c =
    let o = c.args.opened.now in
    let p = layout-read o.sheet.now o.layout.now o.accepted o.read o.formed in
    drop-is p c.sites-sites.ensures c.args.i c.slot_at.ensures c.get-height.ensures (rw (c.site_at-site.ensures.x, c.site_at-site.ensures.y) at c.drop.ensures)
