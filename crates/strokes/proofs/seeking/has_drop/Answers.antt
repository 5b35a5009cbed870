use Rattle.judge.proofs.opened.Opening.{layout-read}
use Rattle.strokes.proofs.Read.{off-is}
use Rattle.strokes.proofs.seeking.has_drop.Goals as goal

pub returns : goal.returns
returns c =
    let o = c.args.opened.now in
    let p = layout-read o.sheet.now o.layout.now o.accepted o.read o.formed in
    off-is p c.sites-sites.ensures c.args.i c.slot_at.ensures c.get.ensures (rw c.site_at.ensures.y at c.is_off.ensures)
