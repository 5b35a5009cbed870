use Rattle.judge.proofs.opened.Opening.{layout-read}
use Rattle.page.proofs.Counting.{sums-read}
use Rattle.page.proofs.labels.sums_at.Goals as goal

pub returns : goal.returns
returns c =
    let o = c.args.opened.now in
    sums-read (layout-read o.sheet.now o.layout.now o.accepted o.read o.formed) c.args.slot c.sites.ensures c.sums_of.ensures
