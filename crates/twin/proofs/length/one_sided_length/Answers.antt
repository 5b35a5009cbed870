use Rattle.judge.proofs.opened.Opening.{layout-read}
use Rattle.twin.proofs.Stored.{length_found}
use Rattle.twin.proofs.length.one_sided_length.Goals as goal

pub returns : goal.returns
returns c =
    let o = c.args.opened.now in
    length_found (layout-read o.sheet.now o.layout.now o.accepted o.read o.formed) _ c.one_sided.ensures c.sites-sites.ensures c.totals_of.ensures.length_value
