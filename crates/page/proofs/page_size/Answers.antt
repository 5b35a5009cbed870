use Rattle.judge.proofs.opened.Opening.{layout-read}
use Rattle.page.proofs.Numbered.{size_fits, size_is}
use Rattle.page.proofs.page_size.Goals as goal

pub bytes_for-requires : goal.bytes_for-requires
bytes_for-requires c =
    let o = c.args.opened.now in
    size_fits (layout-read o.sheet.now o.layout.now o.accepted o.read o.formed) _ c.count_field-labels.ensures

pub returns : goal.returns
returns c =
    let o = c.args.opened.now in
    size_is (layout-read o.sheet.now o.layout.now o.accepted o.read o.formed) _ _ c.requires c.count_field-labels.ensures c.bytes_for.ensures
