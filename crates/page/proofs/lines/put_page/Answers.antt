use Rattle.labelling.specs.Layout.{layout_ties}
use Rattle.decoding.specs.Decoding.{sheet_by}
use Rattle.judge.proofs.opened.Opening.{layout-read}
use Rattle.page.specs.Page.{slot_lines, site_lines, last_line_of}
use Rattle.page.proofs.Numbered.{last-line-is}
use Rattle.page.proofs.Texts.{parts-put}
use Rattle.page.proofs.lines.put_page.Goals as goal

pub returns : goal.returns
returns c =
    let o = c.args.opened.now in
    let s = sheet_by o.numbers in
    let js = layout_ties o.layout.now in
    parts-put (slot_lines s js) (site_lines s js) (last_line_of s js) _
    (last-line-is (layout-read o.sheet.now o.layout.now o.accepted o.read o.formed) _ _ c.requires c.count_field.ensures c.length_field.ensures)
    c.put_slots.ensures c.put_sites.ensures c.put_total_line.ensures
