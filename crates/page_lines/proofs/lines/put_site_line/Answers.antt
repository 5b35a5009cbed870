use Rattle.text.specs.Text.{right_in, decimal}
use Rattle.page_lines.specs.Columns.{field}
use Rattle.page_lines.specs.Lines.{site_start, drop_text}
use Rattle.page_lines.proofs.Fields.{field_put, end-put}
use mathlib.Core.List.{[]}
use Rattle.page_lines.proofs.lines.put_site_line.Goals as goal

pub returns : goal.returns
unfolding right_in
returns c = let a = c.args in
    field_put 0 (field 1 6 site_start) _ c.put_bytes.ensures
    (field_put 6 (field 8 10 (decimal a.site)) _ (rw c.from.ensures at c.put_plain.ensures)
    (field_put 10 (field 12 14 (decimal a.slot)) _ (rw c.from-2.ensures at c.put_plain-2.ensures)
    (field_put 14 (field 16 23 (drop_text a.height a.y)) [] c.put_drop.ensures (end-put 23 c.put_end.ensures))))
