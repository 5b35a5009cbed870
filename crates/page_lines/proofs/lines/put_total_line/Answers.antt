use Rattle.text.specs.Text.{right_in, ascii, decimal}
use Rattle.page_lines.specs.Columns.{field}
use Rattle.page_lines.proofs.Fields.{field_put, end-put}
use mathlib.Core.List.{[]}
use Rattle.page_lines.proofs.lines.put_total_line.Goals as goal

pub returns : goal.returns
unfolding right_in
returns c = let a = c.args in
    field_put 0 (field 1 5 (ascii "total")) _ c.put_bytes.ensures
    (field_put 5 (field 8 10 (decimal a.count)) _ (rw c.from.ensures at c.put_plain.ensures)
    (field_put 10 (field 20 27 (decimal a.length)) [] (rw c.from-2.ensures at c.put_plain-2.ensures) (end-put 27 c.put_end.ensures)))
