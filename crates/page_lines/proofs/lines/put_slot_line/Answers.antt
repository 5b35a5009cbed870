use Rattle.text.specs.Text.{decimal}
use Rattle.page_lines.specs.Columns.{field}
use Rattle.page_lines.proofs.Fields.{field_put, end-put}
use mathlib.Core.List.{[]}
use Rattle.page_lines.proofs.lines.put_slot_line.Goals as goal

-- the fields, one after the other, and the end
pub returns : goal.returns
returns c =
    let b = c.args.label in
    field_put 0 (field 1 3 (decimal b.slot)) _ (rw c.from.ensures at c.put_plain.ensures)
    (field_put 3 (field 5 6 (decimal b.colour)) _ (rw c.from-2.ensures at c.put_plain-2.ensures)
    (field_put 6 (field 8 9 (decimal b.sites)) _ (rw c.from-3.ensures at c.put_plain-3.ensures)
    (field_put 9 (field 11 18 (decimal b.height)) _ (rw c.from-4.ensures at c.put_plain-4.ensures)
    (field_put 18 (field 20 27 (decimal b.length)) [] (rw c.from-5.ensures at c.put_plain-5.ensures) (end-put 27 c.put_end.ensures)))))
