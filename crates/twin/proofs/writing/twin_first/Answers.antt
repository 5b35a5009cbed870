use Rattle.judge.proofs.opened.Opening.{layout-read}
use Rattle.twin.proofs.Stored.{first_fits, first-twin}
use mathlib.Core.Path.{refl}
use native.Mathlib.Omega.{arith}
use Rattle.twin.proofs.writing.twin_first.Goals as goal

pub overflow_add-result : goal.overflow_add-result
overflow_add-result c =
    let o = c.args.opened.now in
    omega (arith, first_fits (layout-read o.sheet.now o.layout.now o.accepted o.read o.formed) _ _ _ refl c.length_field.ensures c.one_sided_length.ensures)

pub returns : goal.returns
returns c =
    let o = c.args.opened.now in
    first-twin (layout-read o.sheet.now o.layout.now o.accepted o.read o.formed) _ _ _ refl c.length_field.ensures c.one_sided_length.ensures
