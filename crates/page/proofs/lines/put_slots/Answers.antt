use mathlib.Core.Path.{subst}
use native.Mathlib.Omega.{arith}
use Rattle.labelling.specs.Layout.{layout_ties}
use Rattle.decoding.specs.Decoding.{sheet_by}
use Rattle.decoding.proofs.Fronts.{few}
use Rattle.layouts.proofs.Read.{slots-long}
use Rattle.judge.proofs.opened.Opening.{layout-read}
use Rattle.text.specs.Puts.{Puts}
use Rattle.text.proofs.Puts.{left-more, left-none}
use Rattle.page.specs.Page.{slot_line_of}
use Rattle.page.proofs.Texts.{slots-all, slots-more, slots-none}
use Rattle.page.proofs.lines.put_slots.Goals as goal

pub overflow_cast-slot : goal.overflow_cast-slot
overflow_cast-slot c =
    let o = c.args.opened.now in
    omega (arith, c.loop-slot-test.true, (few (layout-read o.sheet.now o.layout.now o.accepted o.read o.formed).read).0)

pub loop-slot-preserved : goal.loop-slot-preserved
loop-slot-preserved c =
    let o = c.args.opened.now in
    let js = layout_ties o.layout.now in
    let f = slot_line_of (sheet_by o.numbers) js in
    left-more _ c.loop-slot.invariant (slots-more f js o.numbers.slots c.loop-slot.slot c.loop-slot-test.true) c.put_slot.ensures

pub returns : goal.returns
returns c =
    let o = c.args.opened.now in
    let js = layout_ties o.layout.now in
    let f = slot_line_of (sheet_by o.numbers) js in
    subst (Puts _ _) (slots-all f js o.numbers.slots 0 (slots-long (layout-read o.sheet.now o.layout.now o.accepted o.read o.formed)))
    (left-none c.loop-slot.invariant (slots-none f js o.numbers.slots c.loop-slot.slot c.loop-slot-test.false))
