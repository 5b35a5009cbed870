use Rattle.labelling.specs.Layout.{layout_ties}
use Rattle.decoding.specs.Decoding.{sheet_by}
use Rattle.text.proofs.Puts.{Left}
use Rattle.page.specs.Page.{slot_line_of}
use Rattle.page.proofs.Texts.{slots_from}
use Rattle.page.proofs.lines.put_slots.Given as goal

abbrev pub invariant-loop-slot : goal.invariant-loop-slot
invariant-loop-slot l =
    let o = l.opened in
    let js = layout_ties o.layout.now in
    let f = slot_line_of (sheet_by o.numbers) js in
    Left l.initial.page (slots_from f js o.numbers.slots 0) l.page (slots_from f js o.numbers.slots l.slot)
