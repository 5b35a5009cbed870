use native.Mathlib.Omega.{arith}
use Rattle.judge.proofs.opened.Opening.{layout-read}
use Rattle.strokes.proofs.Read.{left-low, width_low, height-low, bone-is}
use Rattle.strokes.proofs.drawing.bone_of.Goals as goal

pub bone-requires : goal.bone-requires
bone-requires c =
    let o = c.args.opened.now in
    let p = layout-read o.sheet.now o.layout.now o.accepted o.read o.formed in
    (omega (arith, c.left_end.ensures, left-low p c.args.slot), width_low p, omega (arith, c.get-height.ensures, height-low p c.args.slot))

pub returns : goal.returns
returns c =
    let o = c.args.opened.now in
    let p = layout-read o.sheet.now o.layout.now o.accepted o.read o.formed in
    bone-is p c.args.slot c.left_end.ensures c.get-height.ensures c.bone.ensures
