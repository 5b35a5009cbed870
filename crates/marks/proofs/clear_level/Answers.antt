use Rattle.marks.proofs.Cleared.{kept-none, kept_more}
use Rattle.marks.proofs.Followed.{next-slot, later-end}
use mathlib.Core.Path.{refl, ◌∙◌}
use Prim.Native.Nat.{◌+◌}
use native.Mathlib.Nat.{le_refl}
use native.Mathlib.Omega.{arith}
use lib.ListN.{length}
use Rattle.marks.proofs.clear_level.Goals as goal

pub overflow_cast-ends : goal.overflow_cast-ends
overflow_cast-ends c = omega (arith, c.args.sheet.now.of_sheet.few_slots)

pub overflow_add-ends : goal.overflow_add-ends
overflow_add-ends c = omega (arith, c.args.sheet.now.of_sheet.few_slots)

pub loop-above-init : goal.loop-above-init
loop-above-init c = (omega arith, omega arith, refl, kept-none _ _)

pub clear_below-requires : goal.clear_below-requires
clear_below-requires c =
    let l = c.loop-above in
    (rw l.invariant.2 c.requires, omega (arith, c.loop-above-test.true), l.invariant.0)

pub next_end-above-requires : goal.next_end-above-requires
next_end-above-requires c =
    let p = c.args.sheet.now.of_sheet in
    let l = c.loop-above in
    (p.few_colours, omega (arith, l.invariant.1, p.few_slots), l.invariant.0)

pub loop-above-smaller : goal.loop-above-smaller
loop-above-smaller c =
    let a = c.args in
    let l = c.loop-above in
    omega (arith, c.next_end-above.ensures.1, later-end a.sheet.now.measures.colours l.above.slot l.above.colour (length a.sheet.now.heights.now + 1) 0 l.invariant.0 (omega (arith, c.loop-above-test.true)))

pub loop-above-preserved : goal.loop-above-preserved
loop-above-preserved c =
    let a = c.args in
    let l = c.loop-above in
    let f = c.clear_below in
    let e = c.next_end-above.ensures in (
      e.0,
      omega (arith, c.loop-above-test.true, next-slot a.sheet.now.measures.colours l.above.slot l.above.colour _ _ l.invariant.0 e.1),
      f.auto.work ∙ l.invariant.2,
      kept_more l.invariant.3 (le_refl _) f.ensures,
    )

pub shape_of-work : goal.shape_of-work
shape_of-work c = c.loop-above.invariant.2

pub returns : goal.returns
returns c = c.loop-above.invariant.3
