use Rattle.rows.specs.Rows.{point_of}
use Rattle.marks.proofs.Followed.{later-end, slot-low}
use Rattle.table.proofs.Filling.{passed_none, passed-more, passed-all}
use mathlib.Core.Path.{refl, ◌∙◌}
use Prim.Native.Nat.{◌+◌}
use native.Mathlib.Omega.{arith}
use lib.ListN.{length}
use Rattle.table.proofs.fill_level.Goals as goal

pub loop-above-init : goal.loop-above-init
loop-above-init c =
    let y = c.args.filling.now in
    let v = y.level in
    let g = v.sheet.now in
    let a = c.args in
    (omega arith, slot-low g.measures.colours 0 (length g.heights.now + 1) 0 (omega arith), refl, passed_none g.measures g.heights.now g.bounds.now g.splits.parts.now g.splits.counts.now y.left.now v.base v.low (point_of v.site) a.work.now _ (omega arith))

pub fill_below-requires : goal.fill_below-requires
fill_below-requires c =
    let p = c.requires in
    let l = c.loop-above in
    (rw l.invariant.2 p, (omega (arith, c.loop-above-test.true), l.invariant.0))

pub next_end-above-requires : goal.next_end-above-requires
next_end-above-requires c =
    let y = c.args.filling.now in
    let v = y.level in
    let g = v.sheet.now in
    let p = c.requires in
    let l = c.loop-above in
    (g.of_sheet.few_colours, omega (arith, c.loop-above-test.true, g.of_sheet.few_slots), l.invariant.0)

pub loop-above-smaller : goal.loop-above-smaller
loop-above-smaller c =
    let y = c.args.filling.now in
    let v = y.level in
    let g = v.sheet.now in
    let l = c.loop-above in
    omega (arith, c.next_end-above.ensures.1, later-end g.measures.colours l.above.slot l.above.colour (length g.heights.now + 1) 0 l.invariant.0 (omega (arith, c.loop-above-test.true)))

pub loop-above-preserved : goal.loop-above-preserved
loop-above-preserved c =
    let y = c.args.filling.now in
    let v = y.level in
    let g = v.sheet.now in
    let p = c.requires in
    let a = c.args in
    let l = c.loop-above in
    let f = c.fill_below in
    let e = c.next_end-above.ensures in
    let z = later-end g.measures.colours l.above.slot l.above.colour (length g.heights.now + 1) 0 l.invariant.0 (omega (arith, c.loop-above-test.true)) in (
      e.0,
      omega (arith, z, e.1),
      f.auto.work ∙ l.invariant.2,
      rw e.1 (passed-more g.measures g.heights.now g.bounds.now g.splits.parts.now g.splits.counts.now y.left.now v.base v.low (point_of v.site) _ l.work f.new.work l.above.slot l.above.colour v.apart (omega (arith, c.loop-above-test.true)) l.invariant.0 l.invariant.3 f.ensures.0 f.ensures.1),
    )

pub shape_of-work : goal.shape_of-work
shape_of-work c = c.loop-above.invariant.2

pub returns : goal.returns
returns c =
    let y = c.args.filling.now in
    let v = y.level in
    let g = v.sheet.now in
    let l = c.loop-above in
    let a = c.args in
    passed-all g.measures g.heights.now g.bounds.now g.splits.parts.now g.splits.counts.now y.left.now v.base v.low (point_of v.site) a.work.now l.work _ _ (omega (arith, c.loop-above-test.false)) l.invariant.1 l.invariant.3
