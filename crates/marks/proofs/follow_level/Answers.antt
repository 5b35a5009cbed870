use Rattle.rows.specs.Rows.{point_of}
use Rattle.marks.proofs.Followed.{passed_none, passed-more, passed-all, next-slot, later-end}
use mathlib.Core.Path.{refl, ◌∙◌}
use Prim.Native.Nat.{◌+◌}
use native.Mathlib.Omega.{arith}
use lib.ListN.{length}
use Rattle.marks.proofs.follow_level.Goals as goal

pub loop-above-init : goal.loop-above-init
loop-above-init c =
    let a = c.args in
    let v = a.level.now in
    let g = v.sheet.now in
    (omega arith, omega arith, refl, passed_none g.measures g.heights.now g.bounds.now v.base v.low (point_of v.site) a.work.now _ (omega arith))

pub follow_below-requires : goal.follow_below-requires
follow_below-requires c =
    let p = c.requires in
    let l = c.loop-above in
    (rw l.invariant.2 p, (omega (arith, c.loop-above-test.true), l.invariant.0))

pub next_end-above-requires : goal.next_end-above-requires
next_end-above-requires c =
    let p = c.requires in
    let l = c.loop-above in
    let o = c.args.level.now.sheet.now.of_sheet in
    (o.few_colours, omega (arith, l.invariant.1, o.few_slots), l.invariant.0)

pub loop-above-smaller : goal.loop-above-smaller
loop-above-smaller c =
    let l = c.loop-above in
    omega (arith, c.next_end-above.ensures.1, later-end c.args.level.now.sheet.now.measures.colours l.above.slot l.above.colour (length c.args.level.now.sheet.now.heights.now + 1) 0 l.invariant.0 (omega (arith, c.loop-above-test.true)))

pub loop-above-preserved : goal.loop-above-preserved
loop-above-preserved c =
    let p = c.requires in
    let a = c.args in
    let v = a.level.now in
    let g = v.sheet.now in
    let l = c.loop-above in
    let f = c.follow_below in
    let e = c.next_end-above.ensures in (
      e.0,
      omega (arith, c.loop-above-test.true, next-slot g.measures.colours l.above.slot l.above.colour _ _ l.invariant.0 e.1),
      f.auto.work ∙ l.invariant.2,
      rw e.1 (passed-more g.measures g.heights.now g.bounds.now v.base v.low (point_of v.site) _ l.work f.new.work _ v.apart g.of_sheet.some_budget l.invariant.3 f.ensures.0 f.ensures.1),
    )

pub shape_of-work : goal.shape_of-work
shape_of-work c = c.loop-above.invariant.2

pub returns : goal.returns
returns c =
    let l = c.loop-above in
    let a = c.args in
    let v = a.level.now in
    let g = v.sheet.now in
    (l.invariant.3.marking, passed-all g.measures g.heights.now g.bounds.now v.base v.low (point_of v.site) a.work.now l.work _ _ (omega (arith, c.loop-above-test.false)) l.invariant.3)
