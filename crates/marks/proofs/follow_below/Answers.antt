use mathlib.Core.Path.{ap₂, refl, ap, sym, ◌∙◌}
use Rattle.rows.specs.Rows.{strip_of, point_of, end_place}
use Rattle.optimum.proofs.Marks.{some-mark}
use Rattle.rows.proofs.Places.{row_fits}
use Rattle.rows.proofs.Levels.{ready_of}
use Rattle.parts.proofs.Marking.{marking-none}
use Rattle.marks.proofs.Followed.{ended, followed-none, followed-more, followed-all, next_row, next_low, later-low, start-lies, row_lies, at_low}
use Prim.Native.Nat.{ℕ, ◌+◌}
use native.Mathlib.Omega.{arith}
use lib.ListN.{length}
use Rattle.marks.proofs.follow_below.Goals as goal

pub returns-then-not-is_upper_end : goal.returns-then-not-is_upper_end
returns-then-not-is_upper_end c =
    let a = c.args in
    (marking-none _ _ _, λ p t e. absurd (ended _ a.level.now.sheet.now.measures.colours a.above.slot a.above.colour c.requires.1.1 (sym c.is_upper_end.ensures ∙ c.if-not-is_upper_end.true) p t e))

pub row_place-requires : goal.row_place-requires
row_place-requires c =
    let p = c.requires in start-lies _ _ _ _ p.1.0 p.1.1

pub overflow_add-at : goal.overflow_add-at
overflow_add-at c =
    let p = c.requires in
    let a = c.args in
    let v = a.level.now in
    let g = v.sheet.now in
    omega (arith, c.row_place.ensures, v.apart, p.0, row_fits (length g.heights.now) g.measures.colours g.measures.budgets _ (start-lies (length g.heights.now) g.measures.colours a.above.slot a.above.colour p.1.0 p.1.1))

pub loop-p-init : goal.loop-p-init
loop-p-init c =
    let p = c.requires in
    let a = c.args in
    let v = a.level.now in
    let g = v.sheet.now in
    (refl, refl, (omega arith, some-mark), omega (arith, p.1.0), ap (λ (z : ℕ). v.base + z) c.row_place.ensures, refl, followed-none g.measures g.heights.now g.bounds.now v.base v.low (point_of v.site) a.work.now a.above.slot a.above.colour _ p.1.1 (omega arith))

pub mark_row-requires : goal.mark_row-requires
mark_row-requires c =
    let p = c.requires in
    let l = c.loop-p in
    let y = ready_of c.args.level.now p.0 in
    let r = row_lies _ _ _ _ (strip_of l.p) p.1 l.invariant.0 l.invariant.1 (omega (arith, c.loop-p-test.true)) l.invariant.2 in
    record {
      fits = rw l.invariant.5 p.0;
      lies = r;
      here = omega (arith, at_low y _ r _ l.invariant.4, l.invariant.5, p.0, y.sheet.some_budget);
    }

pub overflow_add-at-in-loop-p : goal.overflow_add-at-in-loop-p
overflow_add-at-in-loop-p c =
    let p = c.requires in
    let l = c.loop-p in
    let y = ready_of c.args.level.now p.0 in
    let r = row_lies _ _ _ _ (strip_of l.p) p.1 l.invariant.0 l.invariant.1 (omega (arith, c.loop-p-test.true)) l.invariant.2 in
    omega (arith, at_low y _ r _ l.invariant.4, p.0)

pub next_below-p-requires : goal.next_below-p-requires
next_below-p-requires c =
    let p = c.requires in
    let l = c.loop-p in
    let o = c.args.level.now.sheet.now.of_sheet in
    (o.few_colours, omega (arith, l.invariant.3, o.few_slots), l.invariant.2.0, l.invariant.2.1)

pub loop-p-smaller : goal.loop-p-smaller
loop-p-smaller c =
    let p = c.requires in
    let l = c.loop-p in
    omega (arith, c.next_below-p.ensures.4, later-low c.args.level.now.sheet.now.measures.colours (strip_of l.p) (length c.args.level.now.sheet.now.heights.now + 2) 0 l.invariant.2.0 l.invariant.2.1 (omega (arith, c.loop-p-test.true)))

pub loop-p-preserved : goal.loop-p-preserved
loop-p-preserved c =
    let p = c.requires in
    let a = c.args in
    let l = c.loop-p in
    let f = c.mark_row in
    let v = a.level.now in
    let g = v.sheet.now in
    let y = ready_of v p.0 in
    let e = c.next_below-p.ensures in
    let r = row_lies _ _ _ _ (strip_of l.p) p.1 l.invariant.0 l.invariant.1 (omega (arith, c.loop-p-test.true)) l.invariant.2 in (
      e.0 ∙ l.invariant.0,
      e.1 ∙ l.invariant.1,
      (e.2, e.3),
      omega (arith, c.loop-p-test.true, next_low g.measures.colours (strip_of l.p) (strip_of c.next_below-p.result) l.invariant.2.0 l.invariant.2.1 e.4),
      next_row _ _ _ _ _ (strip_of l.p) (strip_of c.next_below-p.result) e.0 e.1 e.4 l.invariant.4,
      f.auto.work ∙ l.invariant.5,
      rw (e.0, e.1, e.4) (followed-more g.measures g.heights.now g.bounds.now v.base v.low (point_of v.site) _ l.work f.new.work (strip_of l.p) _ l.at y.apart r refl l.invariant.4 y.sheet.some_budget l.invariant.6 f.ensures.0 f.ensures.1),
    )

pub shape_of-work : goal.shape_of-work
shape_of-work c = c.loop-p.invariant.5

pub returns : goal.returns
returns c =
    let l = c.loop-p in
    let v = c.args.level.now in
    let g = v.sheet.now in
    (l.invariant.6.marking, λ p t e. followed-all g.measures g.heights.now g.bounds.now v.base v.low (point_of v.site) c.args.work.now l.work _ (strip_of l.p) (omega (arith, c.loop-p-test.false)) l.invariant.6 p t (e ∙ ap₂ (end_place g.measures.colours) (sym l.invariant.0) (sym l.invariant.1)))
