use mathlib.Core.Path.{ap₂, refl, ap, sym, ◌∙◌}
use Rattle.optimum.proofs.Marks.{some-mark}
use Rattle.rows.specs.Rows.{strip_of, point_of, end_place}
use Rattle.rows.proofs.Places.{row_fits}
use Rattle.marks.proofs.Followed.{ended, next_row, later-low, start-lies, row_lies}
use Rattle.table.proofs.Filling.{filled_none, filled_more, filled-all, row_low, start-end, to_end}
use Prim.Native.Nat.{ℕ, ◌+◌}
use native.Mathlib.Omega.{arith}
use lib.ListN.{length}
use Rattle.table.proofs.fill_below.Goals as goal

pub returns-then-not-is_upper_end : goal.returns-then-not-is_upper_end
returns-then-not-is_upper_end c =
    let y = c.args.filling.now in
    let v = y.level in
    let g = v.sheet.now in
    let a = c.args in
    (record { before = λ i h. refl; after = λ i h. refl }, λ p t e. absurd (ended _ g.measures.colours a.above.slot a.above.colour c.requires.1.1 (sym c.is_upper_end.ensures ∙ c.if-not-is_upper_end.true) p t e))

pub row_place-requires : goal.row_place-requires
row_place-requires c =
    let y = c.args.filling.now in
    let v = y.level in
    let g = v.sheet.now in
    let p = c.requires in
    start-lies _ _ _ _ p.1.0 p.1.1

pub overflow_add-at : goal.overflow_add-at
overflow_add-at c =
    let y = c.args.filling.now in
    let v = y.level in
    let g = v.sheet.now in
    let p = c.requires in
    let a = c.args in
    omega (arith, c.row_place.ensures, v.apart, p.0, row_fits (length g.heights.now) g.measures.colours g.measures.budgets _ (start-lies (length g.heights.now) g.measures.colours a.above.slot a.above.colour p.1.0 p.1.1))

pub loop-p-init : goal.loop-p-init
loop-p-init c =
    let y = c.args.filling.now in
    let v = y.level in
    let g = v.sheet.now in
    let p = c.requires in
    let a = c.args in
    (refl, refl, (omega arith, some-mark), start-end g.measures.colours a.above.slot (length g.heights.now) p.1.0, ap (λ (z : ℕ). v.base + z) c.row_place.ensures, refl, filled_none g.measures g.heights.now g.bounds.now g.splits.parts.now g.splits.counts.now y.left.now v.base v.low (point_of v.site) a.work.now a.above.slot a.above.colour _ p.1.1 (omega arith))

pub fill_row-requires : goal.fill_row-requires
fill_row-requires c =
    let y = c.args.filling.now in
    let v = y.level in
    let g = v.sheet.now in
    let p = c.requires in
    let a = c.args in
    let l = c.loop-p in
    let r = row_lies _ _ _ _ (strip_of l.p) p.1 l.invariant.0 l.invariant.1 (omega (arith, c.loop-p-test.true)) l.invariant.2 in
    record {
      apart = row_low g.measures g.heights.now g.bounds.now g.splits.parts.now g.splits.counts.now y.left.now v.base v.low (point_of v.site) _ _ v.apart r l.invariant.4;
      within = omega (arith, l.invariant.5, p.0);
      lies = r;
    }

pub overflow_add-at-in-loop-p : goal.overflow_add-at-in-loop-p
overflow_add-at-in-loop-p c =
    let y = c.args.filling.now in
    let v = y.level in
    let g = v.sheet.now in
    let p = c.requires in
    let a = c.args in
    let l = c.loop-p in
    let r = row_lies _ _ _ _ (strip_of l.p) p.1 l.invariant.0 l.invariant.1 (omega (arith, c.loop-p-test.true)) l.invariant.2 in
    let z = row_low g.measures g.heights.now g.bounds.now g.splits.parts.now g.splits.counts.now y.left.now v.base v.low (point_of v.site) (strip_of l.p) l.at v.apart r l.invariant.4 in
    omega (arith, z, c.requires.0)

pub next_below-p-requires : goal.next_below-p-requires
next_below-p-requires c =
    let y = c.args.filling.now in
    let v = y.level in
    let g = v.sheet.now in
    let p = c.requires in
    let l = c.loop-p in
    (g.of_sheet.few_colours, omega (arith, c.loop-p-test.true, g.of_sheet.few_slots), l.invariant.2.0, l.invariant.2.1)

pub loop-p-smaller : goal.loop-p-smaller
loop-p-smaller c =
    let y = c.args.filling.now in
    let v = y.level in
    let g = v.sheet.now in
    let l = c.loop-p in
    omega (arith, c.next_below-p.ensures.4, later-low g.measures.colours (strip_of l.p) (length g.heights.now + 2) 0 l.invariant.2.0 l.invariant.2.1 (omega (arith, c.loop-p-test.true)))

pub loop-p-preserved : goal.loop-p-preserved
loop-p-preserved c =
    let y = c.args.filling.now in
    let v = y.level in
    let g = v.sheet.now in
    let p = c.requires in
    let a = c.args in
    let l = c.loop-p in
    let f = c.fill_row in
    let e = c.next_below-p.ensures in
    let r = row_lies _ _ _ _ (strip_of l.p) p.1 l.invariant.0 l.invariant.1 (omega (arith, c.loop-p-test.true)) l.invariant.2 in
    let z = later-low g.measures.colours (strip_of l.p) (length g.heights.now + 2) 0 l.invariant.2.0 l.invariant.2.1 (omega (arith, c.loop-p-test.true)) in (
      e.0 ∙ l.invariant.0,
      e.1 ∙ l.invariant.1,
      (e.2, e.3),
      omega (arith, z, e.4),
      next_row _ _ _ _ _ (strip_of l.p) (strip_of c.next_below-p.result) e.0 e.1 e.4 l.invariant.4,
      f.auto.work ∙ l.invariant.5,
      rw (e.0, e.1, e.4) (filled_more g.measures g.heights.now g.bounds.now g.splits.parts.now g.splits.counts.now y.left.now v.base v.low (point_of v.site) _ l.work f.new.work (strip_of l.p) _ l.at v.apart r refl l.invariant.4 l.invariant.6 f.ensures.0 f.ensures.1),
    )

pub shape_of-work : goal.shape_of-work
shape_of-work c = c.loop-p.invariant.5

pub returns : goal.returns
returns c =
    let y = c.args.filling.now in
    let v = y.level in
    let g = v.sheet.now in
    let l = c.loop-p in
    let a = c.args in
    to_end g.measures g.heights.now g.bounds.now g.splits.parts.now g.splits.counts.now y.left.now v.base v.low (point_of v.site) a.work.now l.work _ _ (ap₂ (end_place g.measures.colours) l.invariant.0 l.invariant.1) (filled-all g.measures g.heights.now g.bounds.now g.splits.parts.now g.splits.counts.now y.left.now v.base v.low (point_of v.site) a.work.now l.work (end_place g.measures.colours l.p.a l.p.ca) (strip_of l.p) (omega (arith, c.loop-p-test.false)) l.invariant.3 l.invariant.6)
