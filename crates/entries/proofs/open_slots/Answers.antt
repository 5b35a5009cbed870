use Rattle.rows.specs.Rows.{strip_of, point_of}
use Rattle.entries.proofs.Terms.{tried-empty, tried-more, tried-start, tried-end}
use Rattle.entries.proofs.Single.{single_of, single-row}
use mathlib.Core.Path.{◌≡◌, sym, ◌∙◌}
use Prim.Native.Nat.{◌+◌, ◌-◌}
use native.Mathlib.Omega.{arith}
use Rattle.entries.proofs.open_slots.Goals as goal

pub open_window-window-requires : goal.open_window-window-requires
open_window-window-requires c = let v = c.args.filling.now.level in (v.site_in, c.requires.lies.b_low)

pub returns-then-window : goal.returns-then-window
returns-then-window c =
    let a = c.args in
    let f = a.filling.now in
    let g = f.level.sheet.now in
    let w = c.open_window-window in
    let t = tried-empty g.measures g.heights.now g.splits.parts.now g.splits.counts.now f.left.now a.work.now a.base f.level.low (strip_of a.p) (point_of f.level.site)
    w.result w.ensures c.if-window.true (λ i. omega (arith, c.slice_known-1.given i)) in
    (t.others, t.row)

pub returns-then-is_single : goal.returns-then-is_single
returns-then-is_single c =
    let a = c.args in
    let f = a.filling.now in
    let g = f.level.sheet.now in
    let p = c.requires in
    let o = single_of g.measures.budgets g.splits.parts.now g.splits.counts.now f.left.now (sym c.is_single.ensures ∙ c.if-is_single.true) in
    let w = c.open_window-window in
    single-row g.measures g.heights.now g.splits.parts.now g.splits.counts.now f.left.now a.work.now a.base f.level.low (strip_of a.p) (point_of f.level.site)
    o w.result _
    (omega (arith, p.apart, p.within, g.of_sheet.some_budget)) w.ensures c.if-window.false c.least_open-t.ensures

pub loop-k-init : goal.loop-k-init
loop-k-init c =
    let a = c.args in
    let f = a.filling.now in
    let g = f.level.sheet.now in
    let p = c.requires in
    let w = c.open_window-window.ensures in
    tried-start g.measures g.heights.now g.splits.parts.now g.splits.counts.now f.left.now a.work.now a.base f.level.low (strip_of a.p) (point_of f.level.site)
    c.open_window-window.result w c.if-window.false (λ i. omega (arith, c.slice_known-1.given i))

pub loop-k-preserved : goal.loop-k-preserved
loop-k-preserved c =
    let a = c.args in
    let f = a.filling.now in
    let g = f.level.sheet.now in
    let p = c.requires in
    let l = c.loop-k in
    let o = c.open_slot in
    let w = c.open_window-window.ensures in
    let e : l.k + 1 - a.p.a ≡ l.k - a.p.a + 1 = omega (arith, l.auto.k, w.low) in
    let z : a.p.a + (l.k - a.p.a) ≡ l.k = omega (arith, l.auto.k, w.low) in
    rw e (tried-more g.measures g.heights.now g.splits.parts.now g.splits.counts.now f.left.now a.work.now l.work o.new.work a.base f.level.low
    (strip_of a.p) (point_of f.level.site) (l.k - a.p.a)
    p.apart l.invariant o.auto.work o.ensures.0 (λ v h. rw z (o.ensures.1 v h)))

pub returns : goal.returns
returns c =
    let l = c.loop-k in
    let a = c.args in
    let f = a.filling.now in
    let g = f.level.sheet.now in
    let p = c.requires in
    let w = c.open_window-window in
    let t = tried-end g.measures g.heights.now g.splits.parts.now g.splits.counts.now f.left.now a.work.now l.work a.base f.level.low
    (strip_of a.p) (point_of f.level.site) w.result l.k w.ensures c.if-window.false
    (omega (arith, l.auto.k-end, c.loop-k-test.false)) l.invariant in
    (t.others, t.row)
