use mathlib.Core.Path.{refl, sym, ◌∙◌}
use native.Mathlib.Omega.{arith}
use Rattle.lists.proofs.Tests.{clash}
use Rattle.rows.specs.Rows.{strip_of, point_of}
use Rattle.parts.proofs.Marking.{marking-none, marking-join}
use Rattle.arrays.proofs.Narrowed.{on-slots}
use Rattle.marks.proofs.Asked.{marked-out, marked-in}
use Rattle.marks.proofs.mark_row.Goals as goal

pub returns-then-work-at-ne1 : goal.returns-then-work-at-ne1
returns-then-work-at-ne1 c = (marking-none _ _ _, λ e. absurd (c.if-work-at-ne1.true e))

pub mark_own-requires : goal.mark_own-requires
mark_own-requires c =
    let p = c.requires in (p.fits, p.lies)

pub shape_of-work-then-not-is_inside : goal.shape_of-work-then-not-is_inside
shape_of-work-then-not-is_inside c = c.mark_own.auto.work

pub returns-then-not-is_inside : goal.returns-then-not-is_inside
returns-then-not-is_inside c =
    let v = c.args.level.now in
    let g = v.sheet.now in
    let o = c.mark_own.ensures in
    (o.0, λ k. marked-out g.measures g.heights.now g.bounds.now (strip_of c.args.p) (point_of v.site) c.mark_own.new.work v.low (sym (c.is_inside.ensures g.measures g.bounds.now) ∙ c.if-not-is_inside.true) (o.1 refl))

pub mark_joins-requires : goal.mark_joins-requires
mark_joins-requires c = (c.requires.fits, c.requires.lies)

pub site_opens-requires : goal.site_opens-requires
site_opens-requires c =
    let v = c.args.level.now in omega (arith, v.site_in.colour_low, v.sheet.now.bounded)

pub open_window-window-requires : goal.open_window-window-requires
open_window-window-requires c =
    let v = c.args.level.now in (v.site_in, c.requires.lies.b_low)

pub mark_window-requires : goal.mark_window-requires
mark_window-requires c =
    let p = c.requires in
    record { strip_fits = (rw c.mark_joins.auto.work p.fits, p.lies); window_low = c.open_window-window.ensures.high }

pub shape_of-work-then-site_opens : goal.shape_of-work-then-site_opens
shape_of-work-then-site_opens c = c.mark_window.auto.work ∙ c.mark_joins.auto.work

pub returns-then-site_opens : goal.returns-then-site_opens
returns-then-site_opens c =
    let v = c.args.level.now in
    let g = v.sheet.now in
    let p = c.requires in
    let o = c.mark_joins.ensures in
    let w = c.mark_window.ensures in
    let i = sym (c.is_inside.ensures g.measures g.bounds.now) ∙ c.if-not-is_inside.false in (
      marking-join _ _ _ _ _ o.0 w.0,
      λ k. marked-in g.measures g.heights.now g.bounds.now (strip_of c.args.p) (point_of v.site) _ v.low c.open_window-window.result (on-slots g.of_sheet) v.site_in i
          (λ h. w.0.kept _ (o.1 g.bounds.now h)) (λ h. w.0.kept _ (o.2 g.bounds.now h))
          (λ s. (c.open_window-window.ensures, w.1)),
    )

pub shape_of-work-else-site_opens : goal.shape_of-work-else-site_opens
shape_of-work-else-site_opens c = c.mark_joins.auto.work

pub returns-else-site_opens : goal.returns-else-site_opens
returns-else-site_opens c =
    let v = c.args.level.now in
    let g = v.sheet.now in
    let p = c.requires in
    let o = c.mark_joins.ensures in
    let i = sym (c.is_inside.ensures g.measures g.bounds.now) ∙ c.if-not-is_inside.false in (
      o.0,
      λ k. marked-in g.measures g.heights.now g.bounds.now (strip_of c.args.p) (point_of v.site) c.mark_joins.new.work v.low (record { from = 0; to = 0 }) (on-slots g.of_sheet) v.site_in i
          (o.1 g.bounds.now) (o.2 g.bounds.now)
          (λ s. clash s (sym c.site_opens.ensures ∙ c.if-site_opens.false)),
    )

pub offset_bounds-work-at : goal.offset_bounds-work-at
offset_bounds-work-at c = omega (arith, c.requires.here)

pub bounds-work-at : goal.bounds-work-at
bounds-work-at c = c.requires.here
