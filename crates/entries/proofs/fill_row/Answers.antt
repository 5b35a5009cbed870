use mathlib.Core.Path.{ap, sym, ◌∙◌}
use Prim.Native.Nat.{ℕ, ◌+◌}
use native.Mathlib.Omega.{arith}
use Rattle.rows.specs.Rows.{strip_of, point_of}
use Rattle.entries.proofs.Places.{own-fits, filled-ready}
use Rattle.entries.proofs.Terms.{row_copied, row-joined, row_opened}
use Rattle.entries.proofs.fill_row.Goals as goal

pub overflow_add-same : goal.overflow_add-same
overflow_add-same c =
    let p = c.requires in
    omega (arith, c.row_place.ensures, own-fits (filled-ready c.args.filling.now p) (strip_of c.args.p) p.lies)

pub copy_row-requires : goal.copy_row-requires
copy_row-requires c =
    let p = c.requires in
    let e = c.row_place.ensures in
    let f = own-fits (filled-ready c.args.filling.now p) (strip_of c.args.p) p.lies in
    (omega (arith, p.apart), omega arith)

pub returns-then-not-is_inside : goal.returns-then-not-is_inside
returns-then-not-is_inside c =
    let a = c.args in
    let y = a.filling.now in
    let x = y.level.sheet.now in
    let o = c.copy_row in
    let g = sym (c.is_inside.ensures x.measures x.bounds.now) ∙ c.if-not-is_inside.true in
    let f = ap (λ (z : ℕ). y.level.low + z) c.row_place.ensures in (
      o.ensures.0,
      λ m. row_copied x.measures x.heights.now x.bounds.now x.splits.parts.now x.splits.counts.now y.left.now a.work.now o.new.work a.base y.level.low _
          (strip_of a.p) (point_of y.level.site) g f o.ensures.1,
    )

pub returns-then-site_opens : goal.returns-then-site_opens
returns-then-site_opens c =
    let a = c.args in
    let y = a.filling.now in
    let x = y.level.sheet.now in
    let p = c.requires in
    let r = c.start_joined in
    let w = r.ensures x.bounds.now in
    let o = c.open_slots in
    let g = sym (c.is_inside.ensures x.measures x.bounds.now) ∙ c.if-not-is_inside.false in
    let h = sym c.site_opens.ensures ∙ c.if-site_opens.true in (
      record { before = λ i k. o.ensures.0.before i k ∙ w.0.before i k; after = λ i k. o.ensures.0.after i k ∙ w.0.after i k },
      λ m. row_opened x.measures x.heights.now x.bounds.now x.splits.parts.now x.splits.counts.now y.left.now a.work.now r.new.work o.new.work a.base y.level.low
          (strip_of a.p) (point_of y.level.site) p.apart g h w.0 w.1 o.ensures.1,
    )

pub returns-else-site_opens : goal.returns-else-site_opens
returns-else-site_opens c =
    let a = c.args in
    let y = a.filling.now in
    let x = y.level.sheet.now in
    let r = c.start_joined in
    let w = r.ensures x.bounds.now in
    let g = sym (c.is_inside.ensures x.measures x.bounds.now) ∙ c.if-not-is_inside.false in
    let h = sym c.site_opens.ensures ∙ c.if-site_opens.false in (
      w.0,
      λ m. row-joined x.measures x.heights.now x.bounds.now x.splits.parts.now x.splits.counts.now y.left.now a.work.now r.new.work a.base y.level.low
          (strip_of a.p) (point_of y.level.site) g h w.1,
    )
