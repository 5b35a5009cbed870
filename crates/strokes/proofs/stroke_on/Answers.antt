use mathlib.Core.Path.{◌≡◌, ap, ◌∙◌}
use mathlib.Core.List.{List}
use Prim.Native.Nat.{ℕ, ◌≤◌}
use native.Mathlib.Omega.{arith}
use Rattle.std.proofs.Common.{rules}
use Rattle.std.specs.Prelude.{Result}
use Rattle.sheet.specs.Limits.{most_slots}
use Rattle.labelling.specs.Layout.{tie_at, is_used, layout_ties}
use Rattle.labelling.specs.Strokes.{is_off}
use Rattle.decoding.specs.Decoding.{sheet_by, LayoutRead}
use Rattle.decoding.specs.declared.Numbers.{Numbers}
use Rattle.decoding.proofs.Fronts.{few}
use Rattle.layouts.proofs.Read.{slots-long, sites_long}
use Rattle.judge.proofs.opened.Opening.{layout-read}
use Rattle.strokes.specs.Seeking.{sought_in, bone_sought, drop_sought}
use Rattle.strokes.proofs.Placed.{bone-low, bone-found, drop-low, drop-found, none_found}
use Rattle.strokes.proofs.stroke_on.Goals as goal

-- what was sought, by the sheet
module _ {d : Numbers} {ls : List ℕ} (r : LayoutRead d ls) (p : ℕ) {o : Result ℕ ℕ} where
  bones : o ≡ sought_in (λ k. is_used k (layout_ties ls)) 0 d.slots p → o ≡ bone_sought (sheet_by d) (layout_ties ls) p
  bones q = q ∙ ap (λ (n : ℕ). sought_in (λ k. is_used k (layout_ties ls)) 0 n p) (slots-long r)

  drops : o ≡ sought_in (λ i. is_off (sheet_by d) (tie_at (sheet_by d) (layout_ties ls) i)) 0 d.sites p → o ≡ drop_sought (sheet_by d) (layout_ties ls) p
  drops q = q ∙ ap (λ (n : ℕ). sought_in (λ i. is_off (sheet_by d) (tie_at (sheet_by d) (layout_ties ls) i)) 0 n p) (sites_long r)

pub seek-requires : goal.seek-requires
seek-requires c =
    let o = c.args.opened.now in
    let low : o.numbers.slots ≤ most_slots = (few (layout-read o.sheet.now o.layout.now o.accepted o.read o.formed).read).0 in
    search rules

pub overflow_cast-slot : goal.overflow_cast-slot
overflow_cast-slot c =
    let o = c.args.opened.now in
    let r = layout-read o.sheet.now o.layout.now o.accepted o.read o.formed in
    let q = bones r c.args.place (c.in-Ok.ensures _ (λ i b l e. search rules)) in
    omega (arith, bone-low (sheet_by o.numbers) (layout_ties o.layout.now) c.args.place q, slots-long r, (few r.read).0)

pub returns-in-Ok : goal.returns-in-Ok
returns-in-Ok c =
    let o = c.args.opened.now in
    let r = layout-read o.sheet.now o.layout.now o.accepted o.read o.formed in
    let q = bones r c.args.place (c.in-Ok.ensures _ (λ i b l e. search rules)) in
    bone-found (sheet_by o.numbers) (layout_ties o.layout.now) c.args.place q c.bone_of.ensures

pub drop_of-requires : goal.drop_of-requires
drop_of-requires c =
    let o = c.args.opened.now in
    let r = layout-read o.sheet.now o.layout.now o.accepted o.read o.formed in
    let q = bones r c.args.place (c.in-Err.ensures _ (λ i b l e. search rules)) in
    let t = drops r c.in-Err.left (c.in-Ok-seek.ensures _ (λ i b l e. search rules)) in
    omega (arith, drop-low (sheet_by o.numbers) (layout_ties o.layout.now) c.args.place q t, sites_long r)

pub returns-in-Ok-seek : goal.returns-in-Ok-seek
returns-in-Ok-seek c =
    let o = c.args.opened.now in
    let r = layout-read o.sheet.now o.layout.now o.accepted o.read o.formed in
    let q = bones r c.args.place (c.in-Err.ensures _ (λ i b l e. search rules)) in
    let t = drops r c.in-Err.left (c.in-Ok-seek.ensures _ (λ i b l e. search rules)) in
    drop-found (sheet_by o.numbers) (layout_ties o.layout.now) c.args.place q t c.drop_of.ensures

pub returns-in-Err-seek : goal.returns-in-Err-seek
returns-in-Err-seek c =
    let o = c.args.opened.now in
    let r = layout-read o.sheet.now o.layout.now o.accepted o.read o.formed in
    let q = bones r c.args.place (c.in-Err.ensures _ (λ i b l e. search rules)) in
    let t = drops r c.in-Err.left (c.in-Err-seek.ensures _ (λ i b l e. search rules)) in
    none_found (sheet_by o.numbers) (layout_ties o.layout.now) c.args.place q t
