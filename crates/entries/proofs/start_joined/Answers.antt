use mathlib.Core.Path.{◌≡◌, ap, ◌∙◌}
use Prim.Native.Nat.{ℕ, ◌+◌, ◌*◌, ◌<◌}
use native.Mathlib.Omega.{arith}
use Rattle.optimum.specs.Strips.{Strip}
use Rattle.optimum.specs.OneSided.{mark_count}
use Rattle.rows.specs.Rows.{strip_of, point_of, row_of, marked_by, Lies}
use Rattle.rows.proofs.Places.{marked-lies}
use Rattle.arrays.proofs.Marks.{turn_low}
use Rattle.entries.proofs.Places.{own-fits, joins-fit, row-ready}
use Rattle.entries.proofs.Terms.{joined_by}
use Rattle.entries.proofs.start_joined.Goals as goal

-- the strip x is p with the mark d: its place, and where its row stands from `low` on
joined-lies : {m C d : ℕ} {p x : Strip} → Lies m C p → d < mark_count → x ≡ marked_by d p → Lies m C x
joined-lies h l e = rw e (marked-lies _ _ _ _ h l)

joined-at : (low m C n : ℕ) {place : ℕ} {x y : Strip} → x ≡ y → place ≡ row_of m C x * n → low + place ≡ low + row_of m C y * n
joined-at low m C n e f = ap (λ (z : ℕ). low + z) f ∙ ap (λ (z : Strip). low + row_of m C z * n) e

pub row_place-requires : goal.row_place-requires
row_place-requires c =
    joined-lies c.requires.lies (turn_low _ _ _) c.risen_of.ensures

pub overflow_add-up : goal.overflow_add-up
overflow_add-up c =
    let h = own-fits (row-ready c.args.level.now c.requires) _ (joined-lies c.requires.lies (turn_low _ _ _) c.risen_of.ensures) in
    omega (arith, c.row_place.ensures, h, c.ranges)

pub row_place-requires-2 : goal.row_place-requires-2
row_place-requires-2 c =
    joined-lies c.requires.lies (turn_low _ _ _) c.fallen_of.ensures

pub overflow_add-down : goal.overflow_add-down
overflow_add-down c =
    let h = own-fits (row-ready c.args.level.now c.requires) _ (joined-lies c.requires.lies (turn_low _ _ _) c.fallen_of.ensures) in
    omega (arith, c.row_place-2.ensures, h, c.ranges)

pub start_row-requires : goal.start_row-requires
start_row-requires c =
    let p = c.requires in
    joins-fit (row-ready c.args.level.now p) (strip_of c.args.p) _ _ p.lies (turn_low _ _ _) (turn_low _ _ _) _ _
    (joined-at _ _ _ _ c.risen_of.ensures c.row_place.ensures) (joined-at _ _ _ _ c.fallen_of.ensures c.row_place-2.ensures)

pub rise_cost-rise-requires : goal.rise_cost-rise-requires
rise_cost-rise-requires c = let v = c.args.level.now in (v.site_in, c.requires.lies)

pub fall_cost-fall-requires : goal.fall_cost-fall-requires
fall_cost-fall-requires c = let v = c.args.level.now in (v.site_in, c.requires.lies)

pub returns : goal.returns
returns c =
    let v = c.args.level.now in
    let g = v.sheet.now in
    let o = c.start_row.ensures in
    λ bs. (
      o.0,
      λ x h. o.1 x h ∙ joined_by g.measures g.heights.now bs c.args.work.now v.low (strip_of c.args.p) (point_of v.site) x _ _ _ _
          (c.rise_cost-rise.ensures bs) (c.fall_cost-fall.ensures bs)
          (joined-at _ _ _ _ c.risen_of.ensures c.row_place.ensures) (joined-at _ _ _ _ c.fallen_of.ensures c.row_place-2.ensures),
    )
