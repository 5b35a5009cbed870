use Rattle.table.proofs.Filling.{others-of}
use Rattle.rows.proofs.Levels.{next_level, level-within, place-small}
use Rattle.table.proofs.Right.{level-right, site-stands}
use Prim.Native.Nat.{◌+◌}
use native.Mathlib.Omega.{arith}
use Rattle.table.proofs.fill_site.Goals as goal

pub site_at-site-requires : goal.site_at-site-requires
site_at-site-requires c = c.requires.1.1

-- the site stands on the sheet
pub opening_costs-opening-requires : goal.opening_costs-opening-requires
opening_costs-opening-requires c = site-stands c.args.sheet.now.of_sheet c.args.j _ c.site_at-site.ensures c.requires.1.1

pub overflow_mul-level : goal.overflow_mul-level
overflow_mul-level c =
    let p = c.requires in
    let o = c.args.sheet.now.of_sheet in
    omega (arith, place-small o c.args.j _ (omega (arith, p.1.1, o.few_sites)) p.1.0)

pub overflow_mul-level-2 : goal.overflow_mul-level-2
overflow_mul-level-2 c =
    let p = c.requires in
    let o = c.args.sheet.now.of_sheet in
    omega (arith, place-small o (c.args.j + 1) _ (omega (arith, p.1.1, o.few_sites)) p.1.0)

pub invariant_of-level : goal.invariant_of-level
invariant_of-level c =
    let a = c.args in
    let p = c.requires in
    record {
      site_in = site-stands a.sheet.now.of_sheet a.j _ c.site_at-site.ensures p.1.1;
      apart = omega (arith, next_level a.j a.size, p.1.0);
    }

pub invariant_of-filling : goal.invariant_of-filling
invariant_of-filling c =
    record {
      left_long = omega (arith, c.args.sheet.now.of_sheet.few_budgets);
      opening_listed = c.opening_costs-opening.ensures;
    }

pub fill_level-requires : goal.fill_level-requires
fill_level-requires c =
    let a = c.args in
    let p = c.requires in
    let r = level-within a.j _ a.size _ _ p.1.0 p.1.1 p.0 in
    omega (arith, r.1, p.1.0)

pub shape_of-work : goal.shape_of-work
shape_of-work c = c.fill_level.auto.work

pub returns : goal.returns
returns c =
    let a = c.args in
    let p = c.requires in
    let f = c.fill_level.ensures in (
      others-of _ _ _ _ _ p.1.0 f.0,
      λ m h. level-right a.sheet.now.of_sheet a.work.now c.fill_level.new.work _ _ _ a.j _ _ _ c.site_at-site.ensures a.sheet.now.listed p.1.1 (rw (← c.get-draw.ensures) c.list_left-left.ensures) f.1 m h,
    )
