use Rattle.marks.proofs.Reach.{at-site}
use Rattle.rows.proofs.Levels.{next_level, level-within}
use Rattle.arrays.proofs.Points.{point-at}
use Rattle.arrays.specs.Given.{SiteIn}
use mathlib.Core.Path.{sym, ◌∙◌, subst}
use native.Mathlib.Omega.{arith}
use lib.ListN.{length}
use Rattle.marks.proofs.mark_site.Goals as goal

pub site_at-site-requires : goal.site_at-site-requires
site_at-site-requires c = c.requires.1.1

pub overflow_mul-level : goal.overflow_mul-level
overflow_mul-level c =
    let p = c.requires in
    omega (arith, level-within c.args.j (length c.args.sheet.now.xs.now) c.args.size _ _ p.1.0 p.1.1 p.0)

pub overflow_mul-level-2 : goal.overflow_mul-level-2
overflow_mul-level-2 c =
    let p = c.requires in
    omega (arith, level-within c.args.j (length c.args.sheet.now.xs.now) c.args.size _ _ p.1.0 p.1.1 p.0)

pub invariant_of-level : goal.invariant_of-level
invariant_of-level c =
    let p = c.requires in
    let a = c.args in
    let g = a.sheet.now in
    record {
      site_in = subst (SiteIn g.measures) (sym c.site_at-site.ensures) (g.of_sheet.site_in a.j p.1.1);
      apart = omega (arith, p.1.0, next_level a.j a.size);
    }

pub follow_level-requires : goal.follow_level-requires
follow_level-requires c =
    let p = c.requires in
    let a = c.args in
    let r = level-within a.j (length a.sheet.now.xs.now) a.size _ _ p.1.0 p.1.1 p.0 in
    omega (arith, p.1.0, r.1)

pub returns : goal.returns
returns c =
    let p = c.requires in
    let a = c.args in
    let g = a.sheet.now in
    at-site g.measures g.heights.now g.bounds.now a.work.now c.follow_level.new.work a.size _ _ _ _ p.1.0 (point-at g.measures g.heights.now g.xs.now g.ys.now g.colours.now a.j p.1.1 ∙ sym c.site_at-site.ensures) c.follow_level.ensures
