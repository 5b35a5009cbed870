use Rattle.rows.proofs.Levels.{level-small, place-small, last_within}
use Rattle.table.proofs.Right.{done-last, done_more, done_all}
use mathlib.Core.Path.{◌≡◌, refl, ap, ◌∙◌}
use Prim.Native.Nat.{ℕ, ◌*◌}
use native.Mathlib.Omega.{arith}
use lib.ListN.{length}
use Rattle.table.proofs.fill_table.Goals as goal

pub overflow_mul-size : goal.overflow_mul-size
overflow_mul-size c =
    let g = c.requires in
    omega (arith, level-small c.args.sheet.now.of_sheet, ap (λ (z : ℕ). z * c.args.sheet.now.measures.budgets) c.rows_of-rows.ensures)

pub mark_table-requires : goal.mark_table-requires
mark_table-requires c =
    let g = c.requires in (g, c.rows_of-rows.ensures)

pub overflow_mul-sites : goal.overflow_mul-sites
overflow_mul-sites c =
    let g = c.requires in
    omega (arith, place-small c.args.sheet.now.of_sheet (length c.args.sheet.now.xs.now) _ (omega (arith, c.args.sheet.now.of_sheet.few_sites)) (ap (λ (z : ℕ). z * c.args.sheet.now.measures.budgets) c.rows_of-rows.ensures))

pub zero_level-requires : goal.zero_level-requires
zero_level-requires c =
    let g = c.requires in
    let a = c.args in
    last_within (length a.sheet.now.xs.now) _ _ _ _ (ap (λ (z : ℕ). z * a.sheet.now.measures.budgets) c.rows_of-rows.ensures) g c.mark_table.auto.work

pub loop-j-init : goal.loop-j-init
loop-j-init c =
    let a = c.args in
    let e = ap (λ (z : ℕ). z * a.sheet.now.measures.budgets) c.rows_of-rows.ensures in
    let z = c.zero_level.ensures in
    (e, refl, done-last a.sheet.now.of_sheet c.mark_table.new.work c.zero_level.new.work _ e c.mark_table.ensures.0 z.0 z.1)

pub fill_site-requires : goal.fill_site-requires
fill_site-requires c =
    let p = c.requires in
    let l = c.loop-j in (
      rw (l.invariant.1 ∙ c.zero_level.auto.work ∙ c.mark_table.auto.work) p,
      (l.invariant.0, omega (arith, c.loop-j-test.true, l.auto.j)),
    )

pub loop-j-preserved : goal.loop-j-preserved
loop-j-preserved c =
    let l = c.loop-j in
    let a = c.args in
    let f = c.fill_site in (
      l.invariant.0,
      f.auto.work ∙ l.invariant.1,
      done_more a.sheet.now.of_sheet _ l.work f.new.work _ l.j _ l.invariant.0 (omega (arith, c.loop-j-test.true)) l.auto.j f.auto.work f.ensures.0 f.ensures.1 l.invariant.2,
    )

pub shape_of-work : goal.shape_of-work
shape_of-work c = c.loop-j.invariant.1 ∙ c.zero_level.auto.work ∙ c.mark_table.auto.work

pub returns : goal.returns
returns c =
    let p = c.requires in
    let a = c.args in
    let l = c.loop-j in
    let z : l.j ≡ 0 = omega (arith, c.loop-j-test.false) in
    let m = c.mark_table in
    let o = c.zero_level in
    done_all a.sheet.now.of_sheet a.work.now m.new.work o.new.work l.work _ l.invariant.0 (o.auto.work ∙ m.auto.work) m.ensures.1 o.ensures.0 (rw z at l.invariant.2)
