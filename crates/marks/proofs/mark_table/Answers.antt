use Rattle.arrays.specs.Arrays.{points_by}
use Rattle.strips.specs.Strips.{instance_on}
use Rattle.optimum.proofs.Marks.{some-mark}
use Rattle.rows.proofs.Levels.{level-small, first-within, past-level, few}
use Rattle.marks.proofs.Reach.{reach-first, reach-more, whole-marked, to_level}
use mathlib.Core.Path.{◌≡◌, refl, ap, ◌∙◌}
use Prim.Native.Nat.{ℕ, ◌*◌}
use native.Mathlib.Omega.{arith}
use lib.ListN.{length}
use Rattle.marks.proofs.mark_table.Goals as goal

pub overflow_mul-size : goal.overflow_mul-size
overflow_mul-size c =
    let p = c.requires in
    let a = c.args in
    omega (arith, level-small c.args.sheet.now.of_sheet, ap (λ (z : ℕ). z * a.sheet.now.measures.budgets) p.1)

pub clear_marks-requires : goal.clear_marks-requires
clear_marks-requires c =
    let p = c.requires in
    let a = c.args in
    let e = ap (λ (z : ℕ). z * a.sheet.now.measures.budgets) p.1 in
    record { few_levels = (few _ a.sheet.now.of_sheet.few_sites, rw e p.0); level_words = e }

pub mark_own-requires : goal.mark_own-requires
mark_own-requires c =
    let p = c.requires in (
      rw c.clear_marks.auto.work (first-within _ _ _ p.0),
      record { a_low = omega arith; ca_low = omega arith; b_low = omega arith; cb_low = omega arith; d_low = some-mark },
    )

pub loop-j-init : goal.loop-j-init
loop-j-init c =
    let a = c.args in
    let p = c.requires in
    let e = ap (λ (z : ℕ). z * a.sheet.now.measures.budgets) p.1 in
    (e, refl, reach-first a.sheet.now.of_sheet c.mark_own.new.work (a.rows * a.sheet.now.measures.budgets) (whole-marked a.sheet.now.measures a.sheet.now.heights.now a.sheet.now.bounds.now c.mark_own.new.work (c.mark_own.ensures.1 refl)), λ i h. refl)

pub mark_site-requires : goal.mark_site-requires
mark_site-requires c =
    let p = c.requires in
    let l = c.loop-j in
    (omega (arith, p.0, l.invariant.1 ∙ c.mark_own.auto.work ∙ c.clear_marks.auto.work), (l.invariant.0, c.loop-j-test.true))

pub loop-j-preserved : goal.loop-j-preserved
loop-j-preserved c =
    let a = c.args in
    let p = c.requires in
    let l = c.loop-j in
    let m = c.mark_site in (
      l.invariant.0,
      m.auto.work ∙ l.invariant.1,
      reach-more a.sheet.now.of_sheet l.work m.new.work _ l.j c.loop-j-test.true l.invariant.2 m.ensures.0 m.ensures.1,
      λ i h. m.ensures.0.others.after i (past-level l.j (length a.sheet.now.xs.now) _ i c.loop-j-test.true h) ∙ l.invariant.3 i h,
    )

pub shape_of-work : goal.shape_of-work
shape_of-work c = c.loop-j.invariant.1 ∙ c.mark_own.auto.work ∙ c.clear_marks.auto.work

pub returns : goal.returns
returns c =
    let a = c.args in
    let p = c.requires in
    let l = c.loop-j in
    let z : l.j ≡ length a.sheet.now.xs.now = omega (arith, c.loop-j-test.false, l.auto.j-end) in (
      to_level (instance_on a.sheet.now.measures a.sheet.now.heights.now a.sheet.now.bounds.now) a.sheet.now.measures (points_by a.sheet.now.measures a.sheet.now.heights.now a.sheet.now.xs.now a.sheet.now.ys.now a.sheet.now.colours.now) l.work _ _ l.j l.invariant.0 z l.invariant.2,
      λ i h.
          let e = ap (λ (z : ℕ). z * a.sheet.now.measures.budgets) p.1 in
          l.invariant.3 i (rw l.invariant.0 h) ∙ c.mark_own.ensures.0.others.after i (first-within _ _ _ h) ∙ c.clear_marks.ensures.kept i (rw e h),
    )
