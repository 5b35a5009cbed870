use Rattle.marks.proofs.Cleared.{kept-none, kept_more}
use Rattle.rows.proofs.Levels.{row_within}
use mathlib.Core.Path.{refl, ◌∙◌}
use native.Mathlib.Omega.{arith}
use Rattle.marks.proofs.clear_marks.Goals as goal

pub loop-j-init : goal.loop-j-init
loop-j-init c = (refl, kept-none _ _)

pub overflow_mul-j : goal.overflow_mul-j
overflow_mul-j c =
    let a = c.args in
    let l = c.loop-j in
    omega (arith, row_within l.j a.levels a.size c.loop-j-test.true, c.requires.few_levels.1)

pub clear_level-requires : goal.clear_level-requires
clear_level-requires c =
    let a = c.args in
    let p = c.requires in
    let l = c.loop-j in
    omega (arith, row_within l.j a.levels a.size c.loop-j-test.true, p.few_levels.1, p.level_words, l.invariant.0)

pub loop-j-preserved : goal.loop-j-preserved
loop-j-preserved c =
    let a = c.args in
    let l = c.loop-j in
    let f = c.clear_level in (
      f.auto.work ∙ l.invariant.0,
      kept_more l.invariant.1 (omega (arith, row_within l.j a.levels a.size c.loop-j-test.true, c.requires.level_words)) f.ensures,
    )
