use mathlib.Core.Path.{◌≡◌, ap₂, sym, ◌∙◌}
use native.Mathlib.Omega.{arith}
use lib.Bits.{bit_or}
use Rattle.arrays.proofs.Barred.{barred-none, barred-past, barred-more}
use Rattle.tips.proofs.barred_of.Goals as goal
use Rattle.tips.proofs.barred_of.Goals.{then-is_counted, else-is_counted}

pub loop-i-init : goal.loop-i-init
loop-i-init c = barred-none _ _ _ _ _

pub loop-i-preserved : goal.loop-i-preserved
loop-i-preserved c = let a = c.args.sheet.now in
    let l = c.loop-i in
    let n = c.is_counted.ensures in
    elim c.if-is_counted.branch [
      | then-is_counted w ↦ w.barred-is ∙ ap₂ bit_or l.invariant w.near_slots-barred.ensures ∙ barred-more a.measures.head.gap a.heights.now a.xs.now a.ys.now c.args.j l.i (sym n ∙ w.if-is_counted.true)
      | else-is_counted w ↦ w.barred-is ∙ l.invariant ∙ barred-past a.measures.head.gap a.heights.now a.xs.now a.ys.now c.args.j l.i (sym n ∙ w.if-is_counted.false)
    ]

pub returns : goal.returns
returns c = let l = c.loop-i in
    let e : l.i ≡ c.args.j = omega arith in
    rw e at l.invariant
