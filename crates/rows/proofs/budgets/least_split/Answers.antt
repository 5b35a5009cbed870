use Rattle.search.specs.Cost.{plus}
use Rattle.optimum.specs.OneSided.{top_word}
use Rattle.arrays.specs.Budgets.{part_at}
use Rattle.rows.proofs.Lists.{least_more, least-none}
use mathlib.Core.Path.{◌≡◌, refl, ◌∙◌}
use Prim.Native.Nat.{ℕ, ◌+◌, ◌-◌, ◌≤◌, min}
use native.Mathlib.Omega.{arith}
use lib.ListN.{get_or}
use Rattle.rows.proofs.budgets.least_split.Goals as goal

pub loop-w-init : goal.loop-w-init
loop-w-init c = (omega arith, least-none _)

pub loop-w-preserved : goal.loop-w-preserved
loop-w-preserved c =
    let a = c.args in
    let l = c.loop-w in
    let k = l.w-index in
    let listed = c.below-w-items.ensures in
    let w = λ (k : ℕ). part_at a.splits.parts.now a.u k in
    let here : get_or c.below-w-items.result.now k 0 ≡ w k = listed.listed k c.loop-w-test.true in
    let low : w k ≤ a.u = a.splits.within.small a.u k c.requires.0 (omega (arith, listed.counted, c.loop-w-test.true)) in
    let e : a.at + a.u - w k ≡ a.at + (a.u - w k) = omega arith in
    let share = λ (k : ℕ). plus top_word (get_or a.f.now (a.from + w k) 0) (get_or a.g.now (a.at + (a.u - w k)) 0) in
    let b : c.min-best.result ≡ min l.best (get_or a.f.now (a.from + w k) 0 + get_or a.g.now (a.at + (a.u - w k)) 0) =
    rw (c.from.ensures, c.from-in-loop-w.ensures, here, e) at c.min-best.ensures in
    (omega arith, b ∙ least_more share k l.best _ _ l.invariant.1 refl)
