use mathlib.Core.Path.{◌≡◌, ◌∙◌}
use Prim.Native.Nat.{◌+◌, ◌*◌, ◌<◌}
use native.Mathlib.Omega.{arith}
use lib.ListN.{length-set}
use lib.Seq.{get_or-set_same, get_or-set_other}
use Rattle.lists.proofs.Tests.{by_order}
use Rattle.sheet.specs.Limits.{most_budgets}
use Rattle.rows.proofs.Lists.{listed_same}
use Rattle.rows.proofs.budgets.list_splits.Goals as goal

pub loop-v-preserved : goal.loop-v-preserved
loop-v-preserved c =
    let l = c.loop-v in
    let v = l.v in
    let old = l.invariant in
    let others = c.list_below.ensures.others in
    let room : v < most_budgets = omega (arith, c.requires.0) in (
      c.list_below.auto.parts ∙ old.0,
      simp length-set old.1,
      λ x h. by_order v x
          (λ k. let e : x ≡ v = omega arith in rw (e, get_or-set_same l.counts v c.list_below.result 0 (omega (arith, old.1))) c.list_below.ensures.listed)
          (λ k.
          rw (get_or-set_other l.counts v x c.list_below.result 0 (λ e. omega arith))
          (listed_same _ x (x + 1) _ _ _ (λ i b. let few = (old.2 x k).few in others.before (x * most_budgets + i) (omega arith)) (old.2 x k))),
      λ x h. get_or-set_other l.counts v x c.list_below.result 0 (λ e. omega arith) ∙ old.3 x (omega arith),
    )
