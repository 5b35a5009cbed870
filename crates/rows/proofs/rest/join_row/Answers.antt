use Rattle.rows.proofs.Folding.{joined-more, joined-all}
use mathlib.Core.Path.{◌≡◌}
use native.Mathlib.Omega.{arith}
use Rattle.rows.proofs.rest.join_row.Goals as goal

pub loop-v-preserved : goal.loop-v-preserved
loop-v-preserved c =
    let l = c.loop-v in
    joined-more l.invariant (omega arith) c.args.splits.within c.requires.0 c.least_split.ensures

pub returns : goal.returns
returns c =
    let l = c.loop-v in
    let e : l.v ≡ 0 = omega arith in
    joined-all (rw e at l.invariant)
