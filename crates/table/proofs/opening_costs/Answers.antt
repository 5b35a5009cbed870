use mathlib.Core.Path.{◌≡◌, refl}
use Prim.Native.Nat.{ℕ}
use native.Mathlib.Omega.{arith}
use lib.ListN.{length, length-set}
use Rattle.strips.specs.Strips.{open_cost}
use Rattle.rows.specs.Rows.{point_of}
use Rattle.rows.proofs.Lists.{entries-more}
use Rattle.table.proofs.opening_costs.Goals as goal

pub loop-k-init : goal.loop-k-init
loop-k-init c = (refl, λ x h. absurd (omega arith))

pub open_cost-requires : goal.open_cost-requires
open_cost-requires c =
    let o = c.args.sheet.now.of_sheet in (c.requires, omega (arith, c.loop-k-test.true, o.few_slots))

pub bounds-out-k : goal.bounds-out-k
bounds-out-k c = omega (arith, c.loop-k-test.true, c.args.sheet.now.of_sheet.few_slots)

pub loop-k-preserved : goal.loop-k-preserved
loop-k-preserved c =
    let l = c.loop-k in
    let a = c.args in (
      simp length-set l.invariant.0,
      entries-more (λ (x n : ℕ). n ≡ open_cost a.sheet.now.measures a.sheet.now.heights.now (point_of a.s) x) l.out l.k c.open_cost.result (omega (arith, l.invariant.0, c.loop-k-test.true, c.args.sheet.now.of_sheet.few_slots)) l.invariant.1 c.open_cost.ensures,
    )

pub returns : goal.returns
returns c =
    let l = c.loop-k in
    let e : l.k ≡ length c.args.sheet.now.heights.now = omega (arith, c.loop-k-test.false, l.auto.k-end) in
    record { long = omega (arith, l.invariant.0, c.args.sheet.now.of_sheet.few_slots); costs = rw e at l.invariant.1 }
