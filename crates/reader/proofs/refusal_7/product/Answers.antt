-- `refusal_7::product` meets its contract.
use mathlib.Core.Path.{◌≡◌, ◌∙◌}
use Prim.Native.Nat.{◌+◌, ◌*◌}
use native.Mathlib.Nat.{mul-one, le-mul_of_pos_right}
use native.Mathlib.Omega.{arith}
use lib.ListN.{drop_of_length-le, drop}
use borrow.Author.Tests.{lt-ltb, le-ltb}
use Rattle.sheet.specs.Limits.{most_budgets}
use Rattle.sheet.specs.Sheet.{colours_in, product_of}
use Rattle.reader.proofs.refusal_7.Factors.{product-next, product-pos}
use Rattle.reader.proofs.refusal_7.product.Goals as goal

pub returns-then-p-gt-MOST_BUDGETS : goal.returns-then-p-gt-MOST_BUDGETS
returns-then-p-gt-MOST_BUDGETS c = let s = c.args.body.now in
    let l = c.loop-w in
    let q = product_of (colours_in s) in
    let next = product-next s l.w-index l.p c.factor-p.result q c.loop-w-test.true l.invariant.1 c.factor-p.ensures in
    let more = le-mul_of_pos_right (l.p * c.factor-p.result) (product-pos (colours_in (drop (l.w-index + 1) s))) in
    rw (lt-ltb most_budgets q (omega (arith, next, more, c.if-p-gt-MOST_BUDGETS.true)))

pub loop-w-preserved : goal.loop-w-preserved
loop-w-preserved c = let s = c.args.body.now in
    let l = c.loop-w in
    (c.if-p-gt-MOST_BUDGETS.false, product-next s l.w-index l.p c.factor-p.result _ c.loop-w-test.true l.invariant.1 c.factor-p.ensures)

pub returns : goal.returns
unfolding product_of colours_in
returns c = let s = c.args.body.now in
    let l = c.loop-w in
    let same : product_of (colours_in s) ≡ l.p = l.invariant.1 ∙ rw (drop_of_length-le s c.loop-w-test.false) (mul-one l.p) in
    rw (same, le-ltb most_budgets l.p l.invariant.0)
