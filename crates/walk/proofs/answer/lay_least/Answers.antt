use mathlib.Core.Path.{sym, ◌∙◌}
use Prim.Native.Nat.{◌+◌, ◌<◌}
use native.Mathlib.Omega.{arith}
use lib.ListN.{length}
use Rattle.sheet.specs.Limits.{most_slots}
use Rattle.optimum.specs.OneSided.{top_word}
use Rattle.walk.proofs.answer.Finished.{zeros-part, first-level, least-is, none-laid, one-laid, starts, ties}
use Rattle.walk.proofs.Tying.{walk-in}
use borrow.Author.Tests.{eqb-true, eqb-false}
use Rattle.walk.proofs.answer.lay_least.Goals as goal

pub rest_of-least-requires : goal.rest_of-least-requires
rest_of-least-requires c =
    let g = c.args.sheet.now in
    let f = c.requires in
    let z = zeros-part _ most_slots g.of_sheet.few_slots in
    let y = zeros-part (length g.heights.now + 1) (most_slots + 1) (omega (arith, g.of_sheet.few_slots)) in
    let a = walk-in g f.whole in
    record { level_in = rw g.all_listed (first-level _ _ a f z y); v_lt_budgets = omega (arith, g.of_sheet.some_budget, g.all_listed) }

pub returns-then-is_none : goal.returns-then-is_none
returns-then-is_none c =
    let g = c.args.sheet.now in
    let f = c.requires in
    let z = zeros-part _ most_slots g.of_sheet.few_slots in
    let y = zeros-part (length g.heights.now + 1) (most_slots + 1) (omega (arith, g.of_sheet.few_slots)) in
    let a = walk-in g f.whole in
    let facts = none-laid _ _ a f z y _ ((rw g.all_listed at c.rest_of-least.ensures) ∙ least-is _ _ a f z y) (eqb-true _ _ (sym c.is_none.ensures ∙ c.if-is_none.true)) in
    record { value = facts.0; out_after = facts.1 }

pub walk-requires : goal.walk-requires
walk-requires c =
    let g = c.args.sheet.now in
    let f = c.requires in
    let z = zeros-part _ most_slots g.of_sheet.few_slots in
    let y = zeros-part (length g.heights.now + 1) (most_slots + 1) (omega (arith, g.of_sheet.few_slots)) in
    let a = walk-in g f.whole in (
      f.whole,
      starts _ _ a f z y _ _ ((rw g.all_listed at c.rest_of-least.ensures) ∙ least-is _ _ a f z y)
          (omega (arith, eqb-false c.rest_of-least.result top_word (sym c.is_none.ensures ∙ c.if-is_none.false), c.rest_of-least.type_inv)),
    )

pub returns : goal.returns
returns c =
    let g = c.args.sheet.now in
    let f = c.requires in
    let z = zeros-part _ most_slots g.of_sheet.few_slots in
    let y = zeros-part (length g.heights.now + 1) (most_slots + 1) (omega (arith, g.of_sheet.few_slots)) in
    let a = walk-in g f.whole in
    let e = (rw g.all_listed at c.rest_of-least.ensures) ∙ least-is _ _ a f z y in
    let l : c.rest_of-least.result < top_word = omega (arith, eqb-false c.rest_of-least.result top_word (sym c.is_none.ensures ∙ c.if-is_none.false), c.rest_of-least.type_inv) in
    let n = one-laid _ _ a f z y _ e l in
    record { value = n.0; out_after = c.walk.ensures ∙ rw c.first_word.ensures (ties _ _ a f z y _ e l) ∙ n.1 }
