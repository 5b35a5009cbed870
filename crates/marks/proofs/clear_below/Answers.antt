use Rattle.rows.proofs.Places.{row_fits}
use Rattle.marks.proofs.Cleared.{kept-none, kept_less, last-lies}
use Rattle.marks.proofs.Followed.{start-lies}
use native.Mathlib.Omega.{arith}
use Rattle.marks.proofs.clear_below.Goals as goal

pub returns-then-not-is_upper_end : goal.returns-then-not-is_upper_end
returns-then-not-is_upper_end c = kept-none _ _

pub overflow_add-first : goal.overflow_add-first
overflow_add-first c = omega (arith, c.args.sheet.now.of_sheet.few_slots, c.requires.1)

pub overflow_cast-last : goal.overflow_cast-last
overflow_cast-last c = omega (arith, c.args.sheet.now.of_sheet.few_slots)

pub overflow_add-last : goal.overflow_add-last
overflow_add-last c = omega (arith, c.args.sheet.now.of_sheet.few_slots)

pub row_place-requires : goal.row_place-requires
row_place-requires c =
    let p = c.requires in start-lies _ _ _ _ p.1 p.2

pub overflow_add-from : goal.overflow_add-from
overflow_add-from c =
    let p = c.requires in
    omega (arith, c.row_place.ensures, p.0, row_fits _ _ c.args.sheet.now.measures.budgets _ (start-lies _ _ _ _ p.1 p.2))

pub row_place-requires-2 : goal.row_place-requires-2
row_place-requires-2 c =
    let p = c.requires in last-lies _ _ _ _ p.1 p.2

pub overflow_add-to : goal.overflow_add-to
overflow_add-to c =
    let p = c.requires in
    omega (arith, c.row_place-2.ensures, p.0, row_fits _ _ c.args.sheet.now.measures.budgets _ (last-lies _ _ _ _ p.1 p.2))

pub overflow_add-to-2 : goal.overflow_add-to-2
overflow_add-to-2 c =
    let p = c.requires in
    omega (arith, c.row_place-2.ensures, p.0, row_fits _ _ c.args.sheet.now.measures.budgets _ (last-lies _ _ _ _ p.1 p.2))

pub clear_rows-requires : goal.clear_rows-requires
clear_rows-requires c =
    let p = c.requires in
    (omega (arith, c.row_place-2.ensures, p.0, row_fits _ _ c.args.sheet.now.measures.budgets _ (last-lies _ _ _ _ p.1 p.2)), c.args.sheet.now.of_sheet.some_budget, c.args.sheet.now.of_sheet.few_budgets)

pub returns : goal.returns
returns c =
    let p = c.requires in
    kept_less (omega (arith, c.row_place-2.ensures, row_fits _ _ c.args.sheet.now.measures.budgets _ (last-lies _ _ _ _ p.1 p.2))) c.clear_rows.ensures
