use Rattle.rows.specs.Rows.{strip_of, point_of}
use Rattle.rows.proofs.Places.{row_fits, upper-lies, lower-lies}
use native.Mathlib.Omega.{arith}
use Rattle.rows.proofs.part_places.Goals as goal

pub overflow_add-result : goal.overflow_add-result
overflow_add-result c =
    let a = c.args in
    let p = c.requires in
    let lies = upper-lies _ _ a.d (strip_of a.p) (point_of a.s) a.k p.lies.0 p.lies.1 p.lies.2 p.lies.3 in
    omega (arith, c.row_place.ensures, p.level_fits, row_fits _ _ a.sheet.now.measures.budgets _ lies)

pub overflow_add-result-2 : goal.overflow_add-result-2
overflow_add-result-2 c =
    let a = c.args in
    let p = c.requires in
    let lies = lower-lies _ _ (strip_of a.p) (point_of a.s) a.k p.lies.0 p.lies.1 p.lies.2 in
    omega (arith, c.row_place-2.ensures, p.level_fits, row_fits _ _ a.sheet.now.measures.budgets _ lies)

pub returns-clause-within : goal.returns-clause-within
returns-clause-within c =
    let a = c.args in
    let p = c.requires in
    let o = a.sheet.now.of_sheet in
    let upper = upper-lies _ _ a.d (strip_of a.p) (point_of a.s) a.k p.lies.0 p.lies.1 p.lies.2 p.lies.3 in
    let lower = lower-lies _ _ (strip_of a.p) (point_of a.s) a.k p.lies.0 p.lies.1 p.lies.2 in (
      omega (arith, c.row_place.ensures, o.some_budget, row_fits _ _ a.sheet.now.measures.budgets _ upper),
      omega (arith, c.row_place-2.ensures, o.some_budget, row_fits _ _ a.sheet.now.measures.budgets _ lower),
    )
