use native.Mathlib.Omega.{arith}
use Rattle.rows.proofs.Folding.{size}
use Rattle.rows.proofs.rest.level_size.Goals as goal

pub overflow_mul-result : goal.overflow_mul-result
overflow_mul-result c =
    let o = c.args.sheet.now.of_sheet in
    rw c.rows_of.ensures (omega (arith, size _ _ _ o.few_slots o.few_colours o.few_budgets))
