use Rattle.rows.specs.Rest.{rest_rows, fold_rows}
use Rattle.sheet.specs.Limits.{most_budgets}
use Rattle.rows.proofs.Folding.{start_is}
use mathlib.Core.Path.{ap, ◌∙◌}
use mathlib.Core.List.{List}
use Prim.Native.Nat.{ℕ}
use lib.ListN.{length, get_or}
use Rattle.rows.proofs.rest.rest_of.Goals as goal

pub returns : goal.returns
unfolding rest_rows
returns c =
    let a = c.args in
    let s = a.splits in
    let m = length a.labels.now in
    let fold = fold_rows s.parts.now s.counts.now a.work.now a.base m a.colours s.budgets m 0 0 0 a.labels.now a.marks.now in
    let start = start_is s.budgets most_budgets s.within.few in
    c.fold_rows.ensures ∙ ap (λ (l : List ℕ). get_or (fold l) a.v 0) start
