use Rattle.search.specs.Masks.{mask_from}
use Rattle.search.specs.Radix.{below}
use Rattle.rows.specs.Budgets.{Listed, Others, splits_length}
use Rattle.sheet.specs.Limits.{most_budgets}
use mathlib.Core.Path.{◌≡◌}
use Prim.Native.Nat.{◌+◌, ◌*◌}
use lib.ListN.{length, get_or}
use Rattle.rows.proofs.budgets.list_below.Given as goal

abbrev pub invariant-loop-w : goal.invariant-loop-w
invariant-loop-w l = (length l.parts ≡ splits_length) × (l.mask ≡ mask_from (λ u. below l.radices.list.now u l.v) (l.v + 1) l.w) × Listed l.radices.list.now l.v l.w l.count (λ i. get_or l.parts (l.v * most_budgets + i) 0) × Others l.initial.parts l.parts (l.v * most_budgets) most_budgets
