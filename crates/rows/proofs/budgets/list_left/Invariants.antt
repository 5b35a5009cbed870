use Rattle.rows.specs.Budgets.{left_by}
use Rattle.sheet.specs.Limits.{most_budgets}
use mathlib.Core.Path.{◌≡◌}
use Prim.Native.Nat.{ℕ, ◌<◌}
use lib.ListN.{length, get_or}
use Rattle.rows.proofs.budgets.list_left.Given as goal

abbrev pub invariant-loop-v : goal.invariant-loop-v
invariant-loop-v l = (length l.left ≡ most_budgets) × ((x : ℕ) → x < l.v → get_or l.left x 0 ≡ left_by l.sheet.radices.list.now l.draw x)
