use Rattle.arrays.specs.Budgets.{Listed, part_at, splits_length}
use Rattle.sheet.specs.Limits.{most_budgets}
use mathlib.Core.Path.{◌≡◌}
use Prim.Native.Nat.{ℕ, ◌+◌, ◌<◌, ◌≤◌}
use lib.ListN.{length, get_or}
use Rattle.rows.proofs.budgets.list_splits.Given as goal

abbrev pub invariant-loop-v : goal.invariant-loop-v
invariant-loop-v l = (length l.parts ≡ splits_length) × (length l.counts ≡ most_budgets) × ((x : ℕ) → x < l.v → Listed l.radices.list.now x (x + 1) (get_or l.counts x 0) (part_at l.parts x)) × ((x : ℕ) → l.v ≤ x → get_or l.counts x 0 ≡ get_or l.initial.counts x 0)
