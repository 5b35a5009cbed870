use mathlib.Core.Path.{◌≡◌}
use mathlib.Core.Bool.{false}
use Prim.Native.Nat.{ℕ, ◌<◌}
use Rattle.arrays.specs.Ranked.{given_of}
use Rattle.rows.specs.Rows.{strip_of, point_of}
use Rattle.choice.specs.Choice.{keeps_cost}
use Rattle.choice.proofs.choose_slot.Given as goal

abbrev pub invariant-loop-k : goal.invariant-loop-k
invariant-loop-k l = (l.labels ≡ l.initial.labels) × (l.marks ≡ l.initial.marks) × ((k : ℕ) → k < l.k → keeps_cost (given_of l.sheet) l.work l.base (strip_of l.p) (point_of l.s) l.initial.labels l.initial.marks l.left.budget l.left.cost k ≡ false)
