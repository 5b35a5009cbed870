use mathlib.Core.Path.{◌≡◌}
use Prim.Native.Nat.{ℕ, ◌<◌}
use lib.ListN.{length, get_or}
use Rattle.sheet.specs.Limits.{most_slots}
use Rattle.strips.specs.Strips.{open_cost}
use Rattle.rows.specs.Rows.{point_of}
use Rattle.table.proofs.opening_costs.Given as goal

abbrev pub invariant-loop-k : goal.invariant-loop-k
invariant-loop-k l = (length l.out ≡ most_slots) × ((x : ℕ) → x < l.k → get_or l.out x 0 ≡ open_cost l.sheet.measures l.sheet.heights.now (point_of l.s) x)
