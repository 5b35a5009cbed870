-- The mark that a site leaves is one of the marks. Assumes nothing.
use mathlib.Core.List.{List}
use Prim.Native.Nat.{ℕ, ◌<◌}
use Rattle.optimum.specs.Strips.{Point}
use Rattle.optimum.specs.OneSided.{mark_count}
use Rattle.optimum.proofs.Marks.{some-mark}
use Rattle.arrays.specs.Arrays.{turn_by}

pub turn_low : (hs : List ℕ) (s : Point) (k : ℕ) → turn_by hs s k < mark_count
unfolding turn_by
turn_low hs s k = some-mark
