-- There is a mark. Assumes nothing.
use Prim.Native.Nat.{◌<◌}
use native.Mathlib.Omega.{arith}
use Rattle.optimum.specs.OneSided.{mark_count}

pub some-mark : 0 < mark_count
unfolding mark_count
some-mark = omega arith
