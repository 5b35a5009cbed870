-- A refusal's number is never 0, which stands for none. Assumes nothing.
use Prim.Native.Nat.{◌<◌}
use native.Mathlib.Omega.{arith}
use Rattle.faults.specs.declared.refusal.Refusal.{Refusal}
use Rattle.faults.specs.Refusals.{number_of}

pub number-above : (r : Refusal) → 0 < number_of r
number-above r = grind arith
