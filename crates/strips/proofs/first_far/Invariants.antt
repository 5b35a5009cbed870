use Rattle.optimum.specs.Slots.{far_from}
use Rattle.arrays.specs.Arrays.{slots_by}
use mathlib.Core.Path.{◌≡◌}
use mathlib.Core.Bool.{false}
use Prim.Native.Nat.{ℕ, ◌<◌, ◌≤◌}
use Rattle.strips.proofs.first_far.Given as goal

abbrev pub invariant-loop-k : goal.invariant-loop-k
invariant-loop-k l = (l.p.a < l.k → l.k < l.p.b) × ((j : ℕ) → l.p.a ≤ j → j < l.k → far_from (slots_by l.sheet.measures l.sheet.heights.now) l.p.a l.p.ca j l.c ≡ false)
