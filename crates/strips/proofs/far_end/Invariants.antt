use Rattle.optimum.specs.Slots.{far_from}
use Rattle.arrays.specs.Arrays.{slots_by}
use mathlib.Core.Path.{◌≡◌}
use mathlib.Core.Bool.{false}
use Prim.Native.Nat.{ℕ, ◌+◌, ◌<◌, ◌≤◌}
use Rattle.strips.proofs.far_end.Given as goal

abbrev pub invariant-loop-k : goal.invariant-loop-k
invariant-loop-k l = (0 < l.k → l.k < l.p.b) × ((j : ℕ) → l.k ≤ j → j + 1 < l.p.b → far_from (slots_by l.sheet.measures l.sheet.heights.now) l.p.b l.p.cb j l.c ≡ false)
