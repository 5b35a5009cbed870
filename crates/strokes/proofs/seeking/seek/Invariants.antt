use mathlib.Core.Bool.{Bool}
use mathlib.Core.Path.{◌≡◌}
use Prim.Native.Nat.{ℕ, ◌-◌, ◌<◌}
use Rattle.strokes.specs.Seeking.{sought_in}
use Rattle.strokes.proofs.seeking.seek.Given as goal

abbrev pub invariant-loop-i : goal.invariant-loop-i
invariant-loop-i g l =
    (t : ℕ → Bool) → ((k : ℕ) (b : Bool) → k < l.count → goal.F-post g l.is_listed k b → b ≡ t k) → sought_in t l.i (l.count - l.i) l.left ≡ sought_in t 0 l.count l.place
