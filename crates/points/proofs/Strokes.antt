-- The floats of a stroke are exact, and a stroke is no refusal. Assumes nothing.
use mathlib.Core.Path.{◌≡◌, refl}
use Rattle.std.specs.Prelude.{Ok}
use Rattle.labelling.specs.Strokes as units
use Rattle.points.specs.Strokes.{drawn, flat_of, IsStroke}
use Rattle.points.proofs.Exact.{in-points-exact}

pub exact : (t : units.Stroke) → IsStroke (flat_of (Ok (drawn t))) t
exact (units.Bone a b) = (
  refl,
  record { across = in-points-exact a.x; up = in-points-exact a.y },
  record { across = in-points-exact b.x; up = in-points-exact b.y },
)
exact (units.Drop a b) = (
  refl,
  record { across = in-points-exact a.x; up = in-points-exact a.y },
  record { across = in-points-exact b.x; up = in-points-exact b.y },
)

pub unrefused : (t : units.Stroke) → (flat_of (Ok (drawn t))).refusal ≡ 0
unrefused (units.Bone a b) = refl
unrefused (units.Drop a b) = refl
