-- A stroke in points, as a viewer gets it: document 02, "Strokes for the viewer". Assumes nothing: these are definitions.
use Rattle.std.specs.Prelude.{◌≡◌, ℕ, Float, Result, Ok, Err}
use Rattle.labelling.specs.Strokes as units
use Rattle.points.specs.Points.{IsEighth, in_points}
use Rattle.points.specs.declared.stroke.End.{End}
use Rattle.points.specs.declared.stroke.Stroke.{Stroke}
use Rattle.points.specs.declared.stroke.Stroke.TheVariants.{Bone, Drop}
use Rattle.points.specs.declared.flat.FlatStroke.{FlatStroke}

-- IN POINTS: an end, a stroke
abbrev pub end_drawn : units.End → End
end_drawn e = record { x = in_points e.x; y = in_points e.y }

abbrev pub drawn : units.Stroke → Stroke
drawn (units.Bone a b) = Bone (end_drawn a) (end_drawn b)
drawn (units.Drop a b) = Drop (end_drawn a) (end_drawn b)

-- DOCUMENT 02's NUMBER AND VALUES of each case: the refusal or 0, the kind (0 a backbone, 1 a drop), the ends; zeros beside a refusal
abbrev pub flat_ends : (kind : ℕ) → (first second : End) → FlatStroke
flat_ends k a b = record { refusal = 0; kind = k; x0 = a.x; y0 = a.y; x1 = b.x; y1 = b.y }

abbrev pub flat_refusal : (refusal : ℕ) → FlatStroke
flat_refusal f = record { refusal = f; kind = 0; x0 = in_points 0; y0 = in_points 0; x1 = in_points 0; y1 = in_points 0 }

abbrev pub flat_of : Result Stroke ℕ → FlatStroke
flat_of (Ok (Bone a b)) = flat_ends 0 a b
flat_of (Ok (Drop a b)) = flat_ends 1 a b
flat_of (Err f) = flat_refusal f

-- EXACT: eight times each float is the whole number. A stroke in points is one in units, of the same kind, with the same ends
pub record IsEnd (x y : Float) (e : units.End) : Type 0 where
  pub across : IsEighth e.x x
  pub up : IsEighth e.y y

abbrev pub IsStroke : FlatStroke → units.Stroke → Type 0
IsStroke r t = (r.kind ≡ units.one_drop t) × IsEnd r.x0 r.y0 (units.first_end t) × IsEnd r.x1 r.y1 (units.second_end t)
