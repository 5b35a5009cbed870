-- The stroke of a place, from what was sought among backbones and then among drops. Assumes nothing.
use mathlib.Core.Path.{◌≡◌, sym, ◌∙◌, ap, subst}
use mathlib.Core.List.{List}
use Prim.Native.Nat.{ℕ, ◌+◌, ◌<◌}
use native.Mathlib.Omega.{arith}
use lib.ListN.{length, get_or, length-append, get_or-append}
use lib.Seq.{get_or-append-add}
use Rattle.std.specs.Prelude.{Result, Ok, Err}
use Rattle.sheet.specs.Sheet.{Sheet}
use Rattle.labelling.specs.Layout.{tie_at, is_used}
use Rattle.labelling.specs.Strokes.{bone_of, drop_of, is_off, bones_of, drops_of, strokes_of, no_stroke}
use Rattle.points.specs.declared.stroke.Stroke.{Stroke}
use Rattle.points.specs.Strokes.{drawn}
use Rattle.strokes.specs.Seeking.{bone_sought, drop_sought}
use Rattle.strokes.specs.Strokes.{stroke_on}
use Rattle.strokes.proofs.Drawn.{on-past, on-given}
use Rattle.strokes.proofs.Sought.{Placed, placed}

-- a stroke as it is given
abbrev given : Stroke → Result Stroke ℕ
given t = Ok t

module _ (s : Sheet) (js : List ℕ) (p : ℕ) where
  long : length (strokes_of s js) ≡ length (bones_of s js) + length (drops_of s js)
  long = length-append (bones_of s js) (drops_of s js)

  -- what was sought among backbones
  bone : {r : Result ℕ ℕ} → r ≡ bone_sought s js p → Placed (bones_of s js) (bone_of s js) (0 + length s.slots) p r
  bone q = subst (Placed (bones_of s js) (bone_of s js) (0 + length s.slots) p) (sym q) (placed (λ k. is_used k js) (bone_of s js) 0 (length s.slots) p)

  module _ {k : ℕ} (q : Ok k ≡ bone_sought s js p) where
    pub bone-found : {t : Stroke} → t ≡ drawn (bone_of s js k) → Ok t ≡ stroke_on s js p
    bone-found e =
        let b = bone q in
        ap given (e ∙ ap drawn (sym b.1 ∙ sym (get_or-append (bones_of s js) (drops_of s js) no_stroke p b.0))) ∙ sym (on-given s js p (omega (arith, long, b.0)))

    pub bone-low : k < length s.slots
    bone-low = omega (arith, (bone q).2)

  -- and at what is left of the place among drops
  module _ {left : ℕ} (q : Err left ≡ bone_sought s js p) where
    drop : {r : Result ℕ ℕ} → r ≡ drop_sought s js left → Placed (drops_of s js) (λ i. drop_of s (tie_at s js i)) (0 + length s.sites) left r
    drop h = subst (Placed (drops_of s js) (λ i. drop_of s (tie_at s js i)) (0 + length s.sites) left) (sym h) (placed (λ i. is_off s (tie_at s js i)) (λ i. drop_of s (tie_at s js i)) 0 (length s.sites) left)

    place_is : p ≡ length (bones_of s js) + left
    place_is = bone q

    module _ {i : ℕ} (h : Ok i ≡ drop_sought s js left) where
      pub drop-found : {t : Stroke} → t ≡ drawn (drop_of s (tie_at s js i)) → Ok t ≡ stroke_on s js p
      drop-found e =
          let c = drop h in
          ap given (e ∙ ap drawn (sym c.1 ∙ sym (get_or-append-add (bones_of s js) (drops_of s js) left no_stroke) ∙ ap (λ (n : ℕ). get_or (strokes_of s js) n no_stroke) (sym place_is))) ∙
          sym (on-given s js p (omega (arith, long, place_is, c.0)))

      pub drop-low : i < length s.sites
      drop-low = omega (arith, (drop h).2)

    -- neither
    pub none_found : {n : ℕ} → Err n ≡ drop_sought s js left → Err 14 ≡ stroke_on s js p
    none_found h = sym (on-past s js p (omega (arith, long, place_is, drop h)))
