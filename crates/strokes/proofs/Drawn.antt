-- What is given with a refusal and without, also as C has it. Assumes nothing.
use mathlib.Core.Path.{◌≡◌, refl, sym, ◌∙◌, ap}
use mathlib.Core.List.{List}
use Prim.Native.Nat.{ℕ, ◌<◌, ◌≤◌}
use native.Mathlib.Omega.{arith}
use lib.ListN.{length, get_or}
use borrow.Author.Tests.{eq-eqb, ne_eqb, lt-ltb, le-ltb}
use Rattle.lists.proofs.Tests.{by_order}
use Rattle.sheet.specs.Sheet.{Sheet, sheet_in}
use Rattle.labelling.specs.Layout.{layout_ties, sheet_part, layout_part, stored_fault}
use Rattle.labelling.specs.Strokes.{strokes_of, strokes_in, no_stroke, stroke_fault}
use Rattle.labelling.proofs.Strokes.{stroke-stored, stroke-past, stroke-none}
use Rattle.std.specs.Prelude.{Result, Ok, Err}
use Rattle.faults.specs.declared.refusal.Refusal.{Refusal}
use Rattle.faults.specs.Refusals.{number_of}
use Rattle.faults.proofs.Refusals.{number-above}
use Rattle.points.specs.declared.stroke.Stroke.{Stroke}
use Rattle.points.specs.Strokes.{drawn, flat_refusal, flat_of, IsStroke}
use Rattle.points.proofs.Strokes.{exact, unrefused}
use Rattle.strokes.specs.Strokes.{stroke_on, stroke_post}

-- a refusal by its number
abbrev refused : ℕ → Result Stroke ℕ
refused f = Err f

-- of ties on a sheet
module _ (s : Sheet) (js : List ℕ) (i : ℕ) where
  pub on-past : length (strokes_of s js) ≤ i → stroke_on s js i ≡ Err 14
  on-past h = rw (le-ltb i (length (strokes_of s js)) h) refl

  pub on-given : i < length (strokes_of s js) → stroke_on s js i ≡ Ok (drawn (get_or (strokes_of s js) i no_stroke))
  on-given h = rw (lt-ltb i (length (strokes_of s js)) h) refl

module _ (ws : List ℕ) (i : ℕ) where
  -- A REFUSAL
  pub post-refused : (stroke_fault ws i ≡ 0 → ⊥) → Err (stroke_fault ws i) ≡ stroke_post ws i
  post-refused n = rw (ne_eqb (stroke_fault ws i) 0 n) refl

  pub post-stored : (r : Refusal) → number_of r ≡ stored_fault ws → Err (number_of r) ≡ stroke_post ws i
  post-stored r e =
      let k : stored_fault ws ≡ 0 → ⊥ = λ z. omega (arith, number-above r, e, z) in
      ap refused (e ∙ sym (stroke-stored ws i k)) ∙ post-refused (λ z. k (sym (stroke-stored ws i k) ∙ z))

  -- A STROKE
  pub post-drawn : stroke_fault ws i ≡ 0 → Ok (drawn (get_or (strokes_in ws) i no_stroke)) ≡ stroke_post ws i
  post-drawn z = rw (eq-eqb (stroke_fault ws i) 0 z) refl

  -- of a stored sheet of which nothing is refused
  pub post-on : stored_fault ws ≡ 0 → stroke_on (sheet_in (sheet_part ws)) (layout_ties (layout_part ws)) i ≡ stroke_post ws i
  post-on z =
      let s : Sheet = sheet_in (sheet_part ws) in
      let js : List ℕ = layout_ties (layout_part ws) in
      by_order (length (strokes_in ws)) i
      (λ h. on-past s js i h ∙ ap refused (sym (stroke-past ws i z h)) ∙ post-refused (λ q. omega (arith, stroke-past ws i z h)))
      (λ h. on-given s js i h ∙ post-drawn (stroke-none ws i z h))

-- THE FLAT answer, by its causes
module _ (ws : List ℕ) (i : ℕ) where
  pub flat-refused : (stroke_fault ws i ≡ 0 → ⊥) → flat_of (stroke_post ws i) ≡ flat_refusal (stroke_fault ws i)
  flat-refused n = ap flat_of (sym (post-refused ws i n))

  pub flat-given : stroke_fault ws i ≡ 0 → (flat_of (stroke_post ws i)).refusal ≡ 0
  flat-given z = rw (← post-drawn ws i z) (unrefused (get_or (strokes_in ws) i no_stroke))

  pub flat-exact : stroke_fault ws i ≡ 0 → IsStroke (flat_of (stroke_post ws i)) (get_or (strokes_in ws) i no_stroke)
  flat-exact z = rw (← post-drawn ws i z) (exact (get_or (strokes_in ws) i no_stroke))
