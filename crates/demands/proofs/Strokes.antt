-- What is promised of the strokes, an end in itself; and of one call, for the contract of crate cabi. Assumes nothing.
use mathlib.Core.Path.{◌≡◌, ap, subst⁻¹, ◌∙◌}
use mathlib.Core.List.{List}
use Prim.Native.Nat.{ℕ, ◌<◌}
use native.Mathlib.Omega.{arith}
use lib.ListN.{length, get_or}
use Rattle.labelling.specs.Layout.{judge_fault, stored_fault}
use Rattle.labelling.specs.Strokes.{strokes_in, no_stroke, stroke_fault}
use Rattle.labelling.proofs.Stored.{stored-judge, stored-unlawful, stored-none, lawful-judged, unlawful-judged}
use Rattle.labelling.proofs.Strokes.{stroke-stored, stroke-past, stroke-none, strokes-add-up}
use Rattle.points.specs.declared.flat.FlatStroke.{FlatStroke}
use Rattle.points.specs.Strokes.{flat_refusal, IsStroke}
use Rattle.points.proofs.Exact.{points-exact}
use Rattle.strokes.proofs.Drawn.{flat-refused, flat-given, flat-exact}
use Rattle.demands.specs.Demands.{WasDrawn, ServedByStrokes, StrokesPromised}

-- ONE CALL
module _ (ws : List ℕ) (i : ℕ) (r : FlatStroke) (ws' : List ℕ) (m : WasDrawn ws i r ws') where
  refused : (f : ℕ) → stroke_fault ws i ≡ f → 0 < f → r ≡ flat_refusal f
  refused f e l = m.0 ∙ flat-refused ws i (λ z. omega arith) ∙ ap flat_refusal e

  -- a refusal of the stored sheet
  of-stored : (f : ℕ) → stored_fault ws ≡ f → 0 < f → r ≡ flat_refusal f
  of-stored f e l = refused f (stroke-stored ws i (λ z. omega arith) ∙ e) l

  given : stored_fault ws ≡ 0 → i < length (strokes_in ws) → (r.refusal ≡ 0) × IsStroke r (get_or (strokes_in ws) i no_stroke)
  given z h =
      let f : stroke_fault ws i ≡ 0 = stroke-none ws i z h in
      (ap (λ (v : FlatStroke). v.refusal) m.0 ∙ flat-given ws i f, subst⁻¹ (λ (v : FlatStroke). IsStroke v (get_or (strokes_in ws) i no_stroke)) m.0 (flat-exact ws i f))

pub served-by-strokes : (ws : List ℕ) (i : ℕ) (r : FlatStroke) (ws' : List ℕ) → WasDrawn ws i r ws' → ServedByStrokes ws i r ws'
served-by-strokes ws i r ws' m =
    record {
      judge = λ l. of-stored ws i r ws' m (judge_fault ws) (stored-judge ws (λ e. omega arith)) l;
      unlawful = λ h n. of-stored ws i r ws' m 13 (stored-unlawful ws h (unlawful-judged ws h n)) (omega arith);
      past = λ h a l. refused ws i r ws' m 14 (stroke-past ws i (stored-none ws h (lawful-judged ws h a)) l) (omega arith);
      given = λ h a l. given ws i r ws' m (stored-none ws h (lawful-judged ws h a)) l;
      unchanged = m.1;
    }

pub strokes-promised : StrokesPromised
strokes-promised = record { served = served-by-strokes; add-up = strokes-add-up; exact = points-exact }
