use mathlib.Core.Path.{refl, ap, ◌∙◌}
use Rattle.points.specs.Strokes.{flat_of}
use Rattle.demands.specs.Demands.{WasDrawn}
use Rattle.demands.proofs.Strokes.{served-by-strokes}
use Rattle.cabi.proofs.backbone_stroke_at.Goals as goal

pub returns : goal.returns
returns c = let a = c.args in
    let ws = a.stored.now in
    let m : WasDrawn ws a.place c.from.result ws = (c.from.ensures ∙ ap flat_of c.stroke_at.ensures, refl) in
    record { value = m.0; served_by_strokes = served-by-strokes ws a.place c.from.result ws m }
