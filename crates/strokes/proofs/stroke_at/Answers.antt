use mathlib.Core.Path.{ap₂, sym, ◌∙◌}
use mathlib.Core.List.{List}
use Prim.Native.Nat.{ℕ}
use Rattle.std.proofs.Common.{rules}
use Rattle.sheet.specs.Sheet.{Sheet}
use Rattle.labelling.specs.Layout.{layout_ties}
use Rattle.judge.proofs.Found.{sheet-found}
use Rattle.strokes.specs.Strokes.{stroke_on}
use Rattle.strokes.proofs.Drawn.{post-stored, post-on}
use Rattle.strokes.proofs.stroke_at.Goals as goal

pub returns-in-Err : goal.returns-in-Err
returns-in-Err c = search (rules, post-stored)

pub returns-in-Ok : goal.returns-in-Ok
returns-in-Ok c =
    let ws = c.args.stored.now in
    let i = c.args.place in
    let o = c.in-Ok.opened in
    let e = c.in-Ok.ensures in
    c.stroke_on.ensures ∙ ap₂ (λ (s : Sheet) (l : List ℕ). stroke_on s (layout_ties l) i) (sheet-found o.sheet.now ws o.read e.parts.0) e.parts.1 ∙ post-on ws i (sym e.refusal)
