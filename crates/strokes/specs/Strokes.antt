-- What is given of the stroke of a place: document 02, "Strokes for the viewer". Assumes nothing: these are definitions.
use Rattle.std.specs.Prelude.{cond, List, ℕ, ltb, eqb, length, get_or, Result, Ok, Err}
use Rattle.sheet.specs.Sheet.{Sheet}
use Rattle.labelling.specs.Strokes.{strokes_of, strokes_in, no_stroke, stroke_fault}
use Rattle.points.specs.declared.stroke.Stroke.{Stroke}
use Rattle.points.specs.Strokes.{drawn}

-- of ties on a sheet
abbrev pub stroke_on : Sheet → (ties : List ℕ) → (place : ℕ) → Result Stroke ℕ
stroke_on s js i = cond (ltb i (length (strokes_of s js))) (Ok (drawn (get_or (strokes_of s js) i no_stroke))) (Err 14)

-- OF A STORED SHEET: the stroke, or the refusal's number
abbrev pub stroke_post : (stored : List ℕ) → (place : ℕ) → Result Stroke ℕ
stroke_post ws i = cond (eqb (stroke_fault ws i) 0) (Ok (drawn (get_or (strokes_in ws) i no_stroke))) (Err (stroke_fault ws i))
