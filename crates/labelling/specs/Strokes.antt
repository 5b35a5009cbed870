-- The strokes of a stored sheet: document 02, "Strokes for the viewer". The list of them in whole units, the refusals of who asks for one by its
-- place, and what is promised of the list; a proof of a promise's type is the theorem (proofs/Strokes). In points: crate strokes.
-- Assumes nothing: these are definitions, each for every list of words.
use Rattle.std.specs.Prelude.{◌≡◌, Bool, cond, List, [], ◌∷◌, ◌++◌, ℕ, zero, suc, ◌+◌, ◌*◌, ◌≤◌, ◌<◌, ltb, length, get_or}
use Rattle.sheet.specs.Refusals.{Refusal, unless, given}
use Rattle.sheet.specs.Sheet.{Sheet, sheet_in}
use Rattle.labelling.specs.Layout.{apart, off_by, Tied, tie_at, height_of, is_used, left_end, stated_count, stated_length, layout_ties, sheet_part, layout_part, stored_refusals, stored_fault}
use Rattle.labelling.specs.Counted.{sum_before}

-- STROKES
-- an end of a stroke, in units
pub record End : Type 0 where
  pub x : ℕ
  pub y : ℕ

abbrev pub end_at : (x y : ℕ) → End
end_at x y = record { x = x; y = y }

-- a stroke says which it is, a backbone or a drop; its first end, its second end
pub data Stroke : Type 0 where
  Bone : End → End → Stroke
  Drop : End → End → Stroke

abbrev pub first_end : Stroke → End
first_end (Bone a b) = a
first_end (Drop a b) = a

abbrev pub second_end : Stroke → End
second_end (Bone a b) = b
second_end (Drop a b) = b

-- a label's backbone: from its left end to W, at its slot's height
abbrev pub bone_of : Sheet → (ties : List ℕ) → (slot : ℕ) → Stroke
bone_of s js k = Bone (end_at (left_end s js k) (height_of s k)) (end_at s.width (height_of s k))

-- a site's drop: from the site to its backbone
abbrev pub drop_of : Sheet → Tied → Stroke
drop_of s t = Drop (end_at t.site.x t.site.y) (end_at t.site.x (height_of s t.slot))

-- a site is off its backbone: its drop isn't zero
abbrev pub is_off : Sheet → Tied → Bool
is_off s t = off_by (height_of s t.slot) t.site.y

-- THE LIST
-- of the numbers from one on, so many, each that passes a test: its stroke
unfoldable pub listed : (test : ℕ → Bool) → (stroke : ℕ → Stroke) → (from count : ℕ) → List Stroke
listed t f a zero = []
listed t f a (suc n) = cond (t a) (f a ∷ listed t f (suc a) n) (listed t f (suc a) n)

-- the backbones of the used slots, rising; the drops of the sites off their backbone, in sheet order
abbrev pub bones_of : Sheet → (ties : List ℕ) → List Stroke
bones_of s js = listed (λ k. is_used k js) (bone_of s js) 0 (length s.slots)

abbrev pub drops_of : Sheet → (ties : List ℕ) → List Stroke
drops_of s js = listed (λ i. is_off s (tie_at s js i)) (λ i. drop_of s (tie_at s js i)) 0 (length s.sites)

abbrev pub strokes_of : Sheet → (ties : List ℕ) → List Stroke
strokes_of s js = bones_of s js ++ drops_of s js

-- those of a stored sheet
abbrev pub strokes_in : (stored : List ℕ) → List Stroke
strokes_in ws = strokes_of (sheet_in (sheet_part ws)) (layout_ties (layout_part ws))

-- what stands where the list has no stroke: nobody is given it
abbrev pub no_stroke : Stroke
no_stroke = Bone (end_at 0 0) (end_at 0 0)

-- THE REFUSAL of who asks for the stroke of a place, from 0 on: 1 to 7, 11 and 13 of any stored sheet; then 14, the place is past the last
-- stroke; or 0
abbrev pub stroke_refusals : (stored : List ℕ) → (place : ℕ) → List Refusal
stroke_refusals ws i = stored_refusals ws ++ (unless (ltb i (length (strokes_in ws))) 14 ∷ [])

abbrev pub stroke_fault : (stored : List ℕ) → (place : ℕ) → ℕ
stroke_fault ws i = given (stroke_refusals ws i)

-- WHAT IS PROMISED
-- the sum of a number of each stroke
unfoldable pub sum_of : (number : Stroke → ℕ) → List Stroke → ℕ
sum_of f [] = 0
sum_of f (t ∷ ts) = f t + sum_of f ts

-- 1 for a backbone, 1 for a drop, a stroke's length: it runs along x or along y
abbrev pub one_bone : Stroke → ℕ
one_bone (Bone a b) = 1
one_bone (Drop a b) = 0

abbrev pub one_drop : Stroke → ℕ
one_drop (Bone a b) = 0
one_drop (Drop a b) = 1

abbrev pub units_of : Stroke → ℕ
units_of t = apart (first_end t).x (second_end t).x + apart (first_end t).y (second_end t).y

-- how many sites are off their backbone
abbrev pub sites_off : Sheet → (ties : List ℕ) → ℕ
sites_off s js = sum_before (λ i. cond (is_off s (tie_at s js i)) 1 0) (length s.sites)

-- neither end lies right of W (nor left of 0, where no number is)
abbrev pub EndsInside : (width : ℕ) → Stroke → Type 0
EndsInside w t = ((first_end t).x ≤ w) × ((second_end t).x ≤ w)

-- the charges of the sites off their backbone
abbrev pub charges_off : Sheet → (ties : List ℕ) → ℕ
charges_off s js = sites_off s js * s.charge

-- the list has as many backbones as the layout states labels, and as many drops as sites are off their backbone; the strokes' lengths and
-- the charges of these sites add up to the stated length; no stroke leaves the drawing
pub record StrokesTrue (ws : List ℕ) : Type 0 where
  pub bones : sum_of one_bone (strokes_in ws) ≡ stated_count (layout_part ws)
  pub drops : sum_of one_drop (strokes_in ws) ≡ sites_off (sheet_in (sheet_part ws)) (layout_ties (layout_part ws))
  pub lengths :
      sum_of units_of (strokes_in ws) + charges_off (sheet_in (sheet_part ws)) (layout_ties (layout_part ws)) ≡ stated_length (layout_part ws)
  pub inside : (i : ℕ) → i < length (strokes_in ws) → EndsInside (sheet_in (sheet_part ws)).width (get_or (strokes_in ws) i no_stroke)

-- of every stored sheet that is not refused
abbrev pub StrokesAddUp : Type 0
StrokesAddUp = (ws : List ℕ) → stored_fault ws ≡ 0 → StrokesTrue ws
