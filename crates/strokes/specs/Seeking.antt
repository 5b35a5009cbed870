-- The stroke of a place, sought among those of one sort. Assumes nothing: these are definitions.
use Rattle.std.specs.Prelude.{Bool, cond, List, ℕ, zero, suc, length, Result, Ok, Err}
use Rattle.sheet.specs.Sheet.{Sheet}
use Rattle.labelling.specs.Layout.{tie_at, is_used}
use Rattle.labelling.specs.Strokes.{is_off}

-- THE NUMBER, from one on and among so many, that passes a test and before which so many pass; where there is none, how many places are left
unfoldable pub sought_in : (test : ℕ → Bool) → (from count place : ℕ) → Result ℕ ℕ
sought_in t a zero p = Err p
sought_in t a (suc n) zero = cond (t a) (Ok a) (sought_in t (suc a) n zero)
sought_in t a (suc n) (suc p) = cond (t a) (sought_in t (suc a) n p) (sought_in t (suc a) n (suc p))

-- THE SLOT of a stroke, by its place among the backbones; the site of one, by its place among the drops
abbrev pub bone_sought : Sheet → (ties : List ℕ) → (place : ℕ) → Result ℕ ℕ
bone_sought s js p = sought_in (λ k. is_used k js) 0 (length s.slots) p

abbrev pub drop_sought : Sheet → (ties : List ℕ) → (place : ℕ) → Result ℕ ℕ
drop_sought s js p = sought_in (λ i. is_off s (tie_at s js i)) 0 (length s.sites) p
