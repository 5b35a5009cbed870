-- Rules 1 to 6 where they are decided: of a tied site t beside another, u; of a colour's labels; of a layout's first word.
-- Assumes nothing: these are definitions.
use Rattle.std.specs.Prelude.{Bool, ◌&&◌, ◌||◌, not, ℕ, leb, eqb}
use Rattle.sheet.specs.Limits.{unbounded}
use Rattle.sheet.specs.Sheet.{bits}
use Rattle.labelling.specs.Layout.{far_by, counts_by, clear_by, vertical_has}
use Rattle.words.specs.declared.tied.TiedSite.{TiedSite}
use Rattle.words.specs.declared.tied.Head.{Head}
use Rattle.words.specs.Starts.{start_of}

-- 1: sites that share a slot share a colour
abbrev pub colours_pass : (t u : TiedSite) → Bool
colours_pass t u = not (eqb t.slot u.slot) || eqb t.colour u.colour

-- 2: a colour's bound is kept by so many labels
abbrev pub bound_kept : (labels bound : ℕ) → Bool
bound_kept n b = eqb b unbounded || leb n b

-- 3: used slots at least D apart
abbrev pub gaps_pass : Head → (t u : TiedSite) → Bool
gaps_pass h t u = eqb t.slot u.slot || far_by h.gap t.height u.height

-- 4: t's vertical has no point of the backbone that u's label has from u on
abbrev pub misses_pass : Head → (t u : TiedSite) → Bool
misses_pass h t u = eqb t.slot u.slot || not (leb (start_of h u) t.x && vertical_has t.y t.height u.height)

-- 5: the backbone that u's label has from u on lies at least D from t
abbrev pub clears_pass : Head → (t u : TiedSite) → Bool
clears_pass h t u = eqb t.slot u.slot || not (counts_by h.gap (start_of h u) t.x) || clear_by h.gap u.height t.y

-- 6: a layout's first word states this count (bits 27 to 21) and this length (bits 20 to 0)
abbrev pub is_stated : (word labels size : ℕ) → Bool
is_stated w n l = eqb (bits w 21 7) n && eqb (bits w 0 21) l
