-- The word of a tie, at its site's place in the answer. Assumes nothing: these are definitions.
use Rattle.std.specs.Prelude.{List, ℕ, ◌+◌, ◌<◌, length, get_or, set}
use Rattle.sheet.specs.Limits.{most_slots}
use Rattle.labelling.specs.Layout.{tie_word, ties_at}

-- the answer area with the site of rank j, whose place in the sheet the order gives, tied to slot k
abbrev pub with_tie : (order out : List ℕ) → (j k : ℕ) → List ℕ
with_tie order out j k = set out (get_or order j 0 + ties_at) (tie_word k)

-- there is such a site, its word is in the area, and slot k is a sheet's
pub record TieIn (order out : List ℕ) (j k : ℕ) : Type 0 where
  pub ranked : j < length order
  pub within : get_or order j 0 + ties_at < length out
  pub slot_low : k < most_slots
