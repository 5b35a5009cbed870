-- The slots that sites have, as sets: document 02, "The judge's spare list". Assumes nothing: these are definitions.
-- proofs/Slots shows how many they are, and that rule 2 is broken exactly where they are more than a bound.
use Rattle.std.specs.Prelude.{◌≡◌, List, ℕ, ◌<◌, length, get_or}
use Rattle.lists.specs.Number.{NumberOf}
use Rattle.sheet.specs.Limits.{unbounded}
use Rattle.sheet.specs.Sheet.{Sheet}
use Rattle.labelling.specs.Layout.{site_at, no_colour}

-- a site of this colour has this slot
abbrev pub ColourHas : Sheet → (ties : List ℕ) → (colour slot : ℕ) → Type 0
ColourHas s js c k = (i : ℕ) × (i < length s.sites) × ((site_at s i).colour ≡ c) × (get_or js i 0 ≡ k)

-- some colour of the sheet has a bound, and its sites have more different slots
pub record OverBound (s : Sheet) (js : List ℕ) : Type 0 where
  pub colour : ℕ
  pub known : colour < length s.colours
  pub bounded : (get_or s.colours colour no_colour).bound ≡ unbounded → ⊥
  pub number : ℕ
  pub different : NumberOf (ColourHas s js colour) number
  pub over : (get_or s.colours colour no_colour).bound < number
