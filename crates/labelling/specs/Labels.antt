-- A label by its own numbers: its colour, how many sites it has, and its own length; document 02, "A page for the print room". And what is
-- promised of them; a proof of a promise's type is the theorem (proofs/Labels). Assumes nothing: these are definitions.
use Rattle.std.specs.Prelude.{◌≡◌, cond, List, ℕ, zero, suc, ◌+◌, ◌-◌, ◌<◌, eqb, length, get_or}
use Rattle.sheet.specs.Sheet.{Sheet}
use Rattle.labelling.specs.Layout.{site_at, height_of, used_of, left_end, site_share, count_of, length_of}
use Rattle.labelling.specs.Lawful.{Ties, Rules}
use Rattle.labelling.specs.Counted.{sum_before}

-- the sum of a number of each site that has this slot, of those before one
abbrev pub sum_at : (slot : ℕ) → (number : ℕ → ℕ) → (ties : List ℕ) → (before : ℕ) → ℕ
sum_at k f js n = sum_before (λ i. cond (eqb (get_or js i 0) k) (f i) 0) n

-- the colour of the last site that has this slot, of those before one; 0 if none has it
unfoldable pub colour_before : (colours : ℕ → ℕ) → (ties : List ℕ) → (slot before : ℕ) → ℕ
colour_before f js k zero = 0
colour_before f js k (suc i) = cond (eqb (get_or js i 0) k) (f i) (colour_before f js k i)

-- a label's colour: its sites share one (rule 1)
abbrev pub label_colour : Sheet → (ties : List ℕ) → (slot : ℕ) → ℕ
label_colour s js k = colour_before (λ i. (site_at s i).colour) js k (length s.sites)

-- the number of sites that have this slot
abbrev pub label_sites : Sheet → (ties : List ℕ) → (slot : ℕ) → ℕ
label_sites s js k = sum_at k (λ i. 1) js (length s.sites)

-- a site's share of the length, by its number; the shares of a label's sites
abbrev pub share_at : Sheet → (ties : List ℕ) → (site : ℕ) → ℕ
share_at s js i = site_share s (height_of s (get_or js i 0)) (site_at s i).y

abbrev pub label_shares : Sheet → (ties : List ℕ) → (slot : ℕ) → ℕ
label_shares s js k = sum_at k (share_at s js) js (length s.sites)

-- a label's own length: its backbone's length, W less the left end, plus its sites' shares
abbrev pub own_length : (width left shares : ℕ) → ℕ
own_length w e l = (w - e) + l

abbrev pub label_length : Sheet → (ties : List ℕ) → (slot : ℕ) → ℕ
label_length s js k = own_length s.width (left_end s js k) (label_shares s js k)

-- WHAT IS PROMISED
-- the sum of a number of each used slot
abbrev pub sum_used : Sheet → (ties : List ℕ) → (number : ℕ → ℕ) → ℕ
sum_used s js f = sum_before (λ i. f (get_or (used_of s js) i 0)) (count_of s js)

-- each site's colour is its label's; the labels' lengths add up to the length, and their sites to n
pub record LabelsTrue (s : Sheet) (js : List ℕ) : Type 0 where
  pub colour : (i : ℕ) → i < length s.sites → label_colour s js (get_or js i 0) ≡ (site_at s i).colour
  pub sites : sum_used s js (label_sites s js) ≡ length s.sites
  pub lengths : sum_used s js (label_length s js) ≡ length_of s js

-- of all ties that obey rules 1 to 5
abbrev pub LabelsAddUp : Type 0
LabelsAddUp = (s : Sheet) (js : List ℕ) → Ties s js → Rules s js → LabelsTrue s js
