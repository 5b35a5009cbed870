-- What is promised of the page of every stored sheet of which nothing is refused, by what a reader finds on it; a proof of the promise's type
-- is the theorem (proofs/Promise). Assumes nothing: these are definitions.
use Rattle.std.specs.Prelude.{◌≡◌, List, ℕ, ◌+◌, ◌*◌, ◌<◌, length, get_or, take, drop}
use Rattle.sheet.specs.Sheet.{sheet_in}
use Rattle.labelling.specs.Layout.{site_at, stated_count, stated_length, layout_ties, sheet_part, layout_part, stored_fault}
use Rattle.labelling.specs.Counted.{sum_before}
use Rattle.labelling.specs.Labels.{label_colour}
use Rattle.sizes.specs.Pages.{line_bytes, lines_for, bytes_for}
use Rattle.page_lines.specs.Lines.{site_start}
use Rattle.page_lines.specs.Reading.{number_in, IsLine}
use Rattle.page.specs.Page.{page_in}

-- the line of a number, from 0 on
abbrev pub line_at : (page : List ℕ) → (number : ℕ) → List ℕ
line_at p i = take line_bytes (drop (line_bytes * i) p)

-- A PAGE of a sheet with a layout that has so many labels and this length: a line for each label, one for each site and the last, each with
-- 41 bytes and ending in the only line feed of the line; a site's line begins with the six bytes. In the labels' lines the lengths, in columns
-- 20 to 27, add up to that of the last line, which is the layout's, and the numbers of sites, in 8 and 9, to n
pub record PageTrue (labels size sites : ℕ) (p : List ℕ) : Type 0 where
  pub long : length p ≡ bytes_for labels sites
  pub lines : (i : ℕ) → i < lines_for labels sites → IsLine (line_at p i)
  pub starts : (i : ℕ) → i < sites → take (length site_start) (line_at p (labels + i)) ≡ site_start
  pub lengths : sum_before (λ i. number_in 20 27 (line_at p i)) labels ≡ number_in 20 27 (line_at p (labels + sites))
  pub counts : sum_before (λ i. number_in 8 9 (line_at p i)) labels ≡ sites
  pub count : number_in 8 10 (line_at p (labels + sites)) ≡ labels
  pub size_is : number_in 20 27 (line_at p (labels + sites)) ≡ size

-- the same of a stored sheet, by what its layout states
abbrev pub PageOf : (stored page : List ℕ) → Type 0
PageOf ws p = PageTrue (stated_count (layout_part ws)) (stated_length (layout_part ws)) (length (sheet_in (sheet_part ws)).sites) p

-- of every stored sheet of which nothing is refused; and on each label's line stands the colour that all its sites have
abbrev pub PagesAddUp : Type 0
PagesAddUp = (ws : List ℕ) → stored_fault ws ≡ 0 → PageOf ws (page_in ws)

abbrev pub ColoursShared : Type 0
ColoursShared =
    (ws : List ℕ) → stored_fault ws ≡ 0 → (i : ℕ) → i < length (sheet_in (sheet_part ws)).sites →
    label_colour (sheet_in (sheet_part ws)) (layout_ties (layout_part ws)) (get_or (layout_ties (layout_part ws)) i 0) ≡ (site_at (sheet_in (sheet_part ws)) i).colour
