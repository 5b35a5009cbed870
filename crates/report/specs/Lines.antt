-- The lines of a report. Assumes nothing: these are definitions.
use Rattle.std.specs.Prelude.{List, [], ◌∷◌, ◌++◌, ℕ, suc, ◌+◌, get_or}
use Rattle.sheet.specs.Sheet.{bits, Site, Sheet}
use Rattle.labelling.specs.Layout.{stated_count, stated_length}
use Rattle.text.specs.Text.{ascii, decimal}

-- THE LINES, each with its line feed
abbrev pub refused_line : (number : ℕ) → List ℕ
refused_line n = ascii "refused " ++ decimal n ++ ascii "\n"

abbrev pub layout_line : (labels size : ℕ) → List ℕ
layout_line c l = ascii "labels " ++ decimal c ++ ascii " length " ++ decimal l ++ ascii "\n"

abbrev pub site_line : (site colour slot : ℕ) → List ℕ
site_line i c k = ascii "site " ++ decimal i ++ ascii " colour " ++ decimal c ++ ascii " slot " ++ decimal k ++ ascii "\n"

-- a site's slot: the words of kind 9 follow the first
abbrev pub slot_at : (layout : List ℕ) → (site : ℕ) → ℕ
slot_at ls i = bits (get_or ls (i + 1) 0) 0 8

unfoldable pub site_lines : (layout : List ℕ) → (site : ℕ) → List Site → List ℕ
site_lines ls i [] = []
site_lines ls i (s ∷ ss) = site_line i s.colour (slot_at ls i) ++ site_lines ls (suc i) ss

unfoldable pub layout_text : Sheet → (layout : List ℕ) → List ℕ
layout_text s ls = layout_line (stated_count ls) (stated_length ls) ++ site_lines ls 0 s.sites

-- the same by the sites' colours alone
unfoldable pub site_lines_by : (layout : List ℕ) → (site : ℕ) → (colours : List ℕ) → List ℕ
site_lines_by ls i [] = []
site_lines_by ls i (c ∷ cs) = site_line i c (slot_at ls i) ++ site_lines_by ls (suc i) cs

unfoldable pub layout_text_by : (colours layout : List ℕ) → List ℕ
layout_text_by cs ls = layout_line (stated_count ls) (stated_length ls) ++ site_lines_by ls 0 cs
