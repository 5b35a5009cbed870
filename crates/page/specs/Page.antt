-- The page of a stored sheet on bytes, and what the tool that writes it gives and leaves: document 02, "A page for the print room".
-- Assumes nothing: these are definitions, each for every list of words.
use Rattle.std.specs.Prelude.{List, [], ◌∷◌, ◌++◌, map, ℕ, zero, suc, ◌*◌, length, get_or}
use Rattle.sheet.specs.Sheet.{Sheet, sheet_in}
use Rattle.labelling.specs.Layout.{site_at, height_of, used_of, count_of, length_of, layout_ties, sheet_part, layout_part}
use Rattle.labelling.specs.Labels.{label_colour, label_sites, label_length}
use Rattle.labelling.specs.Tools.{tool_fault, tool_area}
use Rattle.faults.specs.declared.written.Written.{Written}
use Rattle.faults.specs.Results.{written_post}
use Rattle.sizes.specs.Pages.{line_bytes}
use Rattle.page_lines.specs.Lines.{slot_line, site_line, total_line}

-- THE LINES
-- of a used slot: its colour, the number of sites that have it, its height, the label's own length
abbrev pub slot_line_of : Sheet → (ties : List ℕ) → (slot : ℕ) → List ℕ
slot_line_of s js k = slot_line k (label_colour s js k) (label_sites s js k) (height_of s k) (label_length s js k)

-- of a site: its slot, and its drop, by the slot's height and its own
abbrev pub site_line_of : Sheet → (ties : List ℕ) → (site : ℕ) → List ℕ
site_line_of s js i = site_line i (get_or js i 0) (height_of s (get_or js i 0)) (site_at s i).y

-- the last: the count and the length
abbrev pub last_line_of : Sheet → (ties : List ℕ) → List ℕ
last_line_of s js = total_line (count_of s js) (length_of s js)

-- so many numbers from one on
unfoldable pub numbers_from : (from count : ℕ) → List ℕ
numbers_from a zero = []
numbers_from a (suc n) = a ∷ numbers_from (suc a) n

-- one a used slot, rising; one a site, in sheet order
abbrev pub slot_lines : Sheet → (ties : List ℕ) → List (List ℕ)
slot_lines s js = map (slot_line_of s js) (used_of s js)

abbrev pub site_lines : Sheet → (ties : List ℕ) → List (List ℕ)
site_lines s js = map (site_line_of s js) (numbers_from 0 (length s.sites))

-- a page's lines: these, and the last
abbrev pub page_lines : Sheet → (ties : List ℕ) → List (List ℕ)
page_lines s js = slot_lines s js ++ (site_lines s js ++ (last_line_of s js ∷ []))

-- lines, one after the other
unfoldable pub joined : (lines : List (List ℕ)) → List ℕ
joined [] = []
joined (l ∷ ls) = l ++ joined ls

-- THE PAGE
abbrev pub page_of : Sheet → (ties : List ℕ) → List ℕ
page_of s js = joined (page_lines s js)

-- of a stored sheet
abbrev pub lines_in : (stored : List ℕ) → List (List ℕ)
lines_in ws = page_lines (sheet_in (sheet_part ws)) (layout_ties (layout_part ws))

abbrev pub page_in : (stored : List ℕ) → List ℕ
page_in ws = joined (lines_in ws)

-- its size in bytes: 41 times the number of lines
abbrev pub page_size : (stored : List ℕ) → ℕ
page_size ws = line_bytes * length (lines_in ws)

-- THE TOOL: the refusal, 9 where the area has fewer bytes than that; the area afterwards; what is given
abbrev pub page_fault : (stored area : List ℕ) → ℕ
page_fault ws o = tool_fault ws (page_size ws) (length o)

abbrev pub page_area : (stored area : List ℕ) → List ℕ
page_area ws o = tool_area (page_fault ws o) (page_size ws) (page_in ws) o

abbrev pub page_post : (stored area : List ℕ) → Written
page_post ws o = written_post (page_fault ws o) (page_size ws)
