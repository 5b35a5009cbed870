-- The lines of a page, from their numbers: document 02, "A page for the print room". Assumes nothing: these are definitions.
use Rattle.std.specs.Prelude.{cond, List, [], ◌∷◌, ◌++◌, ℕ, ltb}
use Rattle.labelling.specs.Layout.{apart}
use Rattle.text.specs.Text.{ascii, decimal}
use Rattle.page_lines.specs.Columns.{Field, field, line_of}

-- A USED SLOT's line: slot in columns 1 to 3, colour in 5 and 6, its number of sites in 8 and 9, height in 11 to 18, the label's own length in
-- 20 to 27
abbrev pub slot_fields : (slot colour sites height size : ℕ) → List Field
slot_fields k c n h l =
    field 1 3 (decimal k) ∷ field 5 6 (decimal c) ∷ field 8 9 (decimal n) ∷ field 11 18 (decimal h) ∷ field 20 27 (decimal l) ∷ []

abbrev pub slot_line : (slot colour sites height size : ℕ) → List ℕ
slot_line k c n h l = line_of (slot_fields k c n h l)

-- a drop as text, by the height of its slot and its own: + or - just before its digits, none at zero
abbrev pub sign_of : (height y : ℕ) → List ℕ
sign_of h y = cond (ltb y h) (ascii "+") (cond (ltb h y) (ascii "-") [])

abbrev pub drop_text : (height y : ℕ) → List ℕ
drop_text h y = sign_of h y ++ decimal (apart h y)

-- the six bytes that a site's line begins with
abbrev pub site_start : List ℕ
site_start = ascii "  drop"

-- A SITE's line: it begins with the six bytes; site in columns 8 to 10, slot in 12 to 14, drop in 16 to 23
abbrev pub site_fields : (site slot height y : ℕ) → List Field
site_fields i k h y = field 1 6 site_start ∷ field 8 10 (decimal i) ∷ field 12 14 (decimal k) ∷ field 16 23 (drop_text h y) ∷ []

abbrev pub site_line : (site slot height y : ℕ) → List ℕ
site_line i k h y = line_of (site_fields i k h y)

-- THE LAST LINE: `total` in columns 1 to 5, the count in 8 to 10, the length in 20 to 27
abbrev pub total_fields : (count size : ℕ) → List Field
total_fields c l = field 1 5 (ascii "total") ∷ field 8 10 (decimal c) ∷ field 20 27 (decimal l) ∷ []

abbrev pub total_line : (count size : ℕ) → List ℕ
total_line c l = line_of (total_fields c l)
