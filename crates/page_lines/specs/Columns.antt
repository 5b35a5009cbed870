-- A line of a page by its columns: document 02, "A page for the print room". Columns count from 1. Assumes nothing: these are definitions.
use Rattle.std.specs.Prelude.{List, [], ◌∷◌, ◌++◌, ℕ, ◌-◌, replicate}
use Rattle.sizes.specs.Pages.{line_columns}
use Rattle.text.specs.Text.{blank, line_feed, right_in}

-- a field: the columns from one to another, and the text that stands at their right
pub record Field : Type 0 where
  pub from : ℕ
  pub to : ℕ
  pub text : List ℕ

abbrev pub field : (from to : ℕ) → (text : List ℕ) → Field
field a b t = record { from = a; to = b; text = t }

-- its first column less one, and how many columns it has
abbrev pub start_of : Field → ℕ
start_of f = f.from - 1

abbrev pub width_of : Field → ℕ
width_of f = f.to - start_of f

-- a field after so many columns that are done: blanks up to its own, then its text
abbrev pub field_after : (done : ℕ) → Field → List ℕ
field_after c f = replicate (start_of f - c) blank ++ right_in (width_of f) f.text

-- a line's columns after so many: the fields, rising, and blanks in all others
unfoldable pub columns_after : (done : ℕ) → List Field → List ℕ
columns_after c [] = replicate (line_columns - c) blank
columns_after c (f ∷ fs) = field_after c f ++ columns_after f.to fs

-- A LINE
abbrev pub line_of : List Field → List ℕ
line_of fs = columns_after 0 fs ++ (line_feed ∷ [])
