-- The size of a page: document 02, "A page for the print room". Assumes nothing: these are definitions.
use Rattle.std.specs.Prelude.{ℕ, ◌+◌, ◌*◌}

-- every line is 40 columns and a line feed
abbrev pub line_columns : ℕ
line_columns = 40

abbrev pub line_bytes : ℕ
line_bytes = line_columns + 1

-- a line for each label, one for each site, and the last
abbrev pub lines_for : (labels sites : ℕ) → ℕ
lines_for c n = c + n + 1

-- in bytes
abbrev pub bytes_for : (labels sites : ℕ) → ℕ
bytes_for c n = line_bytes * lines_for c n
