-- A list in an array of a fixed size. Assumes nothing: this is a definition.
use Rattle.std.specs.Prelude.{List, ◌++◌, ℕ, ◌-◌, length, replicate}

-- zeros up to a length
abbrev pub padded : (size : ℕ) → List ℕ → List ℕ
padded n l = l ++ replicate (n - length l) 0
