-- Which inputs of the program are refused. Assumes nothing: these are definitions.
use Rattle.std.specs.Prelude.{Bool, ◌||◌, not, ℕ, ◌%◌, ltb, eqb}

-- the bytes of the longest input that is served
abbrev pub most_bytes : ℕ
most_bytes = 1024

-- 12: more than 1,024 bytes, or not whole words
abbrev pub is_unfit : (size : ℕ) → Bool
is_unfit n = ltb most_bytes n || not (eqb (n % 4) 0)
