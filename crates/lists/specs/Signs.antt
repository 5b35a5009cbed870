-- Whole numbers as 32-bit numbers with a sign. Assumes nothing: this is a definition.
use Rattle.std.specs.Prelude.{ℕ}

-- 2^31: a number below it is the same number as an i32. Heights are far below
abbrev pub sign_top : ℕ
sign_top = 2147483648
