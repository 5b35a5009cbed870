-- Text as bytes, and what putting it into an area leaves. Assumes nothing: these are definitions.
use Rattle.std.specs.Prelude.{cond, List, [], ◌∷◌, ◌++◌, ℕ, zero, suc, ◌+◌, ◌-◌, ◌/◌, ◌%◌, min, max, ltb, length, set, replicate}
use Prim.Native.Char.{code}
use Prim.Native.String.{String, [] as empty, ◌∷◌ as ◌then◌}

-- the bytes of a text of ASCII characters
abbrev pub ascii : String → List ℕ
ascii empty = []
ascii (c then s) = code c ∷ ascii s

-- the ASCII codes of a blank, a line feed and the digit 0
abbrev pub blank : ℕ
blank = 32

abbrev pub line_feed : ℕ
line_feed = 10

abbrev pub zero_digit : ℕ
zero_digit = 48

-- a number's digits, the first one first; a number has fewer digits than its value and one more, which is the fuel
unfoldable pub digits_by : (fuel : ℕ) → ℕ → List ℕ
digits_by zero n = (zero_digit + n) ∷ []
digits_by (suc f) n = cond (ltb n 10) ((zero_digit + n) ∷ []) (digits_by f (n / 10) ++ ((zero_digit + n % 10) ∷ []))

unfoldable pub decimal : ℕ → List ℕ
decimal n = digits_by n n

-- a text at the right of so many columns: blanks before it
unfoldable pub right_in : (columns : ℕ) → (text : List ℕ) → List ℕ
right_in w t = replicate (w - length t) blank ++ t

-- an area after bytes were put from a place on; what would lie past its end is left out
unfoldable pub written : (area : List ℕ) → (place : ℕ) → (bytes : List ℕ) → List ℕ
written l i [] = l
written l i (b ∷ bs) = written (set l i b) (suc i) bs

-- the place past them, within the area; a place outside stays
abbrev pub past_of : (area : List ℕ) → (place : ℕ) → (bytes : List ℕ) → ℕ
past_of l i bs = min (max (length l) i) (i + length bs)
