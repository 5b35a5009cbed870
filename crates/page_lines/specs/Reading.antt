-- What a reader of a line finds: its columns, and the number that stands in them. Assumes nothing: these are definitions.
use Rattle.std.specs.Prelude.{◌≡◌, Bool, ◌&&◌, cond, List, [], ◌∷◌, ℕ, ◌+◌, ◌*◌, ◌-◌, ◌<◌, leb, ltb, length, get_or, take, drop}
use Rattle.text.specs.Text.{zero_digit, line_feed}
use Rattle.sizes.specs.Pages.{line_columns, line_bytes}

-- the columns of a line from one to another
abbrev pub columns_in : (from to : ℕ) → (line : List ℕ) → List ℕ
columns_in a b l = take (b - (a - 1)) (drop (a - 1) l)

-- the number that digits say, read on from a value: what is no digit is passed over
abbrev pub is_digit : (byte : ℕ) → Bool
is_digit b = leb zero_digit b && ltb b (zero_digit + 10)

unfoldable pub value_from : (value : ℕ) → (text : List ℕ) → ℕ
value_from v [] = v
value_from v (b ∷ t) = value_from (cond (is_digit b) (v * 10 + (b - zero_digit)) v) t

-- the number in these columns
abbrev pub number_in : (from to : ℕ) → (line : List ℕ) → ℕ
number_in a b l = value_from 0 (columns_in a b l)

-- A LINE: 40 columns, none of them a line feed, and a line feed
pub record IsLine (l : List ℕ) : Type 0 where
  pub long : length l ≡ line_bytes
  pub end : get_or l line_columns 0 ≡ line_feed
  pub only : (c : ℕ) → c < line_columns → get_or l c 0 ≡ line_feed → ⊥
