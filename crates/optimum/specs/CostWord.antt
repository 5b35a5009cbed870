-- A cost in one word: count and length in a number that adds and compares as the aim's two numbers do.
use Rattle.std.specs.Prelude.{cond, List, ℕ, ◌+◌, ◌*◌, ◌/◌, ◌%◌}
pub use Rattle.sheet.specs.Limits.{top_word}
use Rattle.sheet.specs.Sheet.{Sheet}
use Rattle.labelling.specs.Layout.{count_of, length_of}

-- 2^6, above every count: a sheet has at most 48 slots
abbrev pub count_limit : ℕ
count_limit = 64

-- 2^25, above every length: at most 48 backbones and 32 drops, each below 2^14 (and below 2^18 on document 02's wall charts)
abbrev pub length_limit : ℕ
length_limit = 33554432

-- the aim's first number stands above the second
unfoldable pub word_of : Sheet → (count size : ℕ) → ℕ
word_of s c l = cond s.is_shortest (l * count_limit + c) (c * length_limit + l)

-- the count and the length of a word
unfoldable pub count_in : Sheet → (word : ℕ) → ℕ
count_in s w = cond s.is_shortest (w % count_limit) (w / length_limit)

unfoldable pub length_in : Sheet → (word : ℕ) → ℕ
length_in s w = cond s.is_shortest (w / count_limit) (w % length_limit)

-- what a layout costs, by its ties
abbrev pub layout_cost : Sheet → (ties : List ℕ) → ℕ
layout_cost s js = word_of s (count_of s js) (length_of s js)
