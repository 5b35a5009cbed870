-- A cost in one word: definitions.
use Rattle.std.specs.Prelude.{cond, ℕ, ◌+◌, ◌*◌, ◌-◌, ◌/◌, ◌%◌}
use Rattle.labelling.specs.Layout.{share_by, first_word}
use Rattle.optimum.specs.CostWord.{count_limit, length_limit}
use Rattle.arrays.specs.declared.Measures.{Measures}

-- above every length that a step adds: at most a width, a drop and a charge, each below 2^14
abbrev pub step_top : ℕ
step_top = 65536

-- count and length in one word, by the aim
abbrev pub word_by : Measures → (count size : ℕ) → ℕ
word_by q c l = cond q.head.shortest (l * count_limit + c) (c * length_limit + l)

-- what a step costs that opens a label at a height for a site, and one that joins it
abbrev pub opening_by : Measures → (x height y : ℕ) → ℕ
opening_by q x h y = word_by q 1 (q.head.width - x + share_by q.head.charge h y)

abbrev pub joining_by : Measures → (height y : ℕ) → ℕ
joining_by q h y = word_by q 0 (share_by q.head.charge h y)

-- count and length in a cost
abbrev pub count_by : Measures → (cost : ℕ) → ℕ
count_by q w = cond q.head.shortest (w % count_limit) (w / length_limit)

abbrev pub length_by : Measures → (cost : ℕ) → ℕ
length_by q w = cond q.head.shortest (w / count_limit) (w % length_limit)

-- a layout's first word, by its cost
abbrev pub first_word_by : Measures → (cost : ℕ) → ℕ
first_word_by q w = first_word (count_by q w) (length_by q w)
