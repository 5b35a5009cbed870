-- What is written in a row of an area, and the least cost of sharing a budget by the lists of arrays/specs/Budgets. Definitions.
use Rattle.std.specs.Prelude.{◌≡◌, cond, List, ℕ, ◌+◌, ◌-◌, ◌<◌, ◌≤◌, get_or}
use Rattle.search.specs.Cost.{plus, least}
use Rattle.search.specs.Radix.{below}
use Rattle.optimum.specs.OneSided.{top_word}
pub use Rattle.arrays.specs.Budgets.{Listed, Within, SplitsOf, part_at, splits_length}

-- outside of a row of an area nothing changed
pub record Others (old new : List ℕ) (from count : ℕ) : Type 0 where
  pub before : (i : ℕ) → i < from → get_or new i 0 ≡ get_or old i 0
  pub after : (i : ℕ) → from + count ≤ i → get_or new i 0 ≡ get_or old i 0

-- the least cost of sharing u between f and g, by the list
abbrev pub split_by : (parts counts : List ℕ) → (f g : ℕ → ℕ) → (u : ℕ) → ℕ
split_by parts counts f g u = least top_word (get_or counts u 0) (λ i. plus top_word (f (part_at parts u i)) (g (u - part_at parts u i)))

-- a byte that is no budget
abbrev pub not_drawn : ℕ
not_drawn = 255

-- what a draw leaves of the budget v; not_drawn where it may not be drawn
abbrev pub left_by : (rs : List ℕ) → (draw v : ℕ) → ℕ
left_by rs e v = cond (below rs e v) (v - e) not_drawn
