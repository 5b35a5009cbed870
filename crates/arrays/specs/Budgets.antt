-- What is asked of radices, and what may be taken from each budget, in a list with most_budgets places for each. Definitions.
use Rattle.std.specs.Prelude.{◌≡◌, true, List, ℕ, ◌+◌, ◌*◌, ◌<◌, ◌≤◌, length, get_or}
use Rattle.sheet.specs.Limits.{most_budgets}
use Rattle.search.specs.Radix.{below}

-- no radix is 0
abbrev pub Divides : List ℕ → Type 0
Divides rs = (k : ℕ) → k < length rs → 0 < get_or rs k 0

-- of the numbers below w, just those that may be taken from v are listed. A ghost field is a proposition, so `whole` says only that there is a
-- place; arrays/proofs/Listed finds it.
pub record Listed (rs : List ℕ) (v w count : ℕ) (at : ℕ → ℕ) : Type 0 where
  pub few : count ≤ w
  pub small : (i : ℕ) → i < count → at i < w
  pub sound : (i : ℕ) → i < count → below rs (at i) v ≡ true
  pub whole : (x : ℕ) → x < w → below rs x v ≡ true → ∥ ((i : ℕ) × (i < count) × (at i ≡ x)) ∥₁

-- the places of all lists: most_budgets for each of most_budgets budgets
abbrev pub splits_length : ℕ
splits_length = 4096

-- the lists of all budgets below P: that of v has counts[v] numbers from place most_budgets v on
abbrev pub part_at : (parts : List ℕ) → (v i : ℕ) → ℕ
part_at parts v i = get_or parts (v * most_budgets + i) 0

-- what is listed for v is at most v
pub record Within (P : ℕ) (parts counts : List ℕ) : Type 0 where
  pub few : P ≤ most_budgets
  pub parts_long : length parts ≡ splits_length
  pub counts_long : length counts ≡ most_budgets
  pub counted : (v : ℕ) → v < P → get_or counts v 0 ≤ most_budgets
  pub small : (v i : ℕ) → v < P → i < get_or counts v 0 → part_at parts v i ≤ v

-- the lists are those of these radices
pub record SplitsOf (rs : List ℕ) (P : ℕ) (parts counts : List ℕ) : Type 0 where
  pub within : Within P parts counts
  pub listed : (v : ℕ) → v < P → Listed rs v (v + 1) (get_or counts v 0) (part_at parts v)
