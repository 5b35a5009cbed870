-- A row that is written word by word, whatever the area held. Assumes nothing.
use mathlib.Core.Path.{◌≡◌}
use mathlib.Core.List.{List}
use Prim.Native.Nat.{ℕ, ◌+◌, ◌<◌, ◌≤◌}
use lib.ListN.{length, get_or}

-- the first n words of the row at `base` are f 0, f 1, ..; all other words are as before
pub record Written (old new : List ℕ) (base n : ℕ) (f : ℕ → ℕ) : Type 0 where
  pub long : length new ≡ length old
  pub inside : (k : ℕ) → k < n → get_or new (base + k) 0 ≡ f k
  pub before : (k : ℕ) → k < base → get_or new k 0 ≡ get_or old k 0
  pub after : (k : ℕ) → base + n ≤ k → get_or new k 0 ≡ get_or old k 0
