use mathlib.Core.Path.{◌≡◌}
use mathlib.Core.Bool.{Bool, not}
use mathlib.Core.List.{List}
use Prim.Native.Nat.{ℕ}
use lib.ListN.{length, get_or}
use Rattle.search.specs.Masks.{mask_from}
use Rattle.labelling.specs.Layout.{clear_by}
use Rattle.tips.proofs.near_slots.Given as goal

-- a slot is not clear of the site
abbrev pub is_near : (gap : ℕ) → (heights : List ℕ) → (y k : ℕ) → Bool
is_near d hs y k = not (clear_by d (get_or hs k 0) y)

abbrev pub invariant-loop-k : goal.invariant-loop-k
invariant-loop-k l = l.near ≡ mask_from (is_near l.gap l.heights l.y) (length l.heights) l.k
