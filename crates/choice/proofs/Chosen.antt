-- A level whose labels and marks are as they were. Assumes nothing.
use mathlib.Core.Path.{◌≡◌}
use mathlib.Core.List.{List}
use Prim.Native.Nat.{ℕ}
use Rattle.rows.specs.Rest.{LevelIn}

-- the labels and the marks are as they were, and as many budgets are listed as the level has
pub level-same : {work : List ℕ} {base C R n : ℕ} {old new was now : List ℕ} → n ≡ R → new ≡ old → now ≡ was → LevelIn work base C R old was
    → LevelIn work base C n new now
level-same h e f l = rw (h, e, f) l
