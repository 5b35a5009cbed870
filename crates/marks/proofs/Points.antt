-- The sites of a level and those after it. Assumes nothing.
use mathlib.Core.Path.{◌≡◌, refl, ap, ◌∙◌}
use mathlib.Core.List.{List, [], ◌∷◌}
use Prim.Native.Nat.{ℕ, zero, suc, ◌+◌, ◌<◌}
use native.Mathlib.Omega.{arith}
use lib.ListN.{length, get_or, drop}
use Rattle.optimum.specs.Strips.{Point}
use Rattle.optimum.specs.Reached.{no_point}

pub drop-point : (ss : List Point) (j : ℕ) → j < length ss → drop j ss ≡ get_or ss j no_point ∷ drop (j + 1) ss
drop-point [] j h = absurd (omega arith)
drop-point (s ∷ ss) zero h = refl
drop-point (s ∷ ss) (suc j) h = let e : suc (j + 1) ≡ suc j + 1 = omega arith in drop-point ss j (omega arith) ∙ ap (λ (n : ℕ). get_or ss j no_point ∷ drop n (s ∷ ss)) e
