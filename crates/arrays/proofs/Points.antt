-- The sites of the arrays, as points. Assumes nothing.
use mathlib.Core.Path.{◌≡◌, refl, ap, ◌∙◌}
use mathlib.Core.List.{List}
use Prim.Native.Nat.{ℕ, zero, suc, ◌+◌, ◌<◌}
use native.Mathlib.Omega.{arith}
use lib.ListN.{length, get_or}
use Rattle.optimum.specs.Reached.{no_point}
use Rattle.arrays.specs.declared.Measures.{Measures}
use Rattle.arrays.specs.Arrays.{point_by, points_from, points_by}

module _ (q : Measures) (hs xs ys cs : List ℕ) where
  from-long : (j n : ℕ) → length (points_from q hs xs ys cs j n) ≡ n
  unfolding points_from
  from-long j zero = refl
  from-long j (suc n) = ap suc (from-long (suc j) n)

  from_at : (j n i : ℕ) → i < n → get_or (points_from q hs xs ys cs j n) i no_point ≡ point_by q hs xs ys cs (j + i)
  unfolding points_from
  from_at j zero i h = absurd (omega arith)
  from_at j (suc n) zero h = ap (point_by q hs xs ys cs) (omega arith)
  from_at j (suc n) (suc i) h = from_at (suc j) n i (omega arith) ∙ ap (point_by q hs xs ys cs) (omega arith)

  pub points-long : length (points_by q hs xs ys cs) ≡ length xs
  points-long = from-long 0 (length xs)

  pub point-at : (j : ℕ) → j < length xs → get_or (points_by q hs xs ys cs) j no_point ≡ point_by q hs xs ys cs j
  point-at j h = from_at 0 (length xs) j h ∙ ap (point_by q hs xs ys cs) (omega arith)
