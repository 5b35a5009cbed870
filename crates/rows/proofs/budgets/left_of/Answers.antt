use mathlib.Core.Bool.{Bool, true}
use mathlib.Core.List.{List}
use Rattle.search.specs.Radix.{below}
use Rattle.search.proofs.Radix.{below-splits}
use mathlib.Core.Path.{◌≡◌, sym, ◌∙◌}
use Prim.Native.Nat.{ℕ, ◌≤◌}
use native.Mathlib.Omega.{arith}
use Rattle.rows.proofs.budgets.left_of.Goals as goal

-- what may be drawn from a budget is at most that budget
draw_low : (rs : List ℕ) (draw v : ℕ) (b : Bool) → b ≡ below rs draw v → b ≡ true → draw ≤ v
draw_low rs draw v b e t = (below-splits rs).fits draw v (sym e ∙ t)

pub overflow_cast-result : goal.overflow_cast-result
overflow_cast-result c = omega (arith, draw_low _ _ _ _ c.is_below.ensures c.if-is_below.true)

pub overflow_sub-result : goal.overflow_sub-result
overflow_sub-result c = omega (arith, draw_low _ _ _ _ c.is_below.ensures c.if-is_below.true)
