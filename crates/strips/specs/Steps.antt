-- ONE STEP of a site in its strip: what it costs, and what it leaves of the budget. Definitions.
use Rattle.std.specs.Prelude.{cond, ℕ, ◌-◌}
use Rattle.search.specs.Radix.{below}
use Rattle.optimum.specs.Strips.{Point, Strip, Instance, cost, draw}

-- what it costs to tie s to slot k with the budget v; none if that is not lawful or not to be had
abbrev pub price_in : Instance → Strip → Point → (v k : ℕ) → ℕ
price_in P p s v k = cond (below P.radices (draw P p s k) v) (cost P p s k) P.top

-- the budget after it
abbrev pub budget_left : Instance → Strip → Point → (v k : ℕ) → ℕ
budget_left P p s v k = v - draw P p s k
