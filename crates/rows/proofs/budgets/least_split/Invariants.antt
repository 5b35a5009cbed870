use Rattle.search.specs.Cost.{plus, least}
use Rattle.optimum.specs.OneSided.{top_word}
use Rattle.arrays.specs.Budgets.{part_at}
use mathlib.Core.Path.{◌≡◌}
use Prim.Native.Nat.{◌+◌, ◌-◌, ◌≤◌}
use lib.ListN.{get_or}
use Rattle.rows.proofs.budgets.least_split.Given as goal

abbrev pub invariant-loop-w : goal.invariant-loop-w
invariant-loop-w l = (l.best ≤ top_word) × (l.best ≡ least top_word l.w-index (λ k. plus top_word (get_or l.f (l.from + part_at l.fn.splits.parts.now l.u k) 0) (get_or l.g (l.«at» + (l.u - part_at l.fn.splits.parts.now l.u k)) 0)))
