use Prim.Native.Nat.{min}
use Rattle.search.specs.Cost.{least}
use Rattle.optimum.specs.OneSided.{top_word}
use Rattle.rows.specs.Rows.{strip_of, point_of, row_in}
use Rattle.entries.specs.Entries.{single_term}
use mathlib.Core.Path.{◌≡◌}
use Prim.Native.Nat.{◌+◌, ◌-◌}
use lib.ListN.{length}
use Rattle.entries.proofs.least_open.Given as goal

abbrev pub invariant-loop-k : goal.invariant-loop-k
invariant-loop-k l = l.best ≡ min l.initial.best (least top_word (l.k - l.initial.k) (λ i. single_term l.filling.level.sheet.now.measures l.filling.level.sheet.now.heights.now (row_in l.work l.filling.level.low (length l.filling.level.sheet.now.heights.now) l.filling.level.sheet.now.measures.colours l.filling.level.sheet.now.measures.budgets) (strip_of l.p) (point_of l.filling.level.site) (l.initial.k + i)))
