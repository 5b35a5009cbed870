-- The old entry is a word, so the sum needs no cap.
use Rattle.search.specs.Cost.{plus}
use native.Mathlib.Omega.{arith}
use Rattle.entries.proofs.lesser_sum.Goals as goal

pub returns : goal.returns
unfolding plus
returns c = omega (arith, c.ranges.old, c.min.ensures)
