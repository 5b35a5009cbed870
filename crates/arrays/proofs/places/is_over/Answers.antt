use Rattle.arrays.proofs.Standing.{over-edge, over-label}
use mathlib.Core.Path.{sym}
use native.Mathlib.Omega.{arith}
use Rattle.arrays.proofs.places.is_over.Goals as goal

pub returns-then-a-eq0 : goal.returns-then-a-eq0
returns-then-a-eq0 c = λ q. sym (over-edge _ _ _ c.if-a-eq0.true)

pub returns : goal.returns
returns c = λ q. rw c.get.ensures (sym (over-label _ _ _ (omega arith)))
