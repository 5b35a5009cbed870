use Rattle.arrays.proofs.Standing.{far-edge, far-bottom, far-label}
use mathlib.Core.Path.{sym, ◌∙◌}
use native.Mathlib.Omega.{arith}
use Rattle.arrays.proofs.places.is_far.Goals as goal

pub returns-then-j-eq0 : goal.returns-then-j-eq0
returns-then-j-eq0 c = sym (far-edge _ _ _ _ _ c.if-j-eq0.true)

pub returns-in-Some : goal.returns-in-Some
returns-in-Some c = let e = c.in-Some.ensures.lookup in
    c.is_far.ensures ∙ rw (c.get-in-Some.ensures, e.4 (omega arith) 0) (sym (far-label _ _ _ _ _ (omega arith) e.3.0))

pub returns-in-None : goal.returns-in-None
returns-in-None c = sym (far-bottom _ _ _ _ _ (omega arith) c.in-None.ensures.lookup.3)
