use Rattle.arrays.proofs.Standing.{clear-edge, clear-bottom, clear-label}
use mathlib.Core.Path.{sym, ◌∙◌}
use native.Mathlib.Omega.{arith}
use Rattle.arrays.proofs.places.is_clear.Goals as goal

pub returns-then-j-eq0 : goal.returns-then-j-eq0
returns-then-j-eq0 c = sym (clear-edge _ _ _ c.if-j-eq0.true)

pub returns-in-Some : goal.returns-in-Some
returns-in-Some c = let e = c.in-Some.ensures.lookup in
    c.is_clear.ensures ∙ rw (e.4 (omega arith) 0) (sym (clear-label _ _ _ (omega arith) e.3.0))

pub returns-in-None : goal.returns-in-None
returns-in-None c = sym (clear-bottom _ _ _ (omega arith) c.in-None.ensures.lookup.3)
