use Rattle.optimum.specs.OneSided.{mark_count}
use Rattle.rows.proofs.Places.{sized}
use native.Mathlib.Omega.{arith}
use borrow.Author.Rules.{rules}
use Rattle.rows.proofs.place_of.Goals as goal

pub overflow_mul-result-2 : goal.overflow_mul-result-2
unfolding mark_count
overflow_mul-result-2 c =
    let h = c.requires.few in
    omega (arith, (sized _ _ _ _ h.0 h.1 h.2 c.requires.lies).place)

pub returns : goal.returns
unfolding mark_count
returns c = search rules
