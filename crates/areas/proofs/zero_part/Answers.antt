use mathlib.Core.Path.{refl}
use native.Mathlib.Omega.{arith}
use lib.ListN.{length-set}
use Rattle.areas.proofs.Zeroed.{zeroed-none, zeroed-more}
use Rattle.areas.proofs.zero_part.Goals as goal

pub loop-i-init : goal.loop-i-init
loop-i-init c = let a = c.args in (refl, zeroed-none a.from a.area.now)

pub loop-i-preserved : goal.loop-i-preserved
loop-i-preserved c = let l = c.loop-i in
    let a = c.args in
    (simp length-set l.invariant.0, rw l.invariant.1 (zeroed-more a.from l.i _ a.area.now (omega arith) (omega arith) (omega (arith, c.requires))))
