use mathlib.Core.Path.{refl}
use native.Mathlib.Omega.{arith}
use Rattle.decoding.proofs.Fronts.{few}
use Rattle.maker.proofs.Kept.{kept-more, numbers-kept}
use Rattle.maker.proofs.binding.binding_numbers.Goals as goal

pub bounds-colour_list-c : goal.bounds-colour_list-c
bounds-colour_list-c c = omega (arith, c.loop-c-test.true, few c.requires)

pub bounds-colour_list-c-in-loop-c : goal.bounds-colour_list-c-in-loop-c
bounds-colour_list-c-in-loop-c c = omega (arith, c.loop-c-test.true, few c.requires)

pub bounds-colour_list-c-in-loop-c-2 : goal.bounds-colour_list-c-in-loop-c-2
bounds-colour_list-c-in-loop-c-2 c = omega (arith, c.loop-c-test.true, few c.requires)

pub loop-c-preserved : goal.loop-c-preserved
loop-c-preserved c = let l = c.loop-c in
    kept-more _ _ _ l.c _ (omega (arith, few c.requires)) c.loop-c-test.true (rw c.binding_bound-bound.ensures refl) l.invariant

pub returns : goal.returns
returns c = λ ws h e. numbers-kept (record { words = ws; accepted = h; numbers = e }) c.loop-c-test.false c.loop-c.invariant
