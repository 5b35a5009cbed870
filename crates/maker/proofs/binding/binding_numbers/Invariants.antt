use Rattle.maker.proofs.Kept.{IsKept}
use Rattle.maker.proofs.binding.binding_numbers.Given as goal

abbrev pub invariant-loop-c : goal.invariant-loop-c
invariant-loop-c l = IsKept l.initial.colour_list l.colour_list l.numbers.kinds l.c
