use lib.ListN.{drop}
use Rattle.lists.proofs.Grown.{Grown}
use Rattle.sheet.specs.Sheet.{slots_in}
use Rattle.decoding.proofs.take_heights.Given as goal

abbrev pub invariant-loop-w : goal.invariant-loop-w
invariant-loop-w l = Grown l.initial.heights l.heights (slots_in l.body) (slots_in (drop l.w-index l.body)) l.slots
