-- `refusal_6::some_ranked` meets its contract.
use mathlib.Core.Bool.{◌||◌}
use mathlib.Core.Path.{◌≡◌}
use lib.ListN.{drop}
use Rattle.refusals.specs.Wordwise.{some_ranked}
use Rattle.reader.proofs.refusal_6.some_ranked.Given as goal

abbrev pub invariant-loop-w : goal.invariant-loop-w
invariant-loop-w l = (l.found || some_ranked l.rank (drop l.w-index l.words)) ≡ some_ranked l.rank l.words
