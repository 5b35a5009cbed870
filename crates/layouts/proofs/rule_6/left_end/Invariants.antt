use Rattle.decoding.specs.Decoding.{xs_in}
use Rattle.labelling.specs.Layout.{ties_in}
use Rattle.layouts.specs.Model.{least_before}
use mathlib.Core.Path.{◌≡◌}
use lib.ListN.{get_or}
use Rattle.layouts.proofs.rule_6.left_end.Given as goal

abbrev pub invariant-loop-i : goal.invariant-loop-i
invariant-loop-i l = l.low ≡ least_before l.slot l.initial.low (λ k. get_or (ties_in l.sites.ties.now) k 0) (λ k. get_or (xs_in l.sites.sites.now) k 0) l.i
