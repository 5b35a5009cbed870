use lib.ListN.{drop}
use Rattle.search.specs.Radix.{below}
use mathlib.Core.Path.{◌≡◌}
use Rattle.costs.proofs.masks.is_below.Given as goal

abbrev pub invariant-loop-radix : goal.invariant-loop-radix
invariant-loop-radix l = below l.radices.list.now l.w l.v ≡ below (drop l.radix-index l.radices.list.now) l.a l.b
