use Rattle.search.specs.Masks.{mask_from}
use Rattle.search.specs.Radix.{below}
use mathlib.Core.Path.{◌≡◌}
use Prim.Native.Nat.{◌+◌}
use Rattle.costs.proofs.masks.mask_below.Given as goal

abbrev pub invariant-loop-w : goal.invariant-loop-w
invariant-loop-w l = l.mask ≡ mask_from (λ u. below l.radices.list.now u l.v) (l.v + 1) l.w
