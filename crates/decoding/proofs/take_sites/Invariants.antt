use mathlib.Core.List.{map}
use mathlib.Core.Path.{◌≡◌}
use Prim.Native.Nat.{◌+◌}
use lib.ListN.{drop}
use Rattle.lists.proofs.Grown.{Grown}
use Rattle.sheet.specs.Sheet.{sites_in}
use Rattle.sheet.specs.Words.{count_kind}
use Rattle.decoding.specs.Decoding.{site_numbers}
use Rattle.decoding.proofs.take_sites.Given as goal

abbrev pub invariant-loop-w : goal.invariant-loop-w
invariant-loop-w l =
    (l.colours + count_kind 3 (drop l.w-index l.body) ≡ count_kind 3 l.body)
    × Grown l.initial.list l.list (map site_numbers (sites_in 0 l.body)) (map site_numbers (sites_in l.colours (drop l.w-index l.body))) l.sites
