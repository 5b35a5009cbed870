use mathlib.Core.List.{map}
use lib.ListN.{drop}
use Rattle.lists.proofs.Grown.{Grown}
use Rattle.decoding.specs.Decoding.{SiteNumbers}
use Rattle.decoding.proofs.Numbers.xs.Given as goal

abbrev pub invariant-loop-i : goal.invariant-loop-i
invariant-loop-i l = Grown l.initial.xs l.xs (map (λ (n : SiteNumbers). n.x) l.self.site_list) (map (λ (n : SiteNumbers). n.x) (drop l.i l.self.site_list)) l.i
