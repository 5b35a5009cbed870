use mathlib.Core.List.{map}
use lib.ListN.{drop}
use Rattle.lists.proofs.Grown.{Grown}
use Rattle.decoding.specs.Decoding.{SiteNumbers}
use Rattle.decoding.proofs.Numbers.site_colours.Given as goal

abbrev pub invariant-loop-i : goal.invariant-loop-i
invariant-loop-i l = Grown l.initial.colours l.colours (map (λ (n : SiteNumbers). n.colour) l.self.site_list) (map (λ (n : SiteNumbers). n.colour) (drop l.i l.self.site_list)) l.i
