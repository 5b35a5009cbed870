use mathlib.Core.List.{map}
use lib.ListN.{drop}
use Rattle.lists.proofs.Grown.{Grown}
use Rattle.decoding.specs.Decoding.{ColourNumbers}
use Rattle.decoding.proofs.Numbers.bounds.Given as goal

abbrev pub invariant-loop-i : goal.invariant-loop-i
invariant-loop-i l = Grown l.initial.bounds l.bounds (map (λ (n : ColourNumbers). n.bound) l.self.colour_list) (map (λ (n : ColourNumbers). n.bound) (drop l.i l.self.colour_list)) l.i
