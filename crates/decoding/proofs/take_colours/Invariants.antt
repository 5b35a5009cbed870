use mathlib.Core.List.{map}
use lib.ListN.{drop}
use Rattle.lists.proofs.Grown.{Grown}
use Rattle.sheet.specs.Sheet.{colours_in}
use Rattle.decoding.specs.Decoding.{colour_numbers}
use Rattle.decoding.proofs.take_colours.Given as goal

abbrev pub invariant-loop-place : goal.invariant-loop-place
invariant-loop-place l = Grown l.initial.colours l.colours (map colour_numbers (colours_in l.body)) (map colour_numbers (colours_in (drop l.place l.body))) l.kinds
