-- The number of each kind of words. Assumes nothing: this is a definition.
use Rattle.std.specs.Prelude.{ℕ}
use Rattle.words.specs.declared.kinds.Kind.{Kind}
use Rattle.words.specs.declared.kinds.Kind.TheVariants.{Head, Slot, Colour, Site, Charge, Layout, Tie}

abbrev pub kind_number : Kind → ℕ
kind_number Head = 1
kind_number Slot = 2
kind_number Colour = 3
kind_number Site = 4
kind_number Charge = 5
kind_number Layout = 8
kind_number Tie = 9
