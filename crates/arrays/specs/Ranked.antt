-- A ranked sheet as the value that contracts speak of. Definitions.
use Rattle.std.specs.Prelude.{ℕ, length}
use Rattle.arrays.specs.Given.{Given, given}
use Rattle.arrays.specs.declared.ranked.RankedSheet.{RankedSheet}

abbrev pub given_of : RankedSheet → Given
given_of s = given s.measures s.heights.now s.bounds.now s.radices.list.now s.draws.now s.xs.now s.ys.now s.colours.now s.order.now s.splits.parts.now s.splits.counts.now

-- how many slots and colours it has
abbrev pub slot_count : RankedSheet → ℕ
slot_count s = length s.heights.now

abbrev pub colour_count : RankedSheet → ℕ
colour_count s = s.measures.colours
