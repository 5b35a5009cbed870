-- The number of each stage of a sheet's body, as `in_order` counts them. Assumes nothing: these are definitions.
use Rattle.std.specs.Prelude.{ℕ, Option, Some, None}
use Rattle.forms.specs.declared.refusal_2.Stage.{Stage}
use Rattle.forms.specs.declared.refusal_2.Stage.TheVariants.{Slots, Colours}

abbrev pub stage_number : Stage → ℕ
stage_number Slots = 0
stage_number Colours = 1

-- 2: out of order
abbrev pub stage_number_in : Option Stage → ℕ
stage_number_in (Some z) = stage_number z
stage_number_in None = 2
