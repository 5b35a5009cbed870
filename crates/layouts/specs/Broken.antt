-- The number of each rule, as callers are given it. Definitions.
use Rattle.std.specs.Prelude.{ℕ, Option, None, Some}
use Rattle.layouts.specs.declared.rule.Rule.{Rule}
use Rattle.layouts.specs.declared.rule.Rule.TheVariants.{Colours, Bounds, Gaps, Misses, Clears, Totals}

abbrev pub rule_number : Rule → ℕ
rule_number Colours = 1
rule_number Bounds = 2
rule_number Gaps = 3
rule_number Misses = 4
rule_number Clears = 5
rule_number Totals = 6

-- that of a rule that may be broken: 0 for none
abbrev pub broken_number : Option Rule → ℕ
broken_number None = 0
broken_number (Some r) = rule_number r
