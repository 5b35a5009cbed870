-- Refusals in their order, from numbers and tests alone. Assumes nothing: these are definitions.
use Rattle.std.specs.Prelude.{Bool, not, cond, ℕ, ◌+◌, eqb, ltb, leb}

-- THE MAKER'S before a sheet is laid out: the reader's; 18, a two-sided sheet; 8, fewer work words than needed; 9, fewer answer words than n + 1; or 0
abbrev pub maker_fault : (refusal : ℕ) → (two_sided : Bool) → (needed sites work out : ℕ) → ℕ
maker_fault f t w n k o = cond (not (eqb f 0)) f (cond t 18 (cond (ltb k w) 8 (cond (ltb o (n + 1)) 9 0)))

-- OF A TOOL that writes so many places into an area: that of what it is given; 9, fewer are lent; or 0
abbrev pub area_fault : (size lent : ℕ) → ℕ
area_fault n l = cond (leb n l) 0 9

abbrev pub written_fault : (refusal size lent : ℕ) → ℕ
written_fault f n l = cond (not (eqb f 0)) f (area_fault n l)

-- OF A STORED SHEET, after the sheet's: 11, what follows is not a layout of it; then 13, a rule is broken; or 0
abbrev pub layout_fault : (fits : Bool) → ℕ
layout_fault b = cond b 0 11

abbrev pub rule_fault : (lawful : Bool) → ℕ
rule_fault b = cond b 0 13
