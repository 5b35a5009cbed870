-- The tests of refusals 1, 2 and 11 on one word, as the code makes them. Assumes nothing: these are definitions.
-- That those of 2 are the test of `sheet_fault` is shown in reader: refusal_2/Order.
use Rattle.std.specs.Prelude.{Bool, ◌&&◌, not, cond, ℕ, eqb, ltb}
use Rattle.sheet.specs.Sheet.{bits, kind_of, has_spare}

-- REFUSAL 1: a head's word: of kind 1, neither its W nor its D is 0
abbrev pub is_head_word : (word : ℕ) → Bool
is_head_word w = eqb (kind_of w) 1 && not (eqb (bits w 0 14) 0) && not (eqb (bits w 14 12) 0)

-- REFUSAL 2: the stage after a word, from the tests on it: a spare bit, kind 2, stage 0, kind 3, kind 4, stage 1. Stage 2: out of order
abbrev pub stage_by : (spare slot first colour site second : Bool) → ℕ
stage_by p a f b d s = cond p 2 (cond a (cond f 0 2) (cond b 1 (cond d (cond s 1 2) 2)))

abbrev pub stage_after : (stage word : ℕ) → ℕ
stage_after z w = stage_by (has_spare w) (eqb (kind_of w) 2) (eqb z 0) (eqb (kind_of w) 3) (eqb (kind_of w) 4) (eqb z 1)

-- REFUSAL 11: a word of kind 9 without a spare bit, its slot below m
abbrev pub tie_fits : (slots word : ℕ) → Bool
tie_fits m w = eqb (kind_of w) 9 && eqb (bits w 8 20) 0 && ltb (bits w 0 8) m
