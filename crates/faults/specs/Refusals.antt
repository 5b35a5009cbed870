-- The number of each refusal, as callers are given it. Definitions.
use Rattle.std.specs.Prelude.{ℕ, Result, Ok, Err}
use Rattle.faults.specs.declared.refusal.Refusal.{Refusal}
use Rattle.faults.specs.declared.refusal.Refusal.TheVariants.{NotASheet, WordOrder, TooMany, SlotOrder, SiteOutside, EqualRanks, TooManyBudgets, WorkArea, AnswerArea, NoLayout, NotALayout, NotWords, BrokenRule, NoStroke, TwoSided}

abbrev pub number_of : Refusal → ℕ
number_of NotASheet = 1
number_of WordOrder = 2
number_of TooMany = 3
number_of SlotOrder = 4
number_of SiteOutside = 5
number_of EqualRanks = 6
number_of TooManyBudgets = 7
number_of WorkArea = 8
number_of AnswerArea = 9
number_of NoLayout = 10
number_of NotALayout = 11
number_of NotWords = 12
number_of BrokenRule = 13
number_of NoStroke = 14
number_of TwoSided = 18

-- the number that an outcome stands for: 0 for none
abbrev pub number_in : {T : Type 0} → Result T Refusal → ℕ
number_in (Ok _) = 0
number_in (Err r) = number_of r

-- an outcome with its refusal's number
abbrev pub numbered : {T : Type 0} → Result T Refusal → Result T ℕ
numbered (Ok x) = Ok x
numbered (Err r) = Err (number_of r)
