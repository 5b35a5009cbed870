-- What a sheet is opened to. Assumes nothing: these are definitions.
use Rattle.std.specs.Prelude.{cond, List, ℕ, Result, Ok, Err, eqb}
use Rattle.sheet.specs.Sheet.{sheet_in, sheet_fault}
use Rattle.faults.specs.declared.refusal.Refusal.{Refusal}
use Rattle.faults.specs.Refusals.{number_of}
use Rattle.decoding.specs.declared.Numbers.{Numbers}
use Rattle.decoding.specs.Decoding.{numbers_by, no_numbers}

-- a refusal, or 0, and numbers
pub record OpenedSheet : Type 0 where
  pub refusal : ℕ
  pub numbers : Numbers

-- THE OPENED SHEET: the reader's refusal, or 0, and the numbers, zeros beside a refusal
abbrev pub sheet_opened : (words : List ℕ) → OpenedSheet
sheet_opened ws = record { refusal = sheet_fault ws; numbers = cond (eqb (sheet_fault ws) 0) (numbers_by (sheet_in ws)) no_numbers }

-- as code gives it: the numbers or a refusal
abbrev pub opened_of : Result Numbers Refusal → OpenedSheet
opened_of (Ok d) = record { refusal = 0; numbers = d }
opened_of (Err r) = record { refusal = number_of r; numbers = no_numbers }
