-- What is laid out. Assumes nothing: these are definitions.
use Rattle.std.specs.Prelude.{◌≡◌, List, ℕ}
use Rattle.sheet.specs.Sheet.{sheet_in, sheet_fault, work_for}
use Rattle.sheet.specs.Binding.{binding_only}
use Rattle.labelling.specs.Promise.{TakesSheet}
use Rattle.decoding.specs.declared.Numbers.{Numbers}
use Rattle.decoding.specs.Decoding.{numbers_by, SheetRead}

-- an accepted one-sided sheet by its numbers and the number of work words, its areas long enough; the words are there for the contract alone
pub record Taken (d : Numbers) (needed : ℕ) (work out : List ℕ) : Type 0 where
  pub read : SheetRead d
  pub takes : TakesSheet read.words work out
  pub words-needed : needed ≡ work_for (sheet_in read.words)

-- of every accepted sheet that has the numbers d: without the bounds that can't bind it has the numbers e
abbrev pub BindingAlone : (d e : Numbers) → Type 0
BindingAlone d e = (ws : List ℕ) → sheet_fault ws ≡ 0 → d ≡ numbers_by (sheet_in ws) → e ≡ numbers_by (sheet_in (binding_only ws))
