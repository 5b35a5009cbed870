-- What a sheet is opened to says of it. Assumes nothing.
use mathlib.Core.Path.{◌≡◌, refl, sym, ap, ◌∙◌}
use mathlib.Core.List.{List}
use Prim.Native.Nat.{ℕ}
use borrow.Author.Tests.{eq-eqb}
use Rattle.std.specs.Prelude.{Ok}
use Rattle.sheet.specs.Sheet.{sheet_in, sheet_fault}
use Rattle.decoding.specs.declared.Numbers.{Numbers}
use Rattle.decoding.specs.Decoding.{numbers_by, sheet_by, SheetRead}
use Rattle.decoding.proofs.Places.{sheet-read}
use Rattle.reader.specs.Read.{read_of, read_post}
use Rattle.reader.specs.Opened.{OpenedSheet, opened_of, sheet_opened}

-- ITS PARTS
module _ (ws : List ℕ) {o : OpenedSheet} (e : o ≡ sheet_opened ws) where
  pub refusal_is : o.refusal ≡ sheet_fault ws
  refusal_is = ap (λ (z : OpenedSheet). z.refusal) e

  -- without a refusal its numbers are the sheet's
  numbers-are : sheet_fault ws ≡ 0 → o.numbers ≡ numbers_by (sheet_in ws)
  numbers-are h = ap (λ (z : OpenedSheet). z.numbers) e ∙ rw (eq-eqb (sheet_fault ws) 0 h) refl

-- OPENED TO NUMBERS: the sheet is accepted, and they are its own
module _ (ws : List ℕ) (d : Numbers) (e : opened_of (Ok d) ≡ sheet_opened ws) where
  pub unrefused : sheet_fault ws ≡ 0
  unrefused = sym (refusal_is ws e)

  pub numbers-of : d ≡ numbers_by (sheet_in ws)
  numbers-of = numbers-are ws e unrefused

  abbrev pub accepted-read : SheetRead d
  accepted-read = record { words = ws; accepted = unrefused; numbers = numbers-of }

  -- the sizes from there are the reader's answer
  pub accepted-sizes : read_of (sheet_by d) ≡ read_post ws
  accepted-sizes = rw (eq-eqb (sheet_fault ws) 0 unrefused) (ap read_of (sheet-read {s = sheet_in ws} numbers-of))
