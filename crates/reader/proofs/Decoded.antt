-- The sizes of an accepted sheet by its numbers. Assumes nothing.
use mathlib.Core.Path.{◌≡◌, sym, ap, ◌∙◌}
use mathlib.Core.List.{List}
use Prim.Native.Nat.{ℕ, ◌≤◌}
use native.Mathlib.Omega.{arith}
use lib.ListN.{take}
use Rattle.sheet.specs.Limits.{most_budgets}
use Rattle.sheet.specs.Sheet.{Sheet, sheet_in, work_for}
use Rattle.sizes.specs.Budgets.{product_by}
use Rattle.sizes.specs.Work.{work_of}
use Rattle.decoding.specs.declared.Numbers.{Numbers}
use Rattle.decoding.specs.Decoding.{bounds_in, colours_by, sheet_by, SheetRead}
use Rattle.decoding.proofs.Fronts.{slots-are, kinds-are, sites-are, bounds-fit, product_is}
use Rattle.decoding.proofs.Places.{sheet-read}
use Rattle.reader.specs.declared.ColourSize.{ColourSize}
use Rattle.reader.specs.declared.Sizes.{Sizes}
use Rattle.reader.specs.Read.{eight_of, read_of}

module _ {d : Numbers} (r : SheetRead d) (p : ℕ) (q : p ≡ product_by (take d.kinds (bounds_in d.colour_list))) where
  abbrev s : Sheet
  s = sheet_in r.words

  pub few-budgets : p ≤ most_budgets
  few-budgets = omega (arith, q, (bounds-fit r).2)

  module _ (w : ℕ) (u : w ≡ work_of d.head.twosided d.slots d.kinds d.sites p)
      (ks : List ColourSize) (v : ks ≡ eight_of (colours_by (take d.kinds d.colour_list))) where
    work-is : w ≡ work_for s
    work-is = u ∙ (λ i. work_of (r.numbers i).head.twosided (slots-are r i) (kinds-are r i) (sites-are r i) ((q ∙ product_is r) i))

    colours-are : ks ≡ eight_of s.colours
    colours-are = v ∙ ap (λ (z : Sheet). eight_of z.colours) (sheet-read {s = s} r.numbers)

    sizes-of : ◌≡◌ {A = Sizes} (record { refusal = 0; n = d.sites; m = d.slots; c = d.kinds; p = p; work = w; colours = ks }) (read_of s)
    sizes-of = λ i. record { refusal = 0; n = sites-are r i; m = slots-are r i; c = kinds-are r i; p = (q ∙ product_is r) i; work = work-is i; colours = colours-are i }

    pub sizes-are : ◌≡◌ {A = Sizes} (record { refusal = 0; n = d.sites; m = d.slots; c = d.kinds; p = p; work = w; colours = ks }) (read_of (sheet_by d))
    sizes-are = sizes-of ∙ sym (ap read_of (sheet-read {s = s} r.numbers))
