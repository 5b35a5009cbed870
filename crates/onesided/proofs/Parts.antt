-- The front parts of the arrays that are made of an accepted sheet's numbers: radices, draws, ranks, the order, the sites by rank. Assumes nothing.
use mathlib.Core.Path.{◌≡◌, refl, sym, ap, ap₂, ◌∙◌, subst, subst⁻¹}
use mathlib.Core.List.{List}
use Prim.Native.Nat.{ℕ}
use lib.ListN.{length, take}
use Rattle.sheet.specs.Limits.{most_colours, most_sites}
use Rattle.sheet.specs.Sheet.{Sheet, sheet_in, product_of}
use Rattle.sheet.proofs.Accepted.{Sound, sound}
use Rattle.optimum.specs.OneSided.{order}
use Rattle.optimum.specs.Budgets.{radices_of}
use Rattle.optimum.proofs.optimality.Order.{ordered}
use Rattle.arrays.specs.Arrays.{measures_of, bounds_of, draws_list, xs_of, ys_of, gathered, ranks_by, order_by, radices_by, draws_by}
use Rattle.decoding.specs.declared.Numbers.{Numbers}
use Rattle.decoding.specs.Decoding.{bounds_in, xs_in, ys_in, sheet_by, SheetRead}
use Rattle.decoding.proofs.Places.{sheet-read}
use Rattle.arrays.specs.declared.Measures.{Measures}
use Rattle.onesided.specs.Laying.{RankedSites}
use Rattle.decoding.proofs.Fields.{bounds-long}
use Rattle.decoding.proofs.Fronts.{IsFront, part, kinds-are, sites-are, bounds, xs, ys}
use Rattle.arrays.proofs.Ordered.{ranks-long, order-is, gathered-long, radices-are, radices-long, draws-are, draws-long}
use Rattle.lists.specs.Arrays.{padded}

-- NUMBERS OF AN ACCEPTED SHEET
module _ {d : Numbers} (t : SheetRead d) where
  abbrev s : Sheet
  s = sheet_in t.words

  fine : Sound s
  fine = sound t.words t.accepted

  pub measures-are : {p : ℕ} → p ≡ product_of s.colours → ◌≡◌ {A = Measures} (record { head = d.head; colours = d.kinds; budgets = p }) (measures_of s)
  measures-are e = rw (t.numbers, e) refl

  pub radices : {r : List ℕ} → r ≡ padded most_colours (radices_by (take d.kinds (bounds_in d.colour_list))) → IsFront r d.kinds (radices_of s.colours)
  radices {r} g =
      part most_colours (radices_of s.colours) r d.kinds (g ∙ ap (λ (l : List ℕ). padded most_colours (radices_by l)) (bounds t).0 ∙ ap (padded most_colours) (radices-are s.colours))
      (kinds-are t ∙ sym (bounds-long s.colours) ∙ sym (radices-long (bounds_of s.colours)) ∙ ap length (radices-are s.colours))

  pub draws : {r : List ℕ} → r ≡ padded most_colours (draws_by 1 (take d.kinds (bounds_in d.colour_list))) → IsFront r d.kinds (draws_list s)
  draws {r} g =
      part most_colours (draws_list s) r d.kinds (g ∙ ap (λ (l : List ℕ). padded most_colours (draws_by 1 l)) (bounds t).0 ∙ ap (padded most_colours) (draws-are s))
      (kinds-are t ∙ sym (bounds-long s.colours) ∙ sym (draws-long 1 (bounds_of s.colours)) ∙ ap length (draws-are s))

  pub ranks : {r : List ℕ} → r ≡ padded most_sites (ranks_by (take d.sites (xs_in d.site_list)) (take d.sites (ys_in d.site_list))) → IsFront r d.sites (ranks_by (xs_of s.sites) (ys_of s.sites))
  ranks {r} g =
      part most_sites (ranks_by (xs_of s.sites) (ys_of s.sites)) r d.sites (g ∙ ap₂ (λ (x y : List ℕ). padded most_sites (ranks_by x y)) (xs t).0 (ys t).0) (sites-are t ∙ sym (ranks-long s))

  pub orders : (b r : List ℕ) → take d.sites b ≡ ranks_by (xs_of s.sites) (ys_of s.sites) → r ≡ padded most_sites (order_by (take d.sites b) (length (take d.sites b)) 0) → IsFront r d.sites (order s)
  orders b r e g =
      part most_sites (order s) r d.sites (g ∙ ap (λ (l : List ℕ). padded most_sites (order_by l (length l) 0)) e ∙ ap (padded most_sites) (order-is s)) (sites-are t ∙ sym (ordered s fine).long)

  -- numbers of the sites by rank
  pub ranked : (l b q r : List ℕ) → take d.sites b ≡ l → take d.sites q ≡ order s → r ≡ padded most_sites (gathered (take d.sites b) (take d.sites q)) → IsFront r d.sites (gathered l (order s))
  ranked l b q r e f g =
      part most_sites (gathered l (order s)) r d.sites (g ∙ ap₂ (λ (x y : List ℕ). padded most_sites (gathered x y)) e f)
      (sites-are t ∙ sym (ordered s fine).long ∙ sym (gathered-long l (order s)))

  -- both from the calls before: b has the ranks, q the order
  module _ {b q : List ℕ} (x : b ≡ padded most_sites (ranks_by (take d.sites (xs_in d.site_list)) (take d.sites (ys_in d.site_list))))
      (y : q ≡ padded most_sites (order_by (take d.sites b) (length (take d.sites b)) 0)) where
    pub order-by : IsFront q d.sites (order s)
    order-by = orders b q (ranks x).0 y

    pub ranked-by : (a : List ℕ) {l r : List ℕ} → IsFront a d.sites l → r ≡ padded most_sites (gathered (take d.sites a) (take d.sites q))
        → IsFront r d.sites (gathered l (order s))
    ranked-by a {l} {r} f z = ranked l a q r f.0 order-by.0 z

  -- the sheet of the numbers is that of the words
  sheet-is : sheet_by d ≡ s
  sheet-is = sheet-read t.numbers

  pub by-words : {us vs cs os : List ℕ} → RankedSites (sheet_by d) us vs cs os → RankedSites s us vs cs os
  by-words {us} {vs} {cs} {os} r = subst (λ (z : Sheet). RankedSites z us vs cs os) sheet-is r

  pub by-numbers : {us vs cs os : List ℕ} → RankedSites s us vs cs os → RankedSites (sheet_by d) us vs cs os
  by-numbers {us} {vs} {cs} {os} r = subst⁻¹ (λ (z : Sheet). RankedSites z us vs cs os) sheet-is r
