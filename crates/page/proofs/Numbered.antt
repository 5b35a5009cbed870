-- The lines of a sheet's numbers and a layout of it that were read. Assumes nothing.
use mathlib.Core.Path.{◌≡◌, refl, ◌∙◌, ap, ap₂}
use mathlib.Core.List.{List}
use Prim.Native.Nat.{ℕ, ◌<◌}
use native.Mathlib.Omega.{arith}
use lib.ListN.{length, get_or}
use Rattle.sheet.specs.Limits.{top_word, number_top}
use Rattle.sheet.specs.Sheet.{bits, Sheet}
use Rattle.labelling.specs.Layout.{height_of, count_of, ties_in, layout_ties, stated_count, stated_length}
use Rattle.labelling.specs.Lawful.{RuleSix}
use Rattle.decoding.specs.Decoding.{sheet_by, LayoutRead}
use Rattle.decoding.specs.declared.Numbers.{Numbers}
use Rattle.words.specs.declared.tied.Head.{Head}
use Rattle.layouts.proofs.Fitting.{low_read}
use Rattle.layouts.proofs.Read.{decoded-read, sites_long, sites-few}
use Rattle.judge.specs.Opened.{SitesRead}
use Rattle.sizes.specs.Pages.{bytes_for}
use Rattle.page_lines.specs.Lines.{site_line, total_line}
use Rattle.page.specs.Page.{site_line_of, last_line_of}

module _ {d : Numbers} {ls : List ℕ} (p : LayoutRead d ls) where
  abbrev s : Sheet
  s = sheet_by d

  abbrev js : List ℕ
  js = layout_ties ls

  -- A SITE'S LINE, on the sites that were opened
  module _ {h : Head} {hs us vs cs ts : List ℕ} (o : SitesRead d ls h hs us vs cs ts) (i : ℕ) {slot height : ℕ} (f : slot ≡ get_or (ties_in ts) i 0) (g : height ≡ get_or hs slot 0) where
    pub site-line-is : site_line i slot height (get_or vs i 0) ≡ site_line_of s js i
    site-line-is =
        let k : slot ≡ get_or js i 0 = f ∙ ap (λ (l : List ℕ). get_or (ties_in l) i 0) o.ties in
        let q : height ≡ height_of s (get_or js i 0) = g ∙ ap (λ (l : List ℕ). get_or l slot 0) o.heights ∙ (decoded-read p).heights slot ∙ ap (height_of s) k in
        rw (q, k, ap (λ (l : List ℕ). get_or l i 0) o.ys ∙ (decoded-read p).ys i) refl

    pub site-line-low : (height < number_top) × (get_or vs i 0 < number_top)
    site-line-low = (omega (arith, g ∙ ap (λ (l : List ℕ). get_or l slot 0) o.heights, (low_read p).heights slot), omega (arith, ap (λ (l : List ℕ). get_or l i 0) o.ys, (low_read p).ys i))

  -- HOW MANY BYTES, by the labels that the layout states
  pub size_fits : (c : ℕ) → c ≡ bits (get_or ls 0 0) 21 7 → (c < top_word) × (d.sites < top_word)
  size_fits c e = (omega arith, omega (arith, sites-few p))

  pub size_is : (c r : ℕ) → RuleSix s ls → c ≡ stated_count ls → r ≡ bytes_for c d.sites → r ≡ bytes_for (count_of s js) (length s.sites)
  size_is c r six e q = q ∙ ap₂ bytes_for (e ∙ six.0) (sites_long p)

  -- THE LAST LINE, by what the layout states
  pub last-line-is : (c l : ℕ) → RuleSix s ls → c ≡ stated_count ls → l ≡ stated_length ls → total_line c l ≡ last_line_of s js
  last-line-is c l six e f = ap₂ total_line (e ∙ six.0) (f ∙ six.1)
