-- The numbers of a sheet and a layout of it that were read: the sheet that they are read back to, and the left ends on it. Assumes nothing.
use mathlib.Core.Path.{◌≡◌, sym, ◌∙◌, ap, subst⁻¹}
use mathlib.Core.List.{List}
use Prim.Native.Nat.{ℕ, ◌≤◌}
use lib.ListN.{length}
use Rattle.sheet.specs.Limits.{most_slots, most_sites}
use Rattle.sheet.specs.Sheet.{Sheet, sheet_in}
use Rattle.labelling.specs.Layout.{left_end, ties_in, layout_body, layout_ties}
use Rattle.labelling.proofs.Words.{length-ties_in}
use Rattle.decoding.specs.Decoding.{numbers_by, sheet_by, Decoded, LayoutRead, site_colours_in, xs_in, ys_in}
use Rattle.decoding.specs.declared.Numbers.{Numbers}
use Rattle.decoding.proofs.Fronts.{few}
use Rattle.decoding.proofs.Places.{decoded, sheet-back, sheet-read}
use Rattle.layouts.specs.Model.{left_on}
use Rattle.layouts.proofs.Fitting.{long}
use Rattle.layouts.proofs.RulesKept.{left_is}

module _ {d : Numbers} {ls : List ℕ} (p : LayoutRead d ls) where
  -- the sheet that the numbers are read back to
  abbrev s : Sheet
  s = sheet_by d

  pub sheet-is : s ≡ sheet_in p.read.words
  sheet-is = sheet-read p.read.numbers

  -- ITS NUMBERS stand in the arrays
  pub decoded-read : Decoded s d.heights (xs_in d.site_list) (ys_in d.site_list) (site_colours_in d.site_list)
  decoded-read =
      let t : Sheet = sheet_in p.read.words in
      subst⁻¹ (λ (z : Numbers). Decoded (sheet_by z) z.heights (xs_in z.site_list) (ys_in z.site_list) (site_colours_in z.site_list)) p.read.numbers
      (subst⁻¹ (λ (z : Sheet). Decoded z (numbers_by t).heights (xs_in (numbers_by t).site_list) (ys_in (numbers_by t).site_list) (site_colours_in (numbers_by t).site_list)) (sheet-back t) (decoded t most_slots))

  pub slots-long : d.slots ≡ length s.slots
  slots-long = ap (λ (z : Numbers). z.slots) p.read.numbers ∙ sym (ap (λ (z : Sheet). length z.slots) sheet-is)

  pub sites_long : d.sites ≡ length s.sites
  sites_long = ap (λ (z : Numbers). z.sites) p.read.numbers ∙ sym (ap (λ (z : Sheet). length z.sites) sheet-is)

  -- one tie a site
  pub body-long : length (layout_body ls) ≡ length s.sites
  body-long = long p.read.words ls p.read.accepted p.form ∙ sym (ap (λ (z : Sheet). length z.sites) sheet-is)

  pub ties-long : length (layout_ties ls) ≡ length s.sites
  ties-long = length-ties_in (layout_body ls) ∙ body-long

  -- THE LEFT END, as code finds it
  pub left-read : (ts : List ℕ) (k : ℕ) → ts ≡ layout_body ls → left_on d.head (xs_in d.site_list) (ties_in ts) (length ts) k ≡ left_end s (layout_ties ls) k
  left-read ts k e = rw (e, body-long) (left_is s d.heights (xs_in d.site_list) (ys_in d.site_list) (site_colours_in d.site_list) decoded-read (layout_ties ls) ties-long k)

  pub sites-few : d.sites ≤ most_sites
  sites-few = (few p.read).2
