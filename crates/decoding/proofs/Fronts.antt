-- The numbers of an accepted sheet: few enough, and the front parts of their arrays are the sheet's lists, as long as they are said to
-- be. Assumes nothing.
use mathlib.Core.Path.{◌≡◌, sym, ap, ◌∙◌}
use mathlib.Core.List.{List}
use Prim.Native.Nat.{ℕ, ◌≤◌, ◌<◌}
use native.Mathlib.Omega.{arith}
use lib.ListN.{length, get_or, take, length-take}
use Rattle.lists.specs.Arrays.{padded}
use Rattle.lists.proofs.Arrays.{padded-front}
use Rattle.sheet.specs.Limits.{most_slots, most_colours, most_sites, most_budgets, byte_top}
use Rattle.sheet.specs.Sheet.{Sheet, body_of, sheet_in, product_of}
use Rattle.sheet.proofs.Accepted.{Sound, sound}
use Rattle.sizes.specs.Budgets.{product_by}
use Rattle.decoding.specs.declared.Numbers.{Numbers}
use Rattle.decoding.specs.Decoding.{numbers_by, bounds_of, site_counts_of, xs_of, ys_of, colours_of, bounds_in, site_counts_in, xs_in, ys_in, site_colours_in, SheetRead}
use Rattle.decoding.proofs.Budgets.{product-are, bounds-low, site-counts-low}
use Rattle.decoding.proofs.Fields.{bounds-long, site-counts-long, xs-long, ys-long, colours-long}
use Rattle.decoding.proofs.Records.{bounds-array, site-counts-array, xs-array, ys-array, site-colours-array}
use Rattle.decoding.proofs.Fits.{sites-fit}
use Rattle.decoding.proofs.Places.{sheet-read}

-- an array has the list at its front, in so many places
abbrev pub IsFront : (array : List ℕ) → (size : ℕ) → List ℕ → Type 0
IsFront r k l = (take k r ≡ l) × (k ≡ length (take k r))

-- of what is padded
pub part : (n : ℕ) (l r : List ℕ) (k : ℕ) → r ≡ padded n l → k ≡ length l → IsFront r k l
part n l r k e h = let f : take k r ≡ l = ap (take k) e ∙ padded-front n l k h in (f, h ∙ sym (ap length f))

-- a part that is as long as asked stands in its array
pub stands : (k : ℕ) (r : List ℕ) → k ≡ length (take k r) → k ≤ length r
stands k r h = omega (arith, h, length-take k r)

module _ {d : Numbers} (r : SheetRead d) where
  abbrev s : Sheet
  s = sheet_in r.words

  fine : Sound s
  fine = sound r.words r.accepted

  pub slots-are : d.slots ≡ length s.slots
  slots-are = ap (λ (z : Numbers). z.slots) r.numbers

  pub kinds-are : d.kinds ≡ length s.colours
  kinds-are = ap (λ (z : Numbers). z.kinds) r.numbers

  pub sites-are : d.sites ≡ length s.sites
  sites-are = ap (λ (z : Numbers). z.sites) r.numbers

  pub few : (d.slots ≤ most_slots) × (d.kinds ≤ most_colours) × (d.sites ≤ most_sites)
  few = (omega (arith, slots-are, fine.few-slots), omega (arith, kinds-are, fine.few-colours), omega (arith, sites-are, fine.few-sites))

  -- THE ARRAYS
  pub heights : IsFront d.heights d.slots s.slots
  heights = part most_slots s.slots d.heights d.slots (ap (λ (z : Numbers). z.heights) r.numbers) slots-are

  pub bounds : IsFront (bounds_in d.colour_list) d.kinds (bounds_of s.colours)
  bounds = part most_colours (bounds_of s.colours) (bounds_in d.colour_list) d.kinds (ap (λ (z : Numbers). bounds_in z.colour_list) r.numbers ∙ bounds-array s.colours) (kinds-are ∙ sym (bounds-long s.colours))

  pub counts : IsFront (site_counts_in d.colour_list) d.kinds (site_counts_of s.colours)
  counts = part most_colours (site_counts_of s.colours) (site_counts_in d.colour_list) d.kinds (ap (λ (z : Numbers). site_counts_in z.colour_list) r.numbers ∙ site-counts-array s.colours) (kinds-are ∙ sym (site-counts-long s.colours))

  pub xs : IsFront (xs_in d.site_list) d.sites (xs_of s.sites)
  xs = part most_sites (xs_of s.sites) (xs_in d.site_list) d.sites (ap (λ (z : Numbers). xs_in z.site_list) r.numbers ∙ xs-array s.sites) (sites-are ∙ sym (xs-long s.sites))

  pub ys : IsFront (ys_in d.site_list) d.sites (ys_of s.sites)
  ys = part most_sites (ys_of s.sites) (ys_in d.site_list) d.sites (ap (λ (z : Numbers). ys_in z.site_list) r.numbers ∙ ys-array s.sites) (sites-are ∙ sym (ys-long s.sites))

  pub colours : IsFront (site_colours_in d.site_list) d.sites (colours_of s.sites)
  colours = part most_sites (colours_of s.sites) (site_colours_in d.site_list) d.sites (ap (λ (z : Numbers). site_colours_in z.site_list) r.numbers ∙ site-colours-array s.sites) (sites-are ∙ sym (colours-long s.sites))

  -- what is asked of the bounds and of the counts of sites
  pub bounds-fit : (length (take d.kinds (bounds_in d.colour_list)) ≤ most_colours) × ((i : ℕ) → get_or (take d.kinds (bounds_in d.colour_list)) i 0 < byte_top) × (product_by (take d.kinds (bounds_in d.colour_list)) ≤ most_budgets)
  bounds-fit =
      rw bounds.0 (omega (arith, bounds-long s.colours, fine.few-colours), bounds-low (body_of r.words), omega (arith, product-are s.colours, fine.product))

  pub counts-fit : (length (take d.kinds (site_counts_in d.colour_list)) ≡ length (take d.kinds (bounds_in d.colour_list))) × ((i : ℕ) → get_or (take d.kinds (site_counts_in d.colour_list)) i 0 < byte_top)
  counts-fit = (sym counts.1 ∙ bounds.1, λ i. rw counts.0 (omega (arith, site-counts-low (body_of r.words) i, sites-fit r.words r.accepted)))

  pub product_is : product_by (take d.kinds (bounds_in d.colour_list)) ≡ product_of s.colours
  product_is = ap product_by bounds.0 ∙ product-are s.colours

  -- THE SHEET is that of any words that have these numbers
  pub same-sheet : (ws : List ℕ) → d ≡ numbers_by (sheet_in ws) → s ≡ sheet_in ws
  same-sheet ws e = sym (sheet-read r.numbers) ∙ sheet-read e
