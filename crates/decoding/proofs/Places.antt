-- What stands at a place of the arrays: the sheet's number, for every place. Assumes nothing.
use mathlib.Core.Path.{◌≡◌, refl, ap, ◌∙◌}
use mathlib.Core.List.{List, [], ◌∷◌}
use Prim.Native.Nat.{ℕ, zero, suc}
use lib.ListN.{length, get_or}
use Rattle.sheet.specs.Limits.{unbounded, most_slots, most_sites}
use Rattle.sheet.specs.Sheet.{Site, Colour, Sheet}
use Rattle.labelling.specs.Layout.{no_site, no_colour}
use Rattle.decoding.specs.Decoding.{numbers_by, sheet_by, Decoded, bounds_of, xs_of, ys_of, colours_of, xs_in, ys_in, site_colours_in, site_array}
use Rattle.decoding.specs.declared.Numbers.{Numbers}
use Rattle.decoding.proofs.Records.{xs-array, ys-array, site-colours-array, colours-back, sites-back, colour-front, site-front}
use Rattle.lists.specs.Arrays.{padded}
use Rattle.lists.proofs.Arrays.{padded-at, padded-front}

pub bounds-at : (ks : List Colour) (c : ℕ) → get_or (bounds_of ks) c unbounded ≡ (get_or ks c no_colour).bound
unfolding bounds_of
bounds-at [] c = refl
bounds-at (k ∷ ks) zero = refl
bounds-at (k ∷ ks) (suc c) = bounds-at ks c

pub xs-at : (ss : List Site) (i : ℕ) → get_or (xs_of ss) i 0 ≡ (get_or ss i no_site).x
unfolding xs_of
xs-at [] i = refl
xs-at (s ∷ ss) zero = refl
xs-at (s ∷ ss) (suc i) = xs-at ss i

pub ys-at : (ss : List Site) (i : ℕ) → get_or (ys_of ss) i 0 ≡ (get_or ss i no_site).y
unfolding ys_of
ys-at [] i = refl
ys-at (s ∷ ss) zero = refl
ys-at (s ∷ ss) (suc i) = ys-at ss i

pub colours-at : (ss : List Site) (i : ℕ) → get_or (colours_of ss) i 0 ≡ (get_or ss i no_site).colour
unfolding colours_of
colours-at [] i = refl
colours-at (s ∷ ss) zero = refl
colours-at (s ∷ ss) (suc i) = colours-at ss i

-- THE ARRAYS THAT CODE MAKES hold the sheet's numbers
pub decoded : (s : Sheet) (m : ℕ) → Decoded s (padded m s.slots) (xs_in (site_array s.sites)) (ys_in (site_array s.sites)) (site_colours_in (site_array s.sites))
decoded s m =
    rw (xs-array s.sites, ys-array s.sites, site-colours-array s.sites)
    (record {
      heights = padded-at m s.slots;
      xs = λ i. padded-at most_sites (xs_of s.sites) i ∙ xs-at s.sites i;
      ys = λ i. padded-at most_sites (ys_of s.sites) i ∙ ys-at s.sites i;
      colours = λ i. padded-at most_sites (colours_of s.sites) i ∙ colours-at s.sites i;
    })

-- THE SHEET is read back from its numbers
pub sheet-back : (s : Sheet) → sheet_by (numbers_by s) ≡ s
sheet-back s =
    let hs = padded-front most_slots s.slots (length s.slots) refl in
    rw (hs, colour-front s.colours, site-front s.sites, colours-back s.colours, sites-back s.sites) refl

pub sheet-read : {d : Numbers} {s : Sheet} → d ≡ numbers_by s → sheet_by d ≡ s
sheet-read {d} {s} e = ap sheet_by e ∙ sheet-back s
