-- The eight colours, filled from the front with bounds and counts of sites. Assumes nothing.
use mathlib.Core.Path.{◌≡◌, refl, ap, ◌∙◌}
use mathlib.Core.List.{List, [], ◌∷◌, ◌++◌}
use Prim.Native.Nat.{ℕ, zero, suc, ◌+◌, ◌-◌, ◌<◌, ◌≤◌}
use native.Mathlib.Omega.{arith}
use native.Mathlib.Numerals.{add-one}
use lib.Seq.{drop-cons}
use lib.ListN.{length, get_or, drop, replicate, drop_of_length-le}
use Rattle.lists.proofs.Grown.{Grown, grown-end}
use Rattle.sheet.specs.Limits.{most_colours}
use Rattle.sheet.specs.Sheet.{Colour}
use Rattle.decoding.specs.Decoding.{ColourNumbers, no_colour_numbers, colours_by}
use Rattle.reader.specs.declared.ColourSize.{ColourSize}
use Rattle.reader.specs.Read.{absent, sizes_of, eight_of}

-- the sizes from a colour on
abbrev pub sizes_from : List ColourNumbers → (c : ℕ) → List ColourSize
sizes_from ks c = sizes_of (colours_by (drop c ks))

pub sizes-at : (ks : List ColourNumbers) (c : ℕ) → c < length ks → sizes_from ks c ≡ record { bound = (get_or ks c no_colour_numbers).bound; sites = (get_or ks c no_colour_numbers).sites } ∷ sizes_from ks (c + 1)
unfolding sizes_of colours_by
sizes-at ks c h = rw (add-one c, drop-cons ks c no_colour_numbers h) refl

sizes-long : (ks : List Colour) → length (sizes_of ks) ≡ length ks
unfolding sizes_of
sizes-long [] = refl
sizes-long (k ∷ ks) = ap suc (sizes-long ks)

drop-same : (n k : ℕ) (a : ColourSize) → drop k (replicate n a) ≡ replicate (n - k) a
drop-same n zero a = let e : n ≡ n - 0 = omega arith in ap (λ (z : ℕ). replicate z a) e
drop-same zero (suc k) a = let e : 0 ≡ 0 - suc k = omega arith in ap (λ (z : ℕ). replicate z a) e
drop-same (suc n) (suc k) a = let e : n - k ≡ suc n - suc k = omega arith in drop-same n k a ∙ ap (λ (z : ℕ). replicate z a) e

pub eight_are : (ks : List ColourNumbers) (out : List ColourSize) (c : ℕ) → length ks ≤ c → Grown (replicate most_colours absent) out (sizes_from ks 0) (sizes_from ks c) c → out ≡ eight_of (colours_by ks)
unfolding sizes_of colours_by
eight_are ks out c h g =
    grown-end _ out _ _ c (rw (drop_of_length-le ks h) refl) g
    ∙ ap (λ (l : List ColourSize). sizes_of (colours_by ks) ++ l)
    (drop-same most_colours (length (sizes_of (colours_by ks))) absent ∙ ap (λ (z : ℕ). replicate (most_colours - z) absent) (sizes-long (colours_by ks)))
