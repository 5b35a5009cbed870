-- The numbers of a sheet's colours: how large they are, and P by the bounds. Assumes nothing.
use mathlib.Core.Path.{◌≡◌, refl, ap}
use mathlib.Core.List.{List, [], ◌∷◌}
use Prim.Native.Nat.{ℕ, zero, suc, ◌*◌, ◌/◌, ◌≤◌, ◌<◌}
use native.Mathlib.Nat.{mod-lt}
use native.Mathlib.Omega.{arith}
use lib.Dec.{eqb}
use lib.ListN.{get_or}
use Rattle.lists.proofs.Tests.{by-test}
use Rattle.sheet.specs.Limits.{byte_top}
use Rattle.sheet.specs.Sheet.{kind_of, bits, Colour, sites_run, colours_in, product_of}
use Rattle.sheet.specs.Words.{count_kind}
use Rattle.sheet.proofs.Counts.{run-le}
use Rattle.sizes.specs.Budgets.{radix_by, product_by}
use Rattle.decoding.specs.Decoding.{bounds_of, site_counts_of}

pub product-are : (ks : List Colour) → product_by (bounds_of ks) ≡ product_of ks
unfolding product_by bounds_of product_of
product-are [] = refl
product-are (k ∷ ks) = ap (λ (n : ℕ). radix_by k.bound * n) (product-are ks)

-- a bound is a byte
pub bounds-low : (ws : List ℕ) (i : ℕ) → get_or (bounds_of (colours_in ws)) i 0 < byte_top
unfolding bounds_of colours_in
bounds-low [] i = omega arith
bounds-low (w ∷ ws) i = by-test (eqb (kind_of w) 3) (λ e. rw e (first (λ j. bounds-low ws j) i)) (λ e. rw e (bounds-low ws i))
  where
    first : ((j : ℕ) → get_or (bounds_of (colours_in ws)) j 0 < byte_top) → (i : ℕ) → get_or (bits w 0 8 ∷ bounds_of (colours_in ws)) i 0 < byte_top
    first r zero = mod-lt (w / 1) (omega arith)
    first r (suc i) = r i

-- a colour has no more sites than the sheet
pub site-counts-low : (ws : List ℕ) (i : ℕ) → get_or (site_counts_of (colours_in ws)) i 0 ≤ count_kind 4 ws
unfolding site_counts_of colours_in count_kind
site-counts-low [] i = omega arith
site-counts-low (w ∷ ws) i = by-test (eqb (kind_of w) 3) (λ e. rw e (first (λ j. site-counts-low ws j) i)) (λ e. rw e (omega (arith, site-counts-low ws i)))
  where
    first : ((j : ℕ) → get_or (site_counts_of (colours_in ws)) j 0 ≤ count_kind 4 ws) → (i : ℕ) → get_or (sites_run ws ∷ site_counts_of (colours_in ws)) i 0 ≤ count_kind 4 (w ∷ ws)
    first r zero = omega (arith, run-le ws)
    first r (suc i) = omega (arith, r i)
