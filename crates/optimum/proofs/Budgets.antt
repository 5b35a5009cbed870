-- Laws of a sheet's budgets: its radices are positive, their product is P, and the full budget's digits are the bounds.
use mathlib.Core.Path.{◌≡◌, refl, ap}
use mathlib.Core.Bool.{true, false}
use mathlib.Core.List.{List, [], ◌∷◌}
use Prim.Native.Nat.{ℕ, zero, suc, ◌+◌, ◌<◌}
use native.Mathlib.Omega.{arith}
use lib.Dec.{eqb}
use lib.ListN.{length, get_or, get_or-eq_default}
use borrow.Author.Tests.{eqb-false}
use Rattle.lists.proofs.Tests.{by-test, by_order}
use Rattle.search.specs.Radix.{place}
use Rattle.search.proofs.Digits.{Positive, product, product-pos, digit-full, Drawn, drawn}
use Rattle.sheet.specs.Limits.{unbounded}
use Rattle.sheet.specs.Sheet.{Colour, Sheet, product_of}
use Rattle.labelling.specs.Layout.{no_colour}
use Rattle.optimum.specs.Budgets.{bound_of, is_unbounded, radix_of, radices_of, digit_in, draws_of, full_budget}

-- ---- radices

pub positive : (ks : List Colour) → Positive (radices_of ks)
unfolding Positive radices_of
positive [] = tt
positive (k ∷ ks) = (by-test (eqb k.bound unbounded) (λ e. rw e (omega arith)) (λ e. rw e (omega arith)), positive ks)

pub radix-at : (ks : List Colour) (c : ℕ) → get_or (radices_of ks) c 1 ≡ radix_of (get_or ks c no_colour)
unfolding radices_of
radix-at [] c = refl
radix-at (k ∷ ks) zero = refl
radix-at (k ∷ ks) (suc c) = radix-at ks c

pub radices-long : (ks : List Colour) → length (radices_of ks) ≡ length ks
unfolding radices_of
radices-long [] = refl
radices-long (k ∷ ks) = ap suc (radices-long ks)

pub product_is : (ks : List Colour) → product_of ks ≡ product (radices_of ks)
unfolding radices_of product_of product
product_is [] = refl
product_is (k ∷ ks) = rw (product_is ks) (by-test (eqb k.bound unbounded) (λ e. rw e) (λ e. rw e))

pub full-low : (s : Sheet) → full_budget s < product_of s.colours
full-low s = rw (product_is s.colours) (omega (arith, product-pos _ (positive s.colours)))

-- ---- a colour's bound

pub bounded-low : (s : Sheet) (c : ℕ) → is_unbounded s c ≡ false → c < length s.colours
bounded-low s c u =
    by_order (length s.colours) c
    (λ h. absurd (eqb-false (bound_of s c) unbounded u (ap (λ (k : Colour). k.bound) (get_or-eq_default s.colours no_colour h))))
    (λ h. h)

-- THE FULL BUDGET's digits are the bounds
pub full-digit : (s : Sheet) (c : ℕ) → is_unbounded s c ≡ false → digit_in s c (full_budget s) ≡ bound_of s c
full-digit s c u =
    let h = bounded-low s c u in
    let q : get_or (radices_of s.colours) c 1 ≡ bound_of s c + 1 = rw u at (radix-at s.colours c) in
    let f = digit-full (radices_of s.colours) c (positive s.colours) (omega (arith, radices-long s.colours)) in
    rw (product_is s.colours) (omega arith)

-- ---- what a label draws

pub draws-none : (s : Sheet) (c : ℕ) → is_unbounded s c ≡ true → draws_of s c ≡ 0
unfolding draws_of
draws-none s c e = rw e

pub draws-one : (s : Sheet) (c : ℕ) → is_unbounded s c ≡ false → draws_of s c ≡ place (radices_of s.colours) c
unfolding draws_of
draws-one s c e = rw e

pub draws : (s : Sheet) (c v : ℕ) → 0 < digit_in s c v → Drawn (radices_of s.colours) c v
draws s c v h = drawn (radices_of s.colours) c v (positive s.colours) h
