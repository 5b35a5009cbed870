-- Laws of budgets in mixed radix: the digits' order is a way to split; a digit of what is left.
use mathlib.Core.Path.{◌≡◌, refl, ap, ◌∙◌}
use mathlib.Core.Bool.{true}
use mathlib.Core.List.{List, [], ◌∷◌}
use Prim.Native.Nat.{ℕ, zero, suc, ◌+◌, ◌-◌, ◌*◌, ◌/◌, ◌%◌, ◌≤◌, ◌<◌}
use native.Mathlib.Nat.{div-add-mod', mul-le-mul_right, mod-lt, mod-zero, div-zero, zero-mod, zero-div, zero-lt-suc}
use native.Mathlib.Omega.{arith}
use lib.Dec.{leb}
use lib.Arith.{digits_div, digits_mod}
use borrow.Author.Tests.{leb-true, le-leb}
use Rattle.lists.proofs.Tests.{and_both, and-of}
use Rattle.search.specs.Split.{Splitting}
use Rattle.search.specs.Radix.{below, digit_of}

-- the digits, one by one
digit : (r : ℕ) (rs : List ℕ) (w v : ℕ) → below (r ∷ rs) w v ≡ true → (w % r ≤ v % r) × (below rs (w / r) (v / r) ≡ true)
unfolding below
digit r rs w v h = let b = and_both (leb (w % r) (v % r)) (below rs (w / r) (v / r)) h in (leb-true _ _ b.0, b.1)

of-digit : (r : ℕ) (rs : List ℕ) (w v : ℕ) → w % r ≤ v % r → below rs (w / r) (v / r) ≡ true → below (r ∷ rs) w v ≡ true
unfolding below
of-digit r rs w v h k = and-of _ _ (le-leb _ _ h) k

fits : (rs : List ℕ) (w v : ℕ) → below rs w v ≡ true → w ≤ v
unfolding below
fits [] w v h = leb-true w v h
fits (r ∷ rs) w v h =
    let d = digit r rs w v h in
    omega (arith, div-add-mod' w r, div-add-mod' v r, mul-le-mul_right r (fits rs (w / r) (v / r) d.1))

-- where the digits of w are at most v's, those of v - w are the differences
minus : (r w v : ℕ) → w % r ≤ v % r → w / r ≤ v / r → ((v - w) % r ≡ v % r - w % r) × ((v - w) / r ≡ v / r - w / r)
minus zero w v h k = (simp mod-zero, simp div-zero (omega arith))
minus (suc r) w v h k =
    let q = v / suc r - w / suc r in
    let d = v % suc r - w % suc r in
    let split : v - w ≡ q * suc r + d = apart (suc r) w v h k in
    let small : d < suc r = omega (arith, mod-lt v (zero-lt-suc r)) in
    (ap (λ (z : ℕ). z % suc r) split ∙ digits_mod q small, ap (λ (z : ℕ). z / suc r) split ∙ digits_div q small)
  where
    apart : (r w v : ℕ) → w % r ≤ v % r → w / r ≤ v / r → v - w ≡ (v / r - w / r) * r + (v % r - w % r)
    apart r w v h k =
        let q = v / r - w / r in
        let e : v / r ≡ w / r + q = omega arith in
        omega (arith, div-add-mod' w r, div-add-mod' v r, ap (λ (z : ℕ). z * r) e)

nothing : (rs : List ℕ) (v : ℕ) → below rs 0 v ≡ true
unfolding below
nothing [] v = le-leb 0 v (omega arith)
nothing (r ∷ rs) v = of-digit r rs 0 v (simp zero-mod (omega arith)) (simp zero-div (nothing rs (v / r)))

other : (rs : List ℕ) (w v : ℕ) → below rs w v ≡ true → below rs (v - w) v ≡ true
unfolding below
other [] w v h = le-leb (v - w) v (omega arith)
other (r ∷ rs) w v h =
    let d = digit r rs w v h in
    let m = minus r w v d.0 (fits rs (w / r) (v / r) d.1) in
    of-digit r rs (v - w) v (rw m.0 (omega arith)) (rw m.1 (other rs (w / r) (v / r) d.1))

trans : (rs : List ℕ) (a w v : ℕ) → below rs a w ≡ true → below rs w v ≡ true → below rs a v ≡ true
unfolding below
trans [] a w v h k = le-leb a v (omega (arith, leb-true a w h, leb-true w v k))
trans (r ∷ rs) a w v h k =
    let d = digit r rs a w h in
    let e = digit r rs w v k in
    of-digit r rs a v (omega arith) (trans rs (a / r) (w / r) (v / r) d.1 e.1)

less : (rs : List ℕ) (a w v : ℕ) → below rs a w ≡ true → below rs w v ≡ true → below rs (w - a) (v - a) ≡ true
unfolding below
less [] a w v h k = le-leb (w - a) (v - a) (omega (arith, leb-true a w h, leb-true w v k))
less (r ∷ rs) a w v h k =
    let d = digit r rs a w h in
    let e = digit r rs w v k in
    let f = digit r rs a v (trans (r ∷ rs) a w v h k) in
    let m = minus r a w d.0 (fits rs (a / r) (w / r) d.1) in
    let n = minus r a v f.0 (fits rs (a / r) (v / r) f.1) in
    of-digit r rs (w - a) (v - a) (rw (m.0, n.0) (omega arith)) (rw (m.1, n.1) (less rs (a / r) (w / r) (v / r) d.1 e.1))

-- the digits' order is a way to split
pub below-splits : (rs : List ℕ) → Splitting (below rs)
below-splits rs = record {
  fits = fits rs;
  nothing = nothing rs;
  other = other rs;
  trans = trans rs;
  less = less rs;
}

-- ---- one digit of a budget

pub digit-le : (rs : List ℕ) (c w v : ℕ) → below rs w v ≡ true → digit_of rs c w ≤ digit_of rs c v
unfolding digit_of
digit-le [] c w v h = omega arith
digit-le (r ∷ rs) zero w v h = (digit r rs w v h).0
digit-le (r ∷ rs) (suc c) w v h = digit-le rs c (w / r) (v / r) (digit r rs w v h).1

pub digit-sub : (rs : List ℕ) (c w v : ℕ) → below rs w v ≡ true → digit_of rs c (v - w) ≡ digit_of rs c v - digit_of rs c w
unfolding digit_of
digit-sub [] c w v h = refl
digit-sub (r ∷ rs) zero w v h = let d = digit r rs w v h in (minus r w v d.0 (fits rs (w / r) (v / r) d.1)).0
digit-sub (r ∷ rs) (suc c) w v h =
    let d = digit r rs w v h in
    let m = minus r w v d.0 (fits rs (w / r) (v / r) d.1) in
    rw m.1 (digit-sub rs c (w / r) (v / r) d.1)
