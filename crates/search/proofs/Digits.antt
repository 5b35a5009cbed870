-- Digits of a budget in mixed radix, radices of 1 among them: the number that has 1 at a digit, drawing one from a digit, and the
-- greatest number of so many digits.
use mathlib.Core.Path.{◌≡◌, refl, sym, ap, ◌∙◌}
use mathlib.Core.Logic.{◌≢◌}
use mathlib.Core.Bool.{true}
use mathlib.Core.List.{List, [], ◌∷◌}
use Prim.Native.Nat.{ℕ, zero, suc, ◌+◌, ◌-◌, ◌*◌, ◌/◌, ◌%◌, ◌<◌}
use native.Mathlib.Nat.{mod-lt, zero-mod, zero-div, mod-eq_of_lt, div-eq_of_lt, div-lt_iff_lt-mul, add-zero}
use native.Mathlib.Omega.{arith}
use lib.Arith.{digits_div, digits_mod}
use lib.ListN.{length, get_or}
use borrow.Author.Tests.{le-leb}
use Rattle.lists.proofs.Tests.{and-of}
use Rattle.search.specs.Radix.{below, digit_of, place}
use Rattle.search.proofs.Radix.{digit-sub, below-splits}

-- every radix is 1 at least
unfoldable pub Positive : List ℕ → Type 0
Positive [] = Unit
Positive (r ∷ rs) = (0 < r) × Positive rs

-- ---- one digit

digit-zero : (rs : List ℕ) (c : ℕ) → digit_of rs c 0 ≡ 0
unfolding digit_of
digit-zero [] c = refl
digit-zero (r ∷ rs) zero = zero-mod r
digit-zero (r ∷ rs) (suc c) = rw (zero-div r) (digit-zero rs c)

-- a digit that is not 0 has a radix of 2 at least
pub digit-wide : (rs : List ℕ) (c v : ℕ) → Positive rs → 0 < digit_of rs c v → 1 < get_or rs c 1
unfolding digit_of Positive
digit-wide [] c v w h = absurd (omega arith)
digit-wide (r ∷ rs) zero v w h = omega (arith, mod-lt v w.0)
digit-wide (r ∷ rs) (suc c) v w h = digit-wide rs c (v / r) w.1 h

-- ---- the number that has 1 at a digit

mul-mod : (q r : ℕ) → 0 < r → (q * r) % r ≡ 0
mul-mod q r h = ap (λ (z : ℕ). z % r) (sym (add-zero (q * r))) ∙ digits_mod q h

mul-div : (q r : ℕ) → 0 < r → (q * r) / r ≡ q
mul-div q r h = ap (λ (z : ℕ). z / r) (sym (add-zero (q * r))) ∙ digits_div q h

pub place_same : (rs : List ℕ) (c : ℕ) → Positive rs → 1 < get_or rs c 1 → digit_of rs c (place rs c) ≡ 1
unfolding digit_of place Positive
place_same [] c w h = absurd (omega arith)
place_same (r ∷ rs) zero w h = mod-eq_of_lt h
place_same (r ∷ rs) (suc c) w h = rw (mul-div (place rs c) r w.0) (place_same rs c w.1 h)

pub place_other : (rs : List ℕ) (c d : ℕ) → Positive rs → 1 < get_or rs c 1 → d ≢ c → digit_of rs d (place rs c) ≡ 0
unfolding digit_of place Positive
place_other [] c d w h n = refl
place_other (r ∷ rs) zero zero w h n = absurd (n refl)
place_other (r ∷ rs) zero (suc d) w h n = rw (div-eq_of_lt h) (digit-zero rs d)
place_other (r ∷ rs) (suc c) zero w h n = mul-mod (place rs c) r w.0
place_other (r ∷ rs) (suc c) (suc d) w h n = rw (mul-div (place rs c) r w.0) (place_other rs c d w.1 h (λ (e : d ≡ c). n (ap suc e)))

pub place-below : (rs : List ℕ) (c v : ℕ) → Positive rs → 1 < get_or rs c 1 → 0 < digit_of rs c v → below rs (place rs c) v ≡ true
unfolding digit_of place Positive below
place-below [] c v w h p = absurd (omega arith)
place-below (r ∷ rs) zero v w h p =
    rw (mod-eq_of_lt h, div-eq_of_lt h, le-leb 1 (v % r) p) ((below-splits rs).nothing (v / r))
place-below (r ∷ rs) (suc c) v w h p =
    rw (mul-mod (place rs c) r w.0, mul-div (place rs c) r w.0, le-leb 0 (v % r) (omega arith)) (place-below rs c (v / r) w.1 h p)

-- ONE IS DRAWN from a digit that is not 0: it may be taken, that digit falls by one, the others stay
pub record Drawn (rs : List ℕ) (c v : ℕ) : Type 0 where
  pub taken : below rs (place rs c) v ≡ true
  pub same : digit_of rs c (v - place rs c) ≡ digit_of rs c v - 1
  pub other : (d : ℕ) → d ≢ c → digit_of rs d (v - place rs c) ≡ digit_of rs d v

pub drawn : (rs : List ℕ) (c v : ℕ) → Positive rs → 0 < digit_of rs c v → Drawn rs c v
drawn rs c v w h =
    let u = digit-wide rs c v w h in
    let b = place-below rs c v w u h in
    record {
      taken = b;
      same = digit-sub rs c (place rs c) v b ∙ ap (λ (z : ℕ). digit_of rs c v - z) (place_same rs c w u);
      other = λ d n. digit-sub rs d (place rs c) v b ∙ ap (λ (z : ℕ). digit_of rs d v - z) (place_other rs c d w u n) ∙ omega arith;
    }

-- ---- the greatest number has the greatest digits

unfoldable pub product : List ℕ → ℕ
product [] = 1
product (r ∷ rs) = r * product rs

-- r * q less one, where both are positive
full : (r q : ℕ) → 0 < r → 0 < q → (0 < r * q) × ((r * q - 1) % r + 1 ≡ r) × ((r * q - 1) / r ≡ q - 1)
full r q hr hq =
    let e : q ≡ suc (q - 1) = omega arith in
    let f : r * q ≡ r * suc (q - 1) = ap (λ (z : ℕ). r * z) e in
    let s : r * q - 1 ≡ (q - 1) * r + (r - 1) = omega arith in
    let l : r - 1 < r = omega arith in
    (omega arith, ap (λ (z : ℕ). z % r + 1) s ∙ ap (λ (z : ℕ). z + 1) (digits_mod (q - 1) l) ∙ omega arith, ap (λ (z : ℕ). z / r) s ∙ digits_div (q - 1) l)

pub product-pos : (rs : List ℕ) → Positive rs → 0 < product rs
unfolding product Positive
product-pos [] w = omega arith
product-pos (r ∷ rs) w = (full r (product rs) w.0 (product-pos rs w.1)).0

pub digit-full : (rs : List ℕ) (c : ℕ) → Positive rs → c < length rs → digit_of rs c (product rs - 1) + 1 ≡ get_or rs c 1
unfolding product Positive digit_of
digit-full [] c w h = absurd (omega arith)
digit-full (r ∷ rs) zero w h = (full r (product rs) w.0 (product-pos rs w.1)).1
digit-full (r ∷ rs) (suc c) w h = rw (full r (product rs) w.0 (product-pos rs w.1)).2 (digit-full rs c w.1 (omega arith))

-- every budget may be taken from the greatest
pub below-full : (rs : List ℕ) → Positive rs → (v : ℕ) → v < product rs → below rs v (product rs - 1) ≡ true
unfolding product Positive below
below-full [] w v h = le-leb v 0 (omega arith)
below-full (r ∷ rs) w v h =
    let f = full r (product rs) w.0 (product-pos rs w.1) in
    let d : v % r < r = mod-lt v w.0 in
    let q : v / r < product rs = (div-lt_iff_lt-mul w.0).1 (omega arith) in
    and-of _ _ (le-leb (v % r) ((r * product rs - 1) % r) (omega arith)) (rw f.2 (below-full rs w.1 (v / r) q))
