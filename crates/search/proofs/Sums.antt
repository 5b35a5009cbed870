-- Laws of plain sums, tallies and listings.
use mathlib.Core.Path.{◌≡◌, refl, ap, ap₂, ◌∙◌}
use mathlib.Core.Bool.{cond}
use mathlib.Core.List.{List, ◌∷◌}
use Prim.Native.Nat.{ℕ, zero, suc, ◌+◌, ◌≤◌, ◌<◌}
use native.Mathlib.Omega.{arith}
use lib.Dec.{eqb}
use lib.ListN.{length, get_or}
use borrow.Author.Tests.{eq-eqb, ne_eqb}
use Rattle.lists.proofs.Tests.{by_order, by_equal}
use Rattle.search.specs.Sums.{listing, sum}

-- ---- plain sums

pub sum-cong : (n : ℕ) (f g : ℕ → ℕ) → ((k : ℕ) → k < n → f k ≡ g k) → sum n f ≡ sum n g
unfolding sum
sum-cong zero f g h = refl
sum-cong (suc n) f g h = ap₂ ◌+◌ (sum-cong n f g (λ k l. h k (omega arith))) (h n (omega arith))

pub sum-add : (n : ℕ) (f g : ℕ → ℕ) → sum n (λ k. f k + g k) ≡ sum n f + sum n g
unfolding sum
sum-add zero f g = omega arith
sum-add (suc n) f g = omega (arith, sum-add n f g)

pub sum-zero : (n : ℕ) → sum n (λ k. 0) ≡ 0
unfolding sum
sum-zero zero = refl
sum-zero (suc n) = omega (arith, sum-zero n)

sum-none : (n j a : ℕ) → n ≤ j → sum n (λ k. cond (eqb k j) a 0) ≡ 0
unfolding sum
sum-none zero j a h = refl
sum-none (suc n) j a h = rw (ne_eqb n j (λ (e : n ≡ j). omega arith)) (omega (arith, sum-none n j a (omega arith)))

pub sum-point : (n j a : ℕ) → j < n → sum n (λ k. cond (eqb k j) a 0) ≡ a
unfolding sum
sum-point zero j a h = absurd (omega arith)
sum-point (suc n) j a h =
    by_equal n j
    (λ e. rw (eq-eqb n j e) (omega (arith, sum-none n j a (omega arith))))
    (λ e. rw (ne_eqb n j e) (omega (arith, sum-point n j a (omega arith))))

pub sum-front : (n : ℕ) (f : ℕ → ℕ) → sum (suc n) f ≡ f 0 + sum n (λ k. f (suc k))
unfolding sum
sum-front zero f = omega arith
sum-front (suc n) f = omega (arith, sum-front n f)

pub sum_ones : (n : ℕ) → sum n (λ i. 1) ≡ n
unfolding sum
sum_ones zero = refl
sum_ones (suc n) = omega (arith, sum_ones n)

-- a sum that is not 0 has a part that is not
pub sum-pos : (n : ℕ) (f : ℕ → ℕ) → 0 < sum n f → (k : ℕ) × (k < n) × (0 < f k)
unfolding sum
sum-pos zero f h = absurd (omega arith)
sum-pos (suc n) f h =
    by_order 1 (f n) (λ l. (n, omega arith, l)) (λ l. let (k, u, p) = sum-pos n f (omega arith) in (k, omega arith, p))

-- ---- listings
pub listing-at : (f : ℕ → ℕ) (k c i : ℕ) → i < c → get_or (listing f k c) i 0 ≡ f (k + i)
unfolding listing
listing-at f k zero i h = absurd (omega arith)
listing-at f k (suc c) zero h = ap f (omega arith)
listing-at f k (suc c) (suc i) h = listing-at f (suc k) c i (omega arith) ∙ ap f (omega arith)

pub listing-first : (f : ℕ → ℕ) (c i : ℕ) → i < c → get_or (listing f 0 c) i 0 ≡ f i
listing-first f c i h = listing-at f 0 c i h ∙ ap f (omega arith)

pub listing-past : (f : ℕ → ℕ) (k c i : ℕ) → c ≤ i → get_or (listing f k c) i 0 ≡ 0
unfolding listing
listing-past f k zero i h = refl
listing-past f k (suc c) zero h = absurd (omega arith)
listing-past f k (suc c) (suc i) h = listing-past f (suc k) c i (omega arith)

pub length-listing : (f : ℕ → ℕ) (k c : ℕ) → length (listing f k c) ≡ c
unfolding listing
length-listing f k zero = refl
length-listing f k (suc c) = ap suc (length-listing f (suc k) c)

pub listing-same : (f g : ℕ → ℕ) (k c : ℕ) → ((j : ℕ) → k ≤ j → j < k + c → f j ≡ g j) → listing f k c ≡ listing g k c
unfolding listing
listing-same f g k zero h = refl
listing-same f g k (suc c) h =
    ap₂ (λ (a : ℕ) (b : List ℕ). a ∷ b) (h k (omega arith) (omega arith)) (listing-same f g (suc k) c (λ j l u. h j (omega arith) (omega arith)))
