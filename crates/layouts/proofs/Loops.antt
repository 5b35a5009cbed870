-- Loops over numbers: a test of all, a sum, the least. Assumes nothing.
use mathlib.Core.Path.{◌≡◌, refl, sym, ap, ap₂, ◌∙◌, fun_ext}
use mathlib.Core.Bool.{Bool, true, false, ◌&&◌, ◌||◌, cond}
use mathlib.Core.List.{List, [], ◌∷◌}
use Prim.Native.Nat.{ℕ, zero, suc, ◌+◌, ◌-◌, ◌≤◌, ◌<◌, min}
use native.Mathlib.Numerals.{add-one}
use native.Mathlib.Omega.{arith}
use lib.Dec.{eqb}
use borrow.Author.Tests.{eq-eqb, ne_eqb}
use lib.ListN.{length, get_or}
use Rattle.std.specs.List.{list_all, sum_by, count_by, range_with_len, enumerate_from}
use Rattle.std.proofs.lemmas.List.Sums.{sum_by-cons}
use Rattle.sheet.specs.Limits.{most_share}
use Rattle.sheet.specs.Sheet.{bits}
use Rattle.labelling.specs.Layout.{ties_in, share_by}
use Rattle.labelling.proofs.Distances.{share-le}
use Rattle.lists.proofs.Tests.{and_i, is_false, clash}
use Rattle.labelling.proofs.Counted.{all-before}
use Rattle.labelling.specs.Counted.{all_before, sum_before, is_taken, is_first}
use Rattle.decoding.specs.Decoding.{ColourNumbers, bounds_in}
use Rattle.words.specs.declared.tied.Head.{Head}
use Rattle.layouts.specs.declared.labels.Among.TheVariants.{All}
use Rattle.layouts.specs.Model.{one_if, among_by, Low, least_before, left_on, length_at, most_added}

-- THE FRONT of a test of all, and of a sum
pub all-front : (f : ℕ → Bool) (n : ℕ) → all_before f (suc n) ≡ (f 0 && all_before (λ i. f (suc i)) n)
unfolding all_before
all-front f zero = swap (f 0)
  where
    swap : (b : Bool) → (true && b) ≡ (b && true)
    swap true = refl
    swap false = refl
all-front f (suc n) = ap (λ (b : Bool). b && f (suc n)) (all-front f n) ∙ assoc (f 0) (all_before (λ i. f (suc i)) n) (f (suc n))
  where
    assoc : (a b c : Bool) → (a && b && c) ≡ (a && (b && c))
    assoc true b c = refl
    assoc false b c = refl

sum-front : (f : ℕ → ℕ) (n : ℕ) → sum_before f (suc n) ≡ f 0 + sum_before (λ i. f (suc i)) n
unfolding sum_before
sum-front f zero = omega arith
sum-front f (suc n) = omega (arith, sum-front f n)

-- A CHAIN over a range, and over a list with its places
all-from : (f : ℕ → Bool) (a n : ℕ) → list_all f (range_with_len a n) ≡ all_before (λ i. f (a + i)) n
all-from f a zero = unfold all_before in refl
all-from f a (suc n) =
    ap₂ ◌&&◌ (ap f (let e : a ≡ a + 0 = omega arith in e)) (all-from f (a + 1) n ∙ ap (λ (g : ℕ → Bool). all_before g n) (fun_ext λ i. ap f (let e : a + 1 + i ≡ a + suc i = omega arith in e))) ∙
    sym (all-front (λ i. f (a + i)) n)

-- A LOOP over all from a place on: by what a callee found of the next
module _ (f : ℕ → Bool) (i : ℕ) where
  pub from-none : all_before (λ k. f (i + k)) (i - i) ≡ true
  unfolding all_before
  from-none = let e : i - i ≡ 0 = omega arith in rw e refl

  pub from-more : (j : ℕ) {r : Bool} → i ≤ j → r ≡ f j → r ≡ true → all_before (λ k. f (i + k)) (j - i) ≡ true → all_before (λ k. f (i + k)) (j + 1 - i) ≡ true
  unfolding all_before
  from-more j l e k h =
      let s : j + 1 - i ≡ suc (j - i) = omega arith in
      let q : i + (j - i) ≡ j = omega arith in
      rw s (and_i h (ap f q ∙ sym e ∙ k))

  pub from-stop : (n j : ℕ) {r : Bool} → i ≤ j → j < n → r ≡ f j → r ≡ false → false ≡ all_before (λ k. f (i + k)) (n - i)
  from-stop n j l o e k =
      let q : i + (j - i) ≡ j = omega arith in
      sym (is_false (all_before (λ k. f (i + k)) (n - i)) λ h. clash (all-before (λ k. f (i + k)) (n - i) h (j - i) (omega arith)) (ap f q ∙ sym e ∙ k))

pub all-range : (f : ℕ → Bool) (n : ℕ) → list_all f (range_with_len 0 n) ≡ all_before f n
all-range f n = all-from f 0 n ∙ ap (λ (g : ℕ → Bool). all_before g n) (fun_ext λ i. ap f (let e : 0 + i ≡ i = omega arith in e))

sum-from : (f : ℕ → ℕ) (a n : ℕ) → sum_by f (range_with_len a n) ≡ sum_before (λ i. f (a + i)) n
sum-from f a zero = unfold sum_before in refl
sum-from f a (suc n) =
    sum_by-cons f a (range_with_len (a + 1) n) ∙
    ap₂ ◌+◌ (ap f (let e : a ≡ a + 0 = omega arith in e)) (sum-from f (a + 1) n ∙ ap (λ (g : ℕ → ℕ). sum_before g n) (fun_ext λ i. ap f (let e : a + 1 + i ≡ a + suc i = omega arith in e))) ∙
    sym (sum-front (λ i. f (a + i)) n)

pub count-range : (p : ℕ → Bool) (n : ℕ) → count_by p (range_with_len 0 n) ≡ sum_before (λ i. one_if (p i)) n
count-range p n = sum-from (λ i. one_if (p i)) 0 n ∙ ap (λ (g : ℕ → ℕ). sum_before g n) (fun_ext λ i. ap (λ (k : ℕ). one_if (p k)) (let e : 0 + i ≡ i = omega arith in e))

all-bounds_from : (f : ℕ → ℕ → Bool) (a : ℕ) (ks : List ColourNumbers) →
    list_all (λ (p : ℕ × ColourNumbers). f p.0 p.1.bound) (enumerate_from a ks) ≡ all_before (λ i. f (a + i) (get_or (bounds_in ks) i 0)) (length (bounds_in ks))
unfolding bounds_in
all-bounds_from f a [] = unfold all_before in refl
all-bounds_from f a (k ∷ ks) =
    ap₂ ◌&&◌ (ap (λ (c : ℕ). f c k.bound) (let e : a ≡ a + 0 = omega arith in e)) (all-bounds_from f (a + 1) ks ∙ ap (λ (g : ℕ → Bool). all_before g (length (bounds_in ks))) (fun_ext λ i. ap (λ (c : ℕ). f c (get_or (bounds_in ks) i 0)) (let e : a + 1 + i ≡ a + suc i = omega arith in e))) ∙
    sym (all-front (λ i. f (a + i) (get_or (bounds_in (k ∷ ks)) i 0)) (length (bounds_in ks)))

pub all-bounds : (f : ℕ → ℕ → Bool) (ks : List ColourNumbers) →
    list_all (λ (p : ℕ × ColourNumbers). f p.0 p.1.bound) (enumerate_from 0 ks) ≡ all_before (λ i. f i (get_or (bounds_in ks) i 0)) (length (bounds_in ks))
all-bounds f ks = all-bounds_from f 0 ks ∙ ap (λ (g : ℕ → Bool). all_before g (length (bounds_in ks))) (fun_ext λ i. ap (λ (k : ℕ). f k (get_or (bounds_in ks) i 0)) (let e : 0 + i ≡ i = omega arith in e))

-- A SUM
pub sum-none : (f : ℕ → ℕ) → 0 ≡ sum_before f 0
unfolding sum_before
sum-none f = refl

pub sum_more : (f : ℕ → ℕ) (i n t : ℕ) → n ≡ sum_before f i → t ≡ f i → n + t ≡ sum_before f (i + 1)
unfolding sum_before
sum_more f i n t e q = rw (add-one i, e, q) refl

pub one-le : (b : Bool) → one_if b ≤ 1
one-le true = omega arith
one-le false = omega arith

-- WHETHER A SLOT IS TAKEN
pub taken_none : (p : ℕ → Bool) (js : List ℕ) (k : ℕ) → false ≡ is_taken p js k 0
unfolding is_taken
taken_none p js k = refl

-- by what callees found of the next
pub taken_more : (p : ℕ → Bool) (js : List ℕ) (k i : ℕ) {t q r : Bool} → t ≡ is_taken p js k i → q ≡ p i → r ≡ eqb (get_or js i 0) k → (t || (q && r)) ≡ is_taken p js k (i + 1)
unfolding is_taken
taken_more p js k i e f g = rw (add-one i, e, f, g) refl

-- THE LEAST
-- by what was found at the next
module _ (k w : ℕ) (f g : ℕ → ℕ) (i : ℕ) {l : ℕ} (e : l ≡ least_before k w f g i) where
  pub least-same : {m : ℕ} → f i ≡ k → m ≡ min l (g i) → m ≡ least_before k w f g (i + 1)
  unfolding least_before
  least-same q h = rw (add-one i, eq-eqb (f i) k q) (h ∙ ap (λ (z : ℕ). min z (g i)) e)

  pub least-other : (f i ≡ k → ⊥) → l ≡ least_before k w f g (i + 1)
  unfolding least_before
  least-other n = rw (add-one i, ne_eqb (f i) k n) e

pub least-none : (k w : ℕ) (f g : ℕ → ℕ) → w ≡ least_before k w f g 0
unfolding least_before
least-none k w f g = refl

-- TIES by places
pub ties-at : (ws : List ℕ) (i : ℕ) → get_or (ties_in ws) i 0 ≡ bits (get_or ws i 0) 0 8
unfolding ties_in
ties-at [] i = refl
ties-at (w ∷ ws) zero = refl
ties-at (w ∷ ws) (suc i) = ties-at ws i

-- LENGTHS: what a site adds is low
pub length-le : (h : Head) (hs xs ys cs js : List ℕ) (n : ℕ) → Low h hs ys → (i : ℕ) → length_at h hs xs ys cs js n i ≤ most_added
length-le h hs xs ys cs js n l i =
    omega (arith, l.width, share-le _ _ _ l.charge (l.heights (get_or js i 0)) (l.ys i), cond-le (is_first (among_by All cs) js i) (h.width - left_on h xs js n (get_or js i 0)))
  where
    cond-le : (b : Bool) (n : ℕ) → cond b n 0 ≤ n
    cond-le true n = omega arith
    cond-le false n = omega arith

-- a site's part by the callees' results: its slot k and the slot's height, its share r, whether it is the first of its label
module _ (h : Head) (hs xs ys js : List ℕ) (n i : ℕ) {k a r : ℕ} (ek : k ≡ get_or js i 0) (ea : a ≡ get_or hs k 0) (es : r ≡ share_by h.charge a (get_or ys i 0)) where
  share-is : r ≡ share_by h.charge (get_or hs (get_or js i 0) 0) (get_or ys i 0)
  share-is = es ∙ ap (λ (z : ℕ). share_by h.charge z (get_or ys i 0)) (ea ∙ ap (λ (z : ℕ). get_or hs z 0) ek)

  pub share-low : Low h hs ys → r ≤ most_share
  share-low l = omega (arith, share-is, share-le _ _ _ l.charge (l.heights (get_or js i 0)) (l.ys i))
