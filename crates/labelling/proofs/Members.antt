-- `all`, `is_used` (membership of numbers) and `tied_of` by places; the used slots; the left end.
-- Assumes nothing.
use mathlib.Core.Path.{◌≡◌, refl, sym, ap, subst, subst⁻¹}
use mathlib.Core.Logic.{◌⊎◌, inl, inr}
use mathlib.Core.Bool.{Bool, true, false, false≢true, cond}
use mathlib.Core.List.{List, [], ◌∷◌}
use Prim.Native.Nat.{ℕ, zero, suc, ◌+◌, ◌≤◌, ◌<◌}
use native.Mathlib.Omega.{arith}
use lib.Dec.{ltb, eqb}
use lib.ListN.{length, get_or}
use borrow.Author.Tests.{ltb-true, eqb-true, eq-eqb}
use Rattle.sheet.specs.Sheet.{all, Site, Sheet, rising}
pub use Rattle.labelling.specs.Layout.{no_site}
use Rattle.labelling.specs.Layout.{Tied, tie_at, tied_of, tied, is_used, used_from, lesser, least_x}
use Rattle.lists.proofs.Tests.{by-test, and_l, and_r, and_i, or-e, tests, eqb-self}

-- ALL, by places
module _ {A : Type 0} (f : A → Bool) (d : A) where
  pub all-at : (xs : List A) → all f xs ≡ true → (i : ℕ) → i < length xs → f (get_or xs i d) ≡ true
  unfolding all
  all-at [] h i l = absurd (omega arith)
  all-at (x ∷ xs) h zero l = and_l (f x) (all f xs) h
  all-at (x ∷ xs) h (suc i) l = all-at xs (and_r (f x) (all f xs) h) i (omega arith)

  pub at_all : (xs : List A) → ((i : ℕ) → i < length xs → f (get_or xs i d) ≡ true) → all f xs ≡ true
  unfolding all
  at_all [] h = refl
  at_all (x ∷ xs) h = and_i (h 0 (omega arith)) (at_all xs λ i l. h (suc i) (omega arith))

-- ALL, by members of a list of numbers
pub all-used : (f : ℕ → Bool) (ks : List ℕ) → all f ks ≡ true → (k : ℕ) → is_used k ks ≡ true → f k ≡ true
unfolding all is_used
all-used f [] h k u = absurd (false≢true u)
all-used f (j ∷ ks) h k u = go (or-e (eqb j k) (is_used k ks) u) (all-used f ks (and_r (f j) (all f ks) h) k)
  where
    go : (eqb j k ≡ true) ⊎ (is_used k ks ≡ true) → (is_used k ks ≡ true → f k ≡ true) → f k ≡ true
    go (inl e) ih = subst (λ (n : ℕ). f n ≡ true) (eqb-true j k e) (and_l (f j) (all f ks) h)
    go (inr e) ih = ih e

pub used-tail : (k j : ℕ) (ks : List ℕ) → is_used k ks ≡ true → is_used k (j ∷ ks) ≡ true
unfolding is_used
used-tail k j ks h = by-test (eqb j k) (λ e. rw e) (λ e. rw (e, h))

pub used-head : (j : ℕ) (ks : List ℕ) → is_used j (j ∷ ks) ≡ true
unfolding is_used
used-head j ks = rw (eqb-self j)

pub used_all : (f : ℕ → Bool) (ks : List ℕ) → ((k : ℕ) → is_used k ks ≡ true → f k ≡ true) → all f ks ≡ true
unfolding all
used_all f [] h = refl
used_all f (j ∷ ks) h = and_i (h j (used-head j ks)) (used_all f ks λ k u. h k (used-tail k j ks u))

-- USED, by places
pub used-at : (js : List ℕ) (i : ℕ) → i < length js → is_used (get_or js i 0) js ≡ true
used-at [] i l = absurd (omega arith)
used-at (j ∷ js) zero l = used-head j js
used-at (j ∷ js) (suc i) l = used-tail (get_or js i 0) j js (used-at js i (omega arith))

pub at-used : (k : ℕ) (js : List ℕ) → is_used k js ≡ true → (i : ℕ) × (i < length js) × (get_or js i 0 ≡ k)
unfolding is_used
at-used k [] h = absurd (false≢true h)
at-used k (j ∷ js) h = go (or-e (eqb j k) (is_used k js) h) (at-used k js)
  where
    go : (eqb j k ≡ true) ⊎ (is_used k js ≡ true) → (is_used k js ≡ true → (i : ℕ) × (i < length js) × (get_or js i 0 ≡ k)) →
        (i : ℕ) × (i < suc (length js)) × (get_or (j ∷ js) i 0 ≡ k)
    go (inl e) ih = (0, omega arith, eqb-true j k e)
    go (inr e) ih = let (i, l, q) = ih e in (suc i, omega arith, q)

-- THE USED SLOTS: those of the ties, rising
pub used-from : (k a c : ℕ) (js : List ℕ) → is_used k (used_from a c js) ≡ true → (a ≤ k) × (k < a + c) × (is_used k js ≡ true)
unfolding used_from is_used
used-from k a zero js h = absurd (false≢true h)
used-from k a (suc c) js h = go (is_used a js) refl h (used-from k (suc a) c js)
  where
    later : (suc a ≤ k) × (k < suc a + c) × (is_used k js ≡ true) → (a ≤ k) × (k < a + suc c) × (is_used k js ≡ true)
    later (l, u, h) = (omega arith, omega arith, h)

    go : (t : Bool) → is_used a js ≡ t → is_used k (cond t (a ∷ used_from (suc a) c js) (used_from (suc a) c js)) ≡ true →
        (is_used k (used_from (suc a) c js) ≡ true → (suc a ≤ k) × (k < suc a + c) × (is_used k js ≡ true)) →
        (a ≤ k) × (k < a + suc c) × (is_used k js ≡ true)
    go true e h ih =
        by-test (eqb a k) (λ f. let q : a ≡ k = eqb-true a k f in (omega arith, omega arith, subst (λ (n : ℕ). is_used n js ≡ true) q e))
        λ f. later (ih (rw f at h))
    go false e h ih = later (ih h)

pub from-used : (k a c : ℕ) (js : List ℕ) → a ≤ k → k < a + c → is_used k js ≡ true → is_used k (used_from a c js) ≡ true
unfolding used_from
from-used k a zero js l u h = absurd (omega arith)
from-used k a (suc c) js l u h =
    by-test (eqb a k)
    (λ e. let q : a ≡ k = eqb-true a k e in
    rw (subst (λ (n : ℕ). is_used n js ≡ true) (sym q) h) (subst (λ (n : ℕ). is_used n (a ∷ used_from (suc a) c js) ≡ true) q (used-head a (used_from (suc a) c js))))
    λ e. go (is_used a js) (from-used k (suc a) c js (omega (arith, tests)) (omega arith) h)
  where
    go : (t : Bool) → is_used k (used_from (suc a) c js) ≡ true → is_used k (cond t (a ∷ used_from (suc a) c js) (used_from (suc a) c js)) ≡ true
    go true i = used-tail k a (used_from (suc a) c js) i
    go false i = i

-- a list that rises, by its head
head-rise : (j : ℕ) (ks : List ℕ) → rising (j ∷ ks) ≡ true → (k : ℕ) → is_used k ks ≡ true → j < k
unfolding rising is_used
head-rise j [] h k u = absurd (false≢true u)
head-rise j (i ∷ ks) h k u = go (or-e (eqb i k) (is_used k ks) u) (head-rise i ks (and_r (ltb j i) (rising (i ∷ ks)) h) k)
  where
    go : (eqb i k ≡ true) ⊎ (is_used k ks ≡ true) → (is_used k ks ≡ true → i < k) → j < k
    go (inl e) ih = omega (arith, tests, ltb-true j i (and_l (ltb j i) (rising (i ∷ ks)) h))
    go (inr e) ih = omega (arith, ih e, ltb-true j i (and_l (ltb j i) (rising (i ∷ ks)) h))

tail-rise : (j : ℕ) (ks : List ℕ) → rising (j ∷ ks) ≡ true → rising ks ≡ true
unfolding rising
tail-rise j [] h = refl
tail-rise j (k ∷ ks) h = and_r (ltb j k) (rising (k ∷ ks)) h

-- TIES by places
pub length-tied : (ss : List Site) (js : List ℕ) → length js ≡ length ss → length (tied_of ss js) ≡ length ss
unfolding tied_of
length-tied [] js l = refl
length-tied (s ∷ ss) [] l = absurd (omega arith)
length-tied (s ∷ ss) (j ∷ js) l = ap suc (length-tied ss js (omega arith))

abbrev pub no_tied : Tied
no_tied = record { site = no_site; slot = 0 }

pub tied-at : (ss : List Site) (js : List ℕ) (i : ℕ) → length js ≡ length ss → get_or (tied_of ss js) i no_tied ≡ record { site = get_or ss i no_site; slot = get_or js i 0 }
unfolding tied_of
tied-at [] [] i l = refl
tied-at [] (j ∷ js) i l = absurd (omega arith)
tied-at (s ∷ ss) [] i l = absurd (omega arith)
tied-at (s ∷ ss) (j ∷ js) zero l = refl
tied-at (s ∷ ss) (j ∷ js) (suc i) l = tied-at ss js i (omega arith)

-- a test of each tied site
pub each : (s : Sheet) (js : List ℕ) → length js ≡ length s.sites → (f : Tied → Bool) → all f (tied s js) ≡ true → (i : ℕ) → i < length s.sites → f (tie_at s js i) ≡ true
each s js long f h i l =
    subst (λ (t : Tied). f t ≡ true) (tied-at s.sites js i long) (all-at f no_tied (tied s js) h i (omega (arith, length-tied s.sites js long)))

pub every : (s : Sheet) (js : List ℕ) → length js ≡ length s.sites → (f : Tied → Bool) → ((i : ℕ) → i < length s.sites → f (tie_at s js i) ≡ true) → all f (tied s js) ≡ true
every s js long f h =
    at_all f no_tied (tied s js) λ i l. subst⁻¹ (λ (t : Tied). f t ≡ true) (tied-at s.sites js i long) (h i (omega (arith, length-tied s.sites js long)))

-- THE LEAST X of a slot: at most the width and each of its sites' x; the width, or one of them
pub lesser-le : (a b : ℕ) → (lesser a b ≤ a) × (lesser a b ≤ b)
lesser-le a b = by-test (ltb b a) (λ e. rw e (omega (arith, tests))) (λ e. rw e (omega (arith, tests)))

pub least_x-width : (k w : ℕ) (ts : List Tied) → least_x k w ts ≤ w
unfolding least_x
least_x-width k w [] = omega arith
least_x-width k w (t ∷ ts) =
    by-test (eqb t.slot k) (λ e. rw e (omega (arith, lesser-le t.site.x (least_x k w ts), least_x-width k w ts))) λ e. rw e (least_x-width k w ts)

pub least_x-le : (k w : ℕ) (ss : List Site) (js : List ℕ) (i : ℕ) → length js ≡ length ss → i < length ss → get_or js i 0 ≡ k →
    least_x k w (tied_of ss js) ≤ (get_or ss i no_site).x
unfolding least_x tied_of
least_x-le k w [] js i l u e = absurd (omega arith)
least_x-le k w (s ∷ ss) [] i l u e = absurd (omega arith)
least_x-le k w (s ∷ ss) (j ∷ js) zero l u e = rw (eq-eqb j k e) (lesser-le s.x (least_x k w (tied_of ss js))).0
least_x-le k w (s ∷ ss) (j ∷ js) (suc i) l u e =
    by-test (eqb j k)
    (λ f. rw f (omega (arith, lesser-le s.x (least_x k w (tied_of ss js)), least_x-le k w ss js i (omega arith) (omega arith) e)))
    λ f. rw f (least_x-le k w ss js i (omega arith) (omega arith) e)

pub least_x-is : (k w : ℕ) (ss : List Site) (js : List ℕ) → length js ≡ length ss → least_x k w (tied_of ss js) < w →
    (i : ℕ) × (i < length ss) × (get_or js i 0 ≡ k) × (least_x k w (tied_of ss js) ≡ (get_or ss i no_site).x)
unfolding least_x tied_of
least_x-is k w [] js l h = absurd (omega arith)
least_x-is k w (s ∷ ss) [] l h = absurd (omega arith)
least_x-is k w (s ∷ ss) (j ∷ js) l h = go (eqb j k) refl h (least_x-is k w ss js (omega arith))
  where
    later : {m : ℕ} → ((i : ℕ) × (i < length ss) × (get_or js i 0 ≡ k) × (m ≡ (get_or ss i no_site).x)) →
        (i : ℕ) × (i < suc (length ss)) × (get_or (j ∷ js) i 0 ≡ k) × (m ≡ (get_or (s ∷ ss) i no_site).x)
    later (i, u, e, q) = (suc i, omega arith, e, q)

    go : (t : Bool) → eqb j k ≡ t → cond t (lesser s.x (least_x k w (tied_of ss js))) (least_x k w (tied_of ss js)) < w →
        (least_x k w (tied_of ss js) < w → (i : ℕ) × (i < length ss) × (get_or js i 0 ≡ k) × (least_x k w (tied_of ss js) ≡ (get_or ss i no_site).x)) →
        (i : ℕ) × (i < suc (length ss)) × (get_or (j ∷ js) i 0 ≡ k) × (cond t (lesser s.x (least_x k w (tied_of ss js))) (least_x k w (tied_of ss js)) ≡ (get_or (s ∷ ss) i no_site).x)
    go true e h ih =
        by-test (ltb (least_x k w (tied_of ss js)) s.x) (λ f. rw f (later (ih (rw f at h)))) λ f. rw f (0, omega arith, eqb-true j k e, refl)
    go false e h ih = later (ih h)

-- a list that rises, by places
pub rise-at : (l : List ℕ) → rising l ≡ true → (j k : ℕ) → j < k → k < length l → get_or l j 0 < get_or l k 0
rise-at [] r j k h u = absurd (omega arith)
rise-at (x ∷ l) r j zero h u = absurd (omega arith)
rise-at (x ∷ l) r zero (suc k) h u = head-rise x l r (get_or l k 0) (used-at l k (omega arith))
rise-at (x ∷ l) r (suc j) (suc k) h u = rise-at l (tail-rise x l r) j k (omega arith) (omega arith)
