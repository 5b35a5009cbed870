-- The slots by rising x determine the ties, where the sites' x differ.
-- Assumes nothing.
use mathlib.Core.Path.{◌≡◌, refl, ap₂, subst}
use mathlib.Core.Logic.{◌⊎◌, inl, inr}
use mathlib.Core.Bool.{Bool, true, false, ◌&&◌, ◌||◌, not, false≢true, cond}
use mathlib.Core.List.{List, [], ◌∷◌}
use Prim.Native.Nat.{ℕ, zero, suc, ◌+◌, ◌≤◌, ◌<◌}
use native.Mathlib.Omega.{arith}
use lib.Dec.{ltb, leb, eqb}
use lib.ListN.{length}
use borrow.Author.Tests.{ltb-true, ltb-false, eqb-true, lt-ltb, le-leb, lt-leb}
use Rattle.sheet.specs.Sheet.{Site, Sheet, rank_of, rank_top, has_rank, ranks_differ}
use Rattle.labelling.specs.Layout.{tied_of, next_rank, slot_at, by_rank, slots_by_rank}
use Rattle.lists.proofs.Tests.{clash, by-test, and_l, and_r, and_i, or-e, is_false, not_f, tests, eqb-self}

-- how many sites lie at a or right of it
unfoldable pub from : ℕ → List Site → ℕ
from a [] = 0
from a (s ∷ ss) = cond (leb a (rank_of s)) 1 0 + from a ss

pub from_all : (a : ℕ) (ss : List Site) → from a ss ≤ length ss
unfolding from
from_all a [] = omega arith
from_all a (s ∷ ss) = go (leb a (rank_of s)) (from_all a ss)
  where
    go : (t : Bool) → from a ss ≤ length ss → cond t 1 0 + from a ss ≤ suc (length ss)
    go true h = omega arith
    go false h = omega arith

one-le : (a b x : ℕ) → a ≤ b → cond (leb b x) 1 0 ≤ cond (leb a x) 1 0
one-le a b x h = by-test (leb b x) (λ e. rw (e, le-leb a x (omega (arith, tests))) (omega arith)) (λ e. rw e (omega arith))

from-falls : (a b : ℕ) (ss : List Site) → a ≤ b → from b ss ≤ from a ss
unfolding from
from-falls a b [] h = omega arith
from-falls a b (s ∷ ss) h = omega (arith, one-le a b (rank_of s) h, from-falls a b ss h)

-- a site at x, and not left of a: fewer lie right of x
pub from_less : (a x : ℕ) (ss : List Site) → a ≤ x → has_rank x ss ≡ true → from (x + 1) ss < from a ss
unfolding from has_rank
from_less a x [] h e = absurd (false≢true e)
from_less a x (s ∷ ss) h e = go (from_less a x ss h) (or-e (eqb (rank_of s) x) (has_rank x ss) e)
  where
    go : (has_rank x ss ≡ true → from (x + 1) ss < from a ss) → (eqb (rank_of s) x ≡ true) ⊎ (has_rank x ss ≡ true) → from (x + 1) (s ∷ ss) < from a (s ∷ ss)
    go ih (inl p) =
        let q : rank_of s ≡ x = eqb-true (rank_of s) x p in
        rw (lt-leb (x + 1) (rank_of s) (omega arith), le-leb a (rank_of s) (omega arith)) (omega (arith, from-falls a (x + 1) ss (omega arith)))
    go ih (inr p) = omega (arith, one-le a (x + 1) (rank_of s) (omega arith), ih p)

-- the next x: at most b and at most each x from a on; b, or one of them. Of sites alone
unfoldable pub next_of : (after best : ℕ) → List Site → ℕ
next_of a b [] = b
next_of a b (s ∷ ss) = cond (ltb a (rank_of s + 1) && ltb (rank_of s) b) (next_of a (rank_of s) ss) (next_of a b ss)

pub next-sites : (a b : ℕ) (ss : List Site) (js : List ℕ) → length js ≡ length ss → next_rank a b (tied_of ss js) ≡ next_of a b ss
unfolding next_rank tied_of next_of
next-sites a b [] js l = refl
next-sites a b (s ∷ ss) [] l = absurd (omega arith)
next-sites a b (s ∷ ss) (j ∷ js) l = rw (next-sites a (rank_of s) ss js (omega arith), next-sites a b ss js (omega arith))

pub next_le : (a b : ℕ) (ss : List Site) → next_of a b ss ≤ b
unfolding next_of
next_le a b [] = omega arith
next_le a b (s ∷ ss) =
    by-test (ltb a (rank_of s + 1) && ltb (rank_of s) b)
    (λ e. rw e (omega (arith, next_le a (rank_of s) ss, ltb-true (rank_of s) b (and_r (ltb a (rank_of s + 1)) (ltb (rank_of s) b) e))))
    (λ e. rw e (next_le a b ss))

pub next-least : (a b : ℕ) (ss : List Site) (x : ℕ) → has_rank x ss ≡ true → a ≤ x → next_of a b ss ≤ x
unfolding next_of has_rank
next-least a b [] x h k = absurd (false≢true h)
next-least a b (s ∷ ss) x h k =
    go (or-e (eqb (rank_of s) x) (has_rank x ss) h) (ltb a (rank_of s + 1) && ltb (rank_of s) b) refl (λ c p. next-least a c ss x p k)
  where
    go : (eqb (rank_of s) x ≡ true) ⊎ (has_rank x ss ≡ true) → (t : Bool) → (ltb a (rank_of s + 1) && ltb (rank_of s) b) ≡ t →
        ((c : ℕ) → has_rank x ss ≡ true → next_of a c ss ≤ x) → cond t (next_of a (rank_of s) ss) (next_of a b ss) ≤ x
    go (inl p) true e ih = omega (arith, next_le a (rank_of s) ss, eqb-true (rank_of s) x p)
    go (inl p) false e ih =
        let q : rank_of s ≡ x = eqb-true (rank_of s) x p in
        by-test (ltb (rank_of s) b) (λ f. clash (and_i (lt-ltb a (rank_of s + 1) (omega arith)) f) e) λ f. omega (arith, next_le a b ss, ltb-false (rank_of s) b f)
    go (inr p) true e ih = ih (rank_of s) p
    go (inr p) false e ih = ih b p

pub next-found : (a b : ℕ) (ss : List Site) → next_of a b ss < b → (has_rank (next_of a b ss) ss ≡ true) × (a ≤ next_of a b ss)
unfolding next_of has_rank
next-found a b [] h = absurd (omega arith)
next-found a b (s ∷ ss) h =
    go (ltb a (rank_of s + 1) && ltb (rank_of s) b) refl h (next-found a (rank_of s) ss) (next-found a b ss)
  where
    found : (m : ℕ) → a ≤ rank_of s → m ≤ rank_of s → (m < rank_of s → (has_rank m ss ≡ true) × (a ≤ m)) → ((eqb (rank_of s) m || has_rank m ss) ≡ true) × (a ≤ m)
    found m l h ih =
        by-test (eqb (rank_of s) m) (λ e. (rw e, omega (arith, tests)))
        λ e. let i : (has_rank m ss ≡ true) × (a ≤ m) = ih (omega (arith, tests)) in (rw (e, i.0), i.1)

    skip : (m : ℕ) → (has_rank m ss ≡ true) × (a ≤ m) → ((eqb (rank_of s) m || has_rank m ss) ≡ true) × (a ≤ m)
    skip m i = by-test (eqb (rank_of s) m) (λ e. (rw e, i.1)) λ e. (rw (e, i.0), i.1)

    go : (t : Bool) → (ltb a (rank_of s + 1) && ltb (rank_of s) b) ≡ t → cond t (next_of a (rank_of s) ss) (next_of a b ss) < b →
        (next_of a (rank_of s) ss < rank_of s → (has_rank (next_of a (rank_of s) ss) ss ≡ true) × (a ≤ next_of a (rank_of s) ss)) →
        (next_of a b ss < b → (has_rank (next_of a b ss) ss ≡ true) × (a ≤ next_of a b ss)) →
        ((eqb (rank_of s) (cond t (next_of a (rank_of s) ss) (next_of a b ss)) || has_rank (cond t (next_of a (rank_of s) ss) (next_of a b ss)) ss) ≡ true) ×
        (a ≤ cond t (next_of a (rank_of s) ss) (next_of a b ss))
    go true e h i j =
        let l : a < rank_of s + 1 = ltb-true a (rank_of s + 1) (and_l (ltb a (rank_of s + 1)) (ltb (rank_of s) b) e) in
        found (next_of a (rank_of s) ss) (omega arith) (next_le a (rank_of s) ss) i
    go false e h i j = skip (next_of a b ss) (j h)

-- equal lists by x: equal slots at each x
pub slot_same : (n a : ℕ) (ss : List Site) (js ks : List ℕ) (x : ℕ) → length js ≡ length ss → length ks ≡ length ss → from a ss ≤ n →
    has_rank x ss ≡ true → a ≤ x → x < rank_top → by_rank n a (tied_of ss js) ≡ by_rank n a (tied_of ss ks) → slot_at x (tied_of ss js) ≡ slot_at x (tied_of ss ks)
unfolding by_rank
slot_same zero a ss js ks x l k f h u w e = absurd (omega (arith, from_less a x ss u h))
slot_same (suc n) a ss js ks x l k f h u w e =
    let y : ℕ = next_of a rank_top ss in
    let q : (slot_at y (tied_of ss js) ∷ by_rank n (y + 1) (tied_of ss js)) ≡ (slot_at y (tied_of ss ks) ∷ by_rank n (y + 1) (tied_of ss ks)) =
    rw (next-sites a rank_top ss js l, next-sites a rank_top ss ks k) at e in
    let head : slot_at y (tied_of ss js) ≡ slot_at y (tied_of ss ks) = cc in
    let tail : by_rank n (y + 1) (tied_of ss js) ≡ by_rank n (y + 1) (tied_of ss ks) = cc in
    let z : y ≤ x = next-least a rank_top ss x h u in
    let g : (has_rank y ss ≡ true) × (a ≤ y) = next-found a rank_top ss (omega arith) in
    by-test (eqb y x) (λ t. subst (λ (v : ℕ). slot_at v (tied_of ss js) ≡ slot_at v (tied_of ss ks)) (eqb-true y x t) head)
    λ t. slot_same n (y + 1) ss js ks x l k (omega (arith, from_less a y ss g.1 g.0)) h (omega (arith, tests)) w tail

-- and equal slots at each x: equal ties
pub ties-same : (ss : List Site) (js ks : List ℕ) → length js ≡ length ss → length ks ≡ length ss → ranks_differ ss ≡ true →
    ((x : ℕ) → has_rank x ss ≡ true → slot_at x (tied_of ss js) ≡ slot_at x (tied_of ss ks)) → js ≡ ks
unfolding slot_at tied_of ranks_differ has_rank
ties-same [] [] [] l k d f = refl
ties-same [] [] (j ∷ js) l k d f = absurd (omega arith)
ties-same [] (j ∷ js) ks l k d f = absurd (omega arith)
ties-same (s ∷ ss) [] ks l k d f = absurd (omega arith)
ties-same (s ∷ ss) (j ∷ js) [] l k d f = absurd (omega arith)
ties-same (s ∷ ss) (j ∷ js) (i ∷ ks) l k d f =
    ap₂ (λ (a : ℕ) (b : List ℕ). a ∷ b) (simp (eqb-self (rank_of s)) at (f (rank_of s) (rw (eqb-self (rank_of s)))))
    (ties-same ss js ks (omega arith) (omega arith) (and_r (not (has_rank (rank_of s) ss)) (ranks_differ ss) d) (λ x h. later x h (f x (has x h))))
  where
    fresh : has_rank (rank_of s) ss ≡ false
    fresh = not_f (has_rank (rank_of s) ss) (and_l (not (has_rank (rank_of s) ss)) (ranks_differ ss) d)

    has : (x : ℕ) → has_rank x ss ≡ true → (eqb (rank_of s) x || has_rank x ss) ≡ true
    has x h = by-test (eqb (rank_of s) x) (λ e. rw e) (λ e. rw (e, h))

    other : (x : ℕ) → has_rank x ss ≡ true → eqb (rank_of s) x ≡ false
    other x h = is_false (eqb (rank_of s) x) λ e. clash h (rw (eqb-true (rank_of s) x e) at fresh)

    later : (x : ℕ) → has_rank x ss ≡ true → slot_at x (tied_of (s ∷ ss) (j ∷ js)) ≡ slot_at x (tied_of (s ∷ ss) (i ∷ ks)) →
        slot_at x (tied_of ss js) ≡ slot_at x (tied_of ss ks)
    later x h e = rw (other x h) at e

-- THE TIES by their slots by x
pub by_rank-same : (s : Sheet) (js ks : List ℕ) → length js ≡ length s.sites → length ks ≡ length s.sites → ranks_differ s.sites ≡ true →
    ((x : ℕ) → has_rank x s.sites ≡ true → x < rank_top) → slots_by_rank s js ≡ slots_by_rank s ks → js ≡ ks
by_rank-same s js ks l k d w e =
    ties-same s.sites js ks l k d λ x h.
    slot_same (length s.sites) 0 s.sites js ks x l k (from_all 0 s.sites) h (omega arith) (w x h) e
