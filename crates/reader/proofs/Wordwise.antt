-- Refusals 4, 5 and 6: the tests on the lists of a sheet's parts are those made word by word. Assumes nothing.
use mathlib.Core.Path.{◌≡◌, refl, sym, ap, ◌∙◌}
use mathlib.Core.Bool.{Bool, true, false, ◌&&◌, ◌||◌, not, cond}
use mathlib.Core.List.{List, [], ◌∷◌}
use Prim.Native.Nat.{ℕ, suc, ◌+◌, ◌-◌}
use native.Mathlib.Omega.{arith}
use lib.Dec.{eqb, leb, ltb}
use borrow.Author.Tests.{ltb-true, ltb-false, le-leb, lt-leb}
use Rattle.lists.proofs.Tests.{by-test, clash}
use Rattle.sheet.specs.Sheet.{all, kind_of, bits, Site, site_in, slots_in, sites_in, rising, inside_by, has_rank, ranks_differ}
use Rattle.sheet.specs.Words.{rank_in}
use Rattle.sheet.proofs.Counts.{colour-no-site}
use Rattle.refusals.specs.Wordwise.{rises_from, all_inside, some_ranked, all_new}

-- rising: over heights first, with the least height that may come
rises_in : (low : ℕ) → List ℕ → Bool
rises_in l [] = true
rises_in l (x ∷ xs) = leb l x && rises_in (x + 1) xs

below : (x y : ℕ) → leb (x + 1) y ≡ ltb x y
below x y = by-test (ltb x y) (λ e. rw e (le-leb (x + 1) y (omega (arith, ltb-true x y e)))) (λ e. rw e (lt-leb (x + 1) y (omega (arith, ltb-false x y e))))

rising-in : (x : ℕ) (xs : List ℕ) → rising (x ∷ xs) ≡ rises_in (x + 1) xs
unfolding rising rises_in
rising-in x [] = refl
rising-in x (y ∷ ys) = rw (below x y) (ap (λ (t : Bool). ltb x y && t) (rising-in y ys))

rises_by : (b : Bool) (l x : ℕ) (r : ℕ → Bool) (xs : List ℕ) → ((n : ℕ) → r n ≡ rises_in n xs) → ((not b || leb l x) && r (cond b (x + 1) l)) ≡ rises_in l (cond b (x ∷ xs) xs)
unfolding rises_in
rises_by true l x r xs h = ap (λ (t : Bool). leb l x && t) (h (x + 1))
rises_by false l x r xs h = h l

rises-in : (l : ℕ) (ws : List ℕ) → rises_from l ws ≡ rises_in l (slots_in ws)
unfolding rises_from slots_in rises_in
rises-in l [] = refl
rises-in l (w ∷ ws) = rises_by (eqb (kind_of w) 2) l (bits w 0 14) (λ n. rises_from n ws) (slots_in ws) (λ n. rises-in n ws)

rising-of : (xs : List ℕ) → rising xs ≡ rises_in 0 xs
unfolding rising rises_in
rising-of [] = refl
rising-of (x ∷ xs) = rw (le-leb 0 x (omega arith)) (rising-in x xs)

pub rises : (ws : List ℕ) → rising (slots_in ws) ≡ rises_from 0 ws
rises ws = rising-of (slots_in ws) ∙ sym (rises-in 0 ws)

-- a test F of all sites, or of some, by the tests that a word is of kind 3, b, and of kind 4, c
and-by : (F : List Site → Bool) (b c : Bool) (A B : List Site) (s : Site) (t q : Bool)
    → (b ≡ true → c ≡ false) → F A ≡ q → F B ≡ q → F (s ∷ B) ≡ (t && F B) → F (cond b A (cond c (s ∷ B) B)) ≡ ((not c || t) && q)
and-by F true true A B s t q n a e h = clash refl (n refl)
and-by F true false A B s t q n a e h = a
and-by F false true A B s t q n a e h = h ∙ ap (λ (r : Bool). t && r) e
and-by F false false A B s t q n a e h = e

or-by : (F : List Site → Bool) (b c : Bool) (A B : List Site) (s : Site) (t q : Bool)
    → (b ≡ true → c ≡ false) → F A ≡ q → F B ≡ q → F (s ∷ B) ≡ (t || F B) → F (cond b A (cond c (s ∷ B) B)) ≡ ((c && t) || q)
or-by F true true A B s t q n a e h = clash refl (n refl)
or-by F true false A B s t q n a e h = a
or-by F false true A B s t q n a e h = h ∙ ap (λ (r : Bool). t || r) e
or-by F false false A B s t q n a e h = e

pub inside : (x c : ℕ) (ws : List ℕ) → all (inside_by x) (sites_in c ws) ≡ all_inside x ws
unfolding sites_in all_inside all
inside x c [] = refl
inside x c (w ∷ ws) =
    and-by (λ l. all (inside_by x) l) (eqb (kind_of w) 3) (eqb (kind_of w) 4) (sites_in (suc c) ws) (sites_in c ws) (site_in w (c - 1)) (leb (bits w 14 14) x) (all_inside x ws)
    (colour-no-site (kind_of w)) (inside x (suc c) ws) (inside x c ws) refl

has-rank : (r c : ℕ) (ws : List ℕ) → has_rank r (sites_in c ws) ≡ some_ranked r ws
unfolding sites_in some_ranked has_rank
has-rank r c [] = refl
has-rank r c (w ∷ ws) =
    or-by (λ l. has_rank r l) (eqb (kind_of w) 3) (eqb (kind_of w) 4) (sites_in (suc c) ws) (sites_in c ws) (site_in w (c - 1)) (eqb (rank_in w) r) (some_ranked r ws)
    (colour-no-site (kind_of w)) (has-rank r (suc c) ws) (has-rank r c ws) refl

pub differ : (c : ℕ) (ws : List ℕ) → ranks_differ (sites_in c ws) ≡ all_new ws
unfolding sites_in all_new ranks_differ
differ c [] = refl
differ c (w ∷ ws) =
    and-by (λ l. ranks_differ l) (eqb (kind_of w) 3) (eqb (kind_of w) 4) (sites_in (suc c) ws) (sites_in c ws) (site_in w (c - 1)) (not (some_ranked (rank_in w) ws)) (all_new ws)
    (colour-no-site (kind_of w)) (differ (suc c) ws) (differ c ws)
    (ap (λ (t : Bool). not t && ranks_differ (sites_in c ws)) (has-rank (rank_in w) c ws))
