-- A test of all tied sites, the numbers of slots of rule 2, the count and the length are tests, counts and sums over the sites by
-- their numbers.
-- Assumes nothing but that each site has one tie and that its slot is one of the sheet's.
use mathlib.Core.Path.{◌≡◌, refl, sym, ◌∙◌, ap, ap₂, subst, fun_ext}
use mathlib.Core.Bool.{Bool, true, false, ◌&&◌, ◌||◌, true≢false, false≢true, cond}
use mathlib.Core.List.{List, [], ◌∷◌}
use Prim.Native.Nat.{ℕ, zero, suc, ◌+◌, ◌*◌, ◌-◌, ◌≤◌, ◌<◌}
use native.Mathlib.Omega.{arith}
use lib.Dec.{eqb}
use lib.ListN.{length, get_or}
use borrow.Author.Tests.{eqb-true, eq-eqb, ne_eqb}
use Rattle.sheet.specs.Sheet.{all, Site, Sheet}
use Rattle.labelling.specs.Layout.{no_site, site_at, Tied, tie_at, tied_of, tied, height_of, is_used, used_from, used_of, left_end, slots_of, count_of, backbones, site_share, drops}
use Rattle.labelling.specs.Counted.{all_before, sum_before, is_taken, is_first, sum_firsts, any_site, of_colour, labels_counted, colours_counted, backbones_counted, shares_counted}
use Rattle.lists.proofs.Tests.{same_test, clash, by-test, by_equal, by-either, and_l, and_r, and_i, or-e}
use Rattle.labelling.proofs.Members.{no_tied, all-at, at_all, used-at, at-used, used-tail, tied-at, length-tied}
use Rattle.labelling.proofs.Best.{low_ties, low-at}

-- ALL, by numbers
pub all-before : (f : ℕ → Bool) (n : ℕ) → all_before f n ≡ true → (i : ℕ) → i < n → f i ≡ true
unfolding all_before
all-before f zero h i l = absurd (omega arith)
all-before f (suc n) h i l =
    by_equal i n (λ e. subst (λ (z : ℕ). f z ≡ true) (sym e) (and_r (all_before f n) (f n) h)) λ e. all-before f n (and_l (all_before f n) (f n) h) i (omega arith)

pub before-all : (f : ℕ → Bool) (n : ℕ) → ((i : ℕ) → i < n → f i ≡ true) → all_before f n ≡ true
unfolding all_before
before-all f zero h = refl
before-all f (suc n) h = and_i (before-all f n λ i l. h i (omega arith)) (h n (omega arith))

-- where not all do, one does not
pub one-fails : (f : ℕ → Bool) (n : ℕ) → all_before f n ≡ false → (i : ℕ) × (i < n) × (f i ≡ false)
unfolding all_before
one-fails f zero h = absurd (true≢false h)
one-fails f (suc n) h =
    by-test (f n)
    (λ t. let (i, l, e) = one-fails f n (sym (and-true (all_before f n) (f n) t) ∙ h) in (i, omega arith, e))
    λ t. (n, omega arith, t)
  where
    and-true : (a b : Bool) → b ≡ true → (a && b) ≡ a
    and-true true b e = e
    and-true false b e = refl

pub all-is : {A : Type 0} (f : A → Bool) (d : A) (xs : List A) → all f xs ≡ all_before (λ i. f (get_or xs i d)) (length xs)
all-is f d xs =
    same_test (all f xs) (all_before (λ i. f (get_or xs i d)) (length xs)) (λ h. before-all _ (length xs) (all-at f d xs h)) (λ h. at_all f d xs (all-before _ (length xs) h))

-- a test of each tied site, by the sites' numbers
pub tied_is : (s : Sheet) (js : List ℕ) → length js ≡ length s.sites → (f : Tied → Bool) →
    all f (tied s js) ≡ all_before (λ i. f (tie_at s js i)) (length s.sites)
tied_is s js l f =
    all-is f no_tied (tied s js) ∙ ap (all_before (λ i. f (get_or (tied s js) i no_tied))) (length-tied s.sites js l) ∙
    ap (λ (g : ℕ → Tied). all_before (λ i. f (g i)) (length s.sites)) (fun_ext λ i. tied-at s.sites js i l)

-- TAKEN slots
pub taken_at : (p : ℕ → Bool) (js : List ℕ) (k n : ℕ) → is_taken p js k n ≡ true → (i : ℕ) × (i < n) × (p i ≡ true) × (get_or js i 0 ≡ k)
unfolding is_taken
taken_at p js k zero h = absurd (false≢true h)
taken_at p js k (suc n) h =
    by-either (or-e (is_taken p js k n) (p n && eqb (get_or js n 0) k) h)
    (λ e. let (i, l, q, z) = taken_at p js k n e in (i, omega arith, q, z))
    (λ e. (n, omega arith, and_l (p n) (eqb (get_or js n 0) k) e, eqb-true (get_or js n 0) k (and_r (p n) (eqb (get_or js n 0) k) e)))

pub at-taken : (p : ℕ → Bool) (js : List ℕ) (k n i : ℕ) → i < n → p i ≡ true → get_or js i 0 ≡ k → is_taken p js k n ≡ true
unfolding is_taken
at-taken p js k zero i l h e = absurd (omega arith)
at-taken p js k (suc n) i l h e =
    by-test (is_taken p js k n) (λ t. rw t) λ t. rw t
    (by_equal i n (λ q. subst (λ (z : ℕ). p z && eqb (get_or js z 0) k ≡ true) q (and_i h (eq-eqb (get_or js i 0) k e)))
    (λ q. clash (at-taken p js k n i (omega arith) h e) t))

pub used-taken : (js : List ℕ) (k : ℕ) → is_used k js ≡ is_taken any_site js k (length js)
used-taken js k =
    same_test (is_used k js) (is_taken any_site js k (length js))
    (λ h. let (i, l, e) = at-used k js h in at-taken any_site js k (length js) i l refl e)
    (λ h. let (i, l, p, e) = taken_at any_site js k (length js) h in subst (λ (z : ℕ). is_used z js ≡ true) e (used-at js i l))

-- THE SLOTS OF A COLOUR
pub slots_at : (c k : ℕ) (ss : List Site) (js : List ℕ) (i : ℕ) → length js ≡ length ss → i < length ss → get_or js i 0 ≡ k → (get_or ss i no_site).colour ≡ c →
    is_used k (slots_of c (tied_of ss js)) ≡ true
unfolding slots_of tied_of is_used
slots_at c k [] js i l h e q = absurd (omega arith)
slots_at c k (s ∷ ss) [] i l h e q = absurd (omega arith)
slots_at c k (s ∷ ss) (j ∷ js) zero l h e q = rw (eq-eqb s.colour c q, eq-eqb j k e)
slots_at c k (s ∷ ss) (j ∷ js) (suc i) l h e q =
    let g = slots_at c k ss js i (omega arith) (omega arith) e q in
    by-test (eqb s.colour c) (λ t. rw t (used-tail k j (slots_of c (tied_of ss js)) g)) (λ t. rw t g)

pub at_slots : (c k : ℕ) (ss : List Site) (js : List ℕ) → length js ≡ length ss → is_used k (slots_of c (tied_of ss js)) ≡ true →
    (i : ℕ) × (i < length ss) × (get_or js i 0 ≡ k) × ((get_or ss i no_site).colour ≡ c)
unfolding slots_of tied_of is_used
at_slots c k [] js l u = absurd (false≢true u)
at_slots c k (s ∷ ss) [] l u = absurd (omega arith)
at_slots c k (s ∷ ss) (j ∷ js) l u = go (eqb s.colour c) refl u (at_slots c k ss js (omega arith))
  where
    later : (i : ℕ) × (i < length ss) × (get_or js i 0 ≡ k) × ((get_or ss i no_site).colour ≡ c) →
        (i : ℕ) × (i < suc (length ss)) × (get_or (j ∷ js) i 0 ≡ k) × ((get_or (s ∷ ss) i no_site).colour ≡ c)
    later (i, h, e, q) = (suc i, omega arith, e, q)

    go : (b : Bool) → eqb s.colour c ≡ b → is_used k (cond b (j ∷ slots_of c (tied_of ss js)) (slots_of c (tied_of ss js))) ≡ true →
        (is_used k (slots_of c (tied_of ss js)) ≡ true → (i : ℕ) × (i < length ss) × (get_or js i 0 ≡ k) × ((get_or ss i no_site).colour ≡ c)) →
        (i : ℕ) × (i < suc (length ss)) × (get_or (j ∷ js) i 0 ≡ k) × ((get_or (s ∷ ss) i no_site).colour ≡ c)
    go true e u ih = by-either (or-e (eqb j k) (is_used k (slots_of c (tied_of ss js))) u) (λ q. (0, omega arith, eqb-true j k q, eqb-true s.colour c e)) (λ q. later (ih q))
    go false e u ih = later (ih u)

colour-taken : (s : Sheet) (js : List ℕ) → length js ≡ length s.sites → (c k : ℕ) → is_used k (slots_of c (tied s js)) ≡ is_taken (of_colour s c) js k (length s.sites)
colour-taken s js long c k =
    same_test (is_used k (slots_of c (tied s js))) (is_taken (of_colour s c) js k (length s.sites))
    (λ h. let (i, l, e, q) = at_slots c k s.sites js long h in at-taken (of_colour s c) js k (length s.sites) i l (eq-eqb (site_at s i).colour c q) e)
    (λ h. let (i, l, p, e) = taken_at (of_colour s c) js k (length s.sites) h in slots_at c k s.sites js i long l e (eqb-true (site_at s i).colour c p))

-- SUMS over the used slots, by the numbers from a on, so many
unfoldable pub sum_over : (share : ℕ → ℕ) → List ℕ → ℕ
sum_over f [] = 0
sum_over f (k ∷ ks) = f k + sum_over f ks

unfoldable pub sum_where : (test : ℕ → Bool) → (share : ℕ → ℕ) → (from count : ℕ) → ℕ
sum_where t f a zero = 0
sum_where t f a (suc n) = cond (t a) (f a) 0 + sum_where t f (suc a) n

pub over-used : (f : ℕ → ℕ) (a n : ℕ) (js : List ℕ) → sum_over f (used_from a n js) ≡ sum_where (λ k. is_used k js) f a n
unfolding used_from sum_over sum_where
over-used f a zero js = refl
over-used f a (suc n) js = by-test (is_used a js) (λ e. rw e (omega (arith, over-used f (suc a) n js))) λ e. rw e (omega (arith, over-used f (suc a) n js))

pub length_over : (ks : List ℕ) → length ks ≡ sum_over (λ k. 1) ks
unfolding sum_over
length_over [] = refl
length_over (k ∷ ks) = omega (arith, length_over ks)

pub backbones-over : (s : Sheet) (js ks : List ℕ) → backbones s js ks ≡ sum_over (λ k. s.width - left_end s js k) ks
unfolding backbones sum_over
backbones-over s js [] = refl
backbones-over s js (k ∷ ks) = ap (λ (z : ℕ). s.width - left_end s js k + z) (backbones-over s js ks)

where-none : (f : ℕ → ℕ) (a n : ℕ) → sum_where (λ k. false) f a n ≡ 0
unfolding sum_where
where-none f a zero = refl
where-none f a (suc n) = omega (arith, where-none f (suc a) n)

where-same : (t u : ℕ → Bool) (f : ℕ → ℕ) (a n : ℕ) → ((k : ℕ) → a ≤ k → t k ≡ u k) → sum_where t f a n ≡ sum_where u f a n
unfolding sum_where
where-same t u f a zero h = refl
where-same t u f a (suc n) h = ap₂ ◌+◌ (ap (λ (b : Bool). cond b (f a) 0) (h a (omega arith))) (where-same t u f (suc a) n λ k l. h k (omega arith))

pub where-zero : (t : ℕ → Bool) (a n : ℕ) → sum_where t (λ k. 0) a n ≡ 0
unfolding sum_where
where-zero t a zero = refl
where-zero t a (suc n) = by-test (t a) (λ e. rw e (omega (arith, where-zero t (suc a) n))) λ e. rw e (omega (arith, where-zero t (suc a) n))

-- of two numbers, and of a number that one alone has
pub where-plus : (t : ℕ → Bool) (f g : ℕ → ℕ) (a n : ℕ) → sum_where t (λ k. f k + g k) a n ≡ sum_where t f a n + sum_where t g a n
unfolding sum_where
where-plus t f g a zero = refl
where-plus t f g a (suc n) = by-test (t a) (λ e. rw e (omega (arith, where-plus t f g (suc a) n))) λ e. rw e (omega (arith, where-plus t f g (suc a) n))

where-past : (t : ℕ → Bool) (j v a n : ℕ) → j < a → sum_where t (λ k. cond (eqb j k) v 0) a n ≡ 0
unfolding sum_where
where-past t j v a zero h = refl
where-past t j v a (suc n) h =
    rw (ne_eqb j a (λ q. omega arith)) (by-test (t a) (λ e. rw e (omega (arith, where-past t j v (suc a) n (omega arith)))) λ e. rw e (omega (arith, where-past t j v (suc a) n (omega arith))))

pub where-one : (t : ℕ → Bool) (j v a n : ℕ) → a ≤ j → j < a + n → t j ≡ true → sum_where t (λ k. cond (eqb j k) v 0) a n ≡ v
unfolding sum_where
where-one t j v a zero l u h = absurd (omega arith)
where-one t j v a (suc n) l u h =
    by_equal j a
    (λ e. rw (← e, h, eq-eqb j j refl) (omega (arith, where-past t j v (suc j) n (omega arith))))
    λ e. rw (ne_eqb j a e) (by-test (t a) (λ q. rw q (omega (arith, where-one t j v (suc a) n (omega arith) (omega arith) h))) λ q. rw q (omega (arith, where-one t j v (suc a) n (omega arith) (omega arith) h)))

or-false : (b : Bool) → (b || false) ≡ b
or-false true = refl
or-false false = refl

where-more : (t : ℕ → Bool) (f : ℕ → ℕ) (j a n : ℕ) → a ≤ j → j < a + n → t j ≡ false → sum_where (λ k. t k || eqb j k) f a n ≡ sum_where t f a n + f j
unfolding sum_where
where-more t f j a zero l u h = absurd (omega arith)
where-more t f j a (suc n) l u h = by_equal j a here λ e. later e (where-more t f j (suc a) n (omega arith) (omega arith) h)
  where
    here : j ≡ a → cond (t a || eqb j a) (f a) 0 + sum_where (λ k. t k || eqb j k) f (suc a) n ≡ cond (t a) (f a) 0 + sum_where t f (suc a) n + f j
    here e =
        let q : t a ≡ false = subst (λ (z : ℕ). t z ≡ false) e h in
        let r = where-same (λ k. t k || eqb j k) t f (suc a) n (λ k g. rw (ne_eqb j k (λ z. omega arith)) (or-false (t k))) in
        rw (q, eq-eqb j a e) (omega (arith, ap f e))

    later : (j ≡ a → ⊥) → sum_where (λ k. t k || eqb j k) f (suc a) n ≡ sum_where t f (suc a) n + f j → cond (t a || eqb j a) (f a) 0 + sum_where (λ k. t k || eqb j k) f (suc a) n ≡ cond (t a) (f a) 0 + sum_where t f (suc a) n + f j
    later e ih = rw (ne_eqb j a e, or-false (t a)) (omega arith)

-- THE SUM over the slots of the sites that pass, each slot once, is the sum over their first sites
sum-firsts : (p : ℕ → Bool) (f : ℕ → ℕ) (js : List ℕ) (m n : ℕ) → ((i : ℕ) → i < n → get_or js i 0 < m) → sum_firsts p f js n ≡ sum_where (λ k. is_taken p js k n) f 0 m
unfolding sum_before is_taken
sum-firsts p f js m zero h = sym (where-none f 0 m)
sum-firsts p f js m (suc n) h = ap (λ (z : ℕ). z + cond (is_first p js n) (f j) 0) (sum-firsts p f js m n λ i l. h i (omega arith)) ∙ by-test (p n) pass (λ e. rw e skip)
  where
    j : ℕ
    j = get_or js n 0

    t : ℕ → Bool
    t k = is_taken p js k n

    skip : sum_where t f 0 m + 0 ≡ sum_where (λ k. t k || false) f 0 m
    skip = omega (arith, where-same (λ k. t k || false) t f 0 m (λ k l. or-false (t k)))

    again : t j ≡ true → (k : ℕ) → (t k || eqb j k) ≡ t k
    again e k = by_equal j k (λ q. let r : t k ≡ true = subst (λ (z : ℕ). t z ≡ true) q e in rw r) λ q. rw (ne_eqb j k q) (or-false (t k))

    pass : p n ≡ true → sum_where t f 0 m + cond (is_first p js n) (f j) 0 ≡ sum_where (λ k. t k || (p n && eqb j k)) f 0 m
    pass e =
        rw e
        (by-test (t j) (λ q. rw q (omega (arith, where-same (λ k. t k || eqb j k) t f 0 m (λ k l. again q k))))
        λ q. rw q (omega (arith, where-more t f j 0 m (omega arith) (omega (arith, h n (omega arith))) q)))

-- a sum of sums, and the front of one
pub sum-plus : (f g : ℕ → ℕ) (n : ℕ) → sum_before (λ i. f i + g i) n ≡ sum_before f n + sum_before g n
unfolding sum_before
sum-plus f g zero = refl
sum-plus f g (suc n) = omega (arith, sum-plus f g n)

pub sum-front : (f : ℕ → ℕ) (n : ℕ) → sum_before f (suc n) ≡ f 0 + sum_before (λ i. f (suc i)) n
unfolding sum_before
sum-front f zero = omega arith
sum-front f (suc n) = omega (arith, sum-front f n)

-- a sum over a list, by its places
pub over-places : (f : ℕ → ℕ) (ks : List ℕ) → sum_over f ks ≡ sum_before (λ i. f (get_or ks i 0)) (length ks)
unfolding sum_over
over-places f [] = unfold sum_before in refl
over-places f (k ∷ ks) = ap (λ (z : ℕ). f k + z) (over-places f ks) ∙ sym (sum-front (λ i. f (get_or (k ∷ ks) i 0)) (length ks))

-- the same where each is
pub sum_same : (f g : ℕ → ℕ) (n : ℕ) → ((i : ℕ) → i < n → f i ≡ g i) → sum_before f n ≡ sum_before g n
unfolding sum_before
sum_same f g zero h = refl
sum_same f g (suc n) h = ap₂ ◌+◌ (sum_same f g n λ i l. h i (omega arith)) (h n (omega arith))

-- each at most a number
pub sum-le : (f : ℕ → ℕ) (m : ℕ) → ((i : ℕ) → f i ≤ m) → (n : ℕ) → sum_before f n ≤ n * m
unfolding sum_before
sum-le f m h zero = omega arith
sum-le f m h (suc n) = omega (arith, sum-le f m h n, h n)

shares-is : (s : Sheet) (ss : List Site) (js : List ℕ) → length js ≡ length ss →
    drops s (tied_of ss js) ≡ sum_before (λ i. site_share s (height_of s (get_or js i 0)) (get_or ss i no_site).y) (length ss)
unfolding drops tied_of
shares-is s [] js l = unfold sum_before in refl
shares-is s (t ∷ ss) [] l = absurd (omega arith)
shares-is s (t ∷ ss) (j ∷ js) l =
    ap (λ (z : ℕ). site_share s (height_of s j) t.y + z) (shares-is s ss js (omega arith)) ∙
    sym (sum-front (λ i. site_share s (height_of s (get_or (j ∷ js) i 0)) (get_or (t ∷ ss) i no_site).y) (length ss))

module _ (s : Sheet) (js : List ℕ) (long : length js ≡ length s.sites) where
  -- the sites' shares
  pub drops-counted : drops s (tied s js) ≡ shares_counted s js
  drops-counted = shares-is s s.sites js long

  module _ (low : low_ties (length s.slots) js ≡ true) where
    in-range : (i : ℕ) → i < length s.sites → get_or js i 0 < length s.slots
    in-range i l = low-at (length s.slots) js low i (omega arith)

    firsts-is : (p : ℕ → Bool) (f : ℕ → ℕ) (ks : List ℕ) → ((k : ℕ) → is_used k ks ≡ is_taken p js k (length s.sites)) → sum_over f (used_of s ks) ≡ sum_firsts p f js (length s.sites)
    firsts-is p f ks h =
        over-used f 0 (length s.slots) ks ∙ where-same (λ k. is_used k ks) (λ k. is_taken p js k (length s.sites)) f 0 (length s.slots) (λ k l. h k) ∙
        sym (sum-firsts p f js (length s.slots) (length s.sites) in-range)

    any-taken : (k : ℕ) → is_used k js ≡ is_taken any_site js k (length s.sites)
    any-taken k = used-taken js k ∙ ap (is_taken any_site js k) long

    -- THE COUNT is the number of sites that are the first of their slot
    pub count-counted : count_of s js ≡ labels_counted s js
    count-counted = length_over (used_of s js) ∙ firsts-is any_site (λ k. 1) js any-taken

    -- A COLOUR'S LABELS are as many as its sites that are its first on their slot
    pub colour-counted : (c : ℕ) → length (used_of s (slots_of c (tied s js))) ≡ colours_counted s js c
    colour-counted c = length_over (used_of s (slots_of c (tied s js))) ∙ firsts-is (of_colour s c) (λ k. 1) (slots_of c (tied s js)) (colour-taken s js long c)

    -- THE BACKBONES' LENGTHS, each added at the first site of its slot
    pub backbones-counted : backbones s js (used_of s js) ≡ backbones_counted s js
    backbones-counted = backbones-over s js (used_of s js) ∙ firsts-is any_site (λ k. s.width - left_end s js k) js any-taken
