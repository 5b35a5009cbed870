-- Each test of rules 1 to 5 is the rule as a statement, and `broken_in s js ≡ 0` is all of them.
-- Assumes nothing.
use mathlib.Core.Path.{◌≡◌, refl, subst}
use mathlib.Core.Logic.{◌⊎◌, inl, inr, ◌↔◌}
use mathlib.Core.Bool.{Bool, true, false, ◌&&◌, ◌||◌, not, true≢false, false≢true, cond}
use mathlib.Core.List.{List, [], ◌∷◌}
use Prim.Native.Nat.{ℕ, zero, suc, ◌+◌, ◌<◌, min, max}
use native.Mathlib.Omega.{arith}
use lib.Dec.{ltb, leb, eqb}
use lib.ListN.{length, get_or}
use borrow.Author.Tests.{ltb-true, leb-true, leb-false, eqb-true, eqb-false, le-leb, lt-leb, eq-eqb, ne_eqb}
use Rattle.sheet.specs.Limits.{unbounded}
use Rattle.sheet.specs.Sheet.{all, Colour, Sheet}
pub use Rattle.labelling.specs.Layout.{site_at}
pub use Rattle.labelling.specs.Lawful.{Bounded, Rules}
use Rattle.labelling.specs.Lawful.{RuleOne, RuleTwo, RuleThree, Miss, RuleFour, RuleFive}
use Rattle.labelling.specs.Layout.{Tied, tie_at, tied, height_of, is_used, used_of, lesser, left_end, colour_kept, colours_of, colours_kept, slots_of, bounds_kept, no_colour, is_far, gap_kept, gaps_of, gaps_kept, vertical_has, misses, misses_all, reaches, counts, is_clear, clears, clears_all, broken_in}
use Rattle.lists.proofs.Tests.{by-test, and_l, and_r, and_i, or-e, is_false, not_f, not-e, tests}
use Rattle.labelling.proofs.Members.{each, every, all-used, used_all, used-from, from-used}
use Rattle.labelling.proofs.Best.{low_ties, Obeys}
use Rattle.labelling.proofs.Distances.{counts-e, counts-i}

-- rule 2, colour by colour
bounds-each : (s : Sheet) (js : List ℕ) (c : ℕ) (ks : List Colour) → bounds_kept s js c ks ≡ true → (i : ℕ) → i < length ks → Bounded s js (c + i) (get_or ks i no_colour)
unfolding bounds_kept
bounds-each s js c [] h i l = absurd (omega arith)
bounds-each s js c (k ∷ ks) h zero l = subst (λ (n : ℕ). Bounded s js n k) (omega arith) (go (or-e p q (and_l (p || q) (bounds_kept s js (suc c) ks) h)))
  where
    p : Bool
    p = eqb k.bound unbounded

    q : Bool
    q = leb (length (used_of s (slots_of c (tied s js)))) k.bound

    go : (p ≡ true) ⊎ (q ≡ true) → Bounded s js c k
    go (inl e) = inl (eqb-true k.bound unbounded e)
    go (inr e) = inr (leb-true (length (used_of s (slots_of c (tied s js)))) k.bound e)
bounds-each s js c (k ∷ ks) h (suc i) l =
    subst (λ (n : ℕ). Bounded s js n (get_or ks i no_colour)) (omega arith)
    (bounds-each s js (suc c) ks
    (and_r (eqb k.bound unbounded || leb (length (used_of s (slots_of c (tied s js)))) k.bound) (bounds_kept s js (suc c) ks) h) i (omega arith))

each-bounds : (s : Sheet) (js : List ℕ) (c : ℕ) (ks : List Colour) → ((i : ℕ) → i < length ks → Bounded s js (c + i) (get_or ks i no_colour)) → bounds_kept s js c ks ≡ true
unfolding bounds_kept
each-bounds s js c [] f = refl
each-bounds s js c (k ∷ ks) f =
    and_i (go (subst (λ (n : ℕ). Bounded s js n k) (omega arith) (f 0 (omega arith))))
    (each-bounds s js (suc c) ks λ i l. subst (λ (n : ℕ). Bounded s js n (get_or ks i no_colour)) (omega arith) (f (suc i) (omega arith)))
  where
    go : Bounded s js c k → (eqb k.bound unbounded || leb (length (used_of s (slots_of c (tied s js)))) k.bound) ≡ true
    go (inl e) = rw (eq-eqb k.bound unbounded e)
    go (inr e) = by-test (eqb k.bound unbounded) (λ f. rw f) λ f. rw (f, le-leb (length (used_of s (slots_of c (tied s js)))) k.bound e)

-- `lesser` is min
pub lesser-min : (a b : ℕ) → lesser a b ≡ min a b
lesser-min a b = by-test (ltb b a) (λ e. rw e (omega (arith, tests))) (λ e. rw e (omega (arith, tests)))

pub most-max : (a b : ℕ) → cond (ltb a b) b a ≡ max a b
most-max a b = by-test (ltb a b) (λ e. rw e (omega (arith, tests))) (λ e. rw e (omega (arith, tests)))

-- a vertical that misses a height lies on one side of it
over_false : (y e h : ℕ) → vertical_has y e h ≡ false → Miss h y e
over_false y e h f =
    by-test (leb (lesser y e) h)
    (λ p. let q : leb h (cond (ltb y e) e y) ≡ false = rw p at f in
    inr (omega (arith, most-max y e, leb-false h (cond (ltb y e) e y) q), omega (arith, most-max y e, leb-false h (cond (ltb y e) e y) q)))
    λ p. inl (omega (arith, lesser-min y e, leb-false (lesser y e) h p), omega (arith, lesser-min y e, leb-false (lesser y e) h p))

over_none : (y e h : ℕ) → Miss h y e → vertical_has y e h ≡ false
over_none y e h (inl p) = rw (lt-leb (lesser y e) h (omega (arith, lesser-min y e)))
over_none y e h (inr p) =
    is_false (vertical_has y e h) λ q.
    absurd (omega (arith, most-max y e, leb-true h (cond (ltb y e) e y) (and_r (leb (lesser y e) h) (leb h (cond (ltb y e) e y)) q)))

-- slots below m that are used are among the used slots
pub used-of : (s : Sheet) (js : List ℕ) (k : ℕ) → low_ties (length s.slots) js ≡ true → is_used k js ≡ true → is_used k (used_of s js) ≡ true
used-of s js k b u =
    from-used k 0 (length s.slots) js (omega arith) (omega (arith, ltb-true k (length s.slots) (all-used (λ j. ltb j (length s.slots)) js b k u))) u

pub of-used : (s : Sheet) (js : List ℕ) (k : ℕ) → is_used k (used_of s js) ≡ true → is_used k js ≡ true
of-used s js k u = (used-from k 0 (length s.slots) js u).2

-- tests with `or` and `not` as implications
or-iff : (p q : Bool) → ((p || q) ≡ true) ↔ (p ≡ false → q ≡ true)
or-iff true q = ((λ h e. absurd (true≢false e)), λ f. refl)
or-iff false q = ((λ h e. h), λ f. f refl)

miss-iff : (p a v : Bool) → ((p || not (a && v)) ≡ true) ↔ (p ≡ false → a ≡ true → v ≡ false)
miss-iff true a v = ((λ h e. absurd (true≢false e)), λ f. refl)
miss-iff false true v = ((λ h e q. not_f v h), λ f. rw (f refl refl))
miss-iff false false v = ((λ h e q. absurd (false≢true q)), λ f. refl)

clear-iff : (p a g : Bool) → ((p || not a || g) ≡ true) ↔ (p ≡ false → a ≡ true → g ≡ true)
clear-iff true a g = ((λ h e. absurd (true≢false e)), λ f. refl)
clear-iff false true g = ((λ h e q. h), λ f. f refl refl)
clear-iff false false g = ((λ h e q. absurd (false≢true q)), λ f. refl)

-- EACH TEST IS ITS RULE
module _ (s : Sheet) (js : List ℕ) (long : length js ≡ length s.sites) where
  pub rule-one : (colours_kept (tied s js) ≡ true) ↔ RuleOne s js
  rule-one = (
    (λ h i j l u e. eqb-true _ _ ((or-iff (not (eqb (get_or js i 0) (get_or js j 0))) (eqb (site_at s i).colour (site_at s j).colour)).0
        (each s js long (colour_kept (tie_at s js i)) (each s js long (colours_of (tied s js)) h i l) j u) (rw (eq-eqb _ _ e)))),
    λ r. every s js long (colours_of (tied s js)) λ i l. every s js long (colour_kept (tie_at s js i)) λ j u.
        (or-iff (not (eqb (get_or js i 0) (get_or js j 0))) (eqb (site_at s i).colour (site_at s j).colour)).1 λ n. eq-eqb _ _ (r i j l u (eqb-true _ _ (not-e _ n))),
  )

  pub rule-two : (bounds_kept s js 0 s.colours ≡ true) ↔ RuleTwo s js
  rule-two = (
    (λ h c l. subst (λ (n : ℕ). Bounded s js n (get_or s.colours c no_colour)) (omega arith) (bounds-each s js 0 s.colours h c l)),
    λ r. each-bounds s js 0 s.colours λ c l. subst (λ (n : ℕ). Bounded s js n (get_or s.colours c no_colour)) (omega arith) (r c l),
  )

  pub rule-three : (gaps_kept s (tied s js) ≡ true) ↔ RuleThree s js
  rule-three = (
    (λ h i j l u n. (or-iff (eqb (get_or js i 0) (get_or js j 0)) (is_far s (get_or js i 0) (site_at s i).colour (get_or js j 0) (site_at s j).colour)).0
        (each s js long (gap_kept s (tie_at s js i)) (each s js long (gaps_of s (tied s js)) h i l) j u) (ne_eqb _ _ n)),
    λ r. every s js long (gaps_of s (tied s js)) λ i l. every s js long (gap_kept s (tie_at s js i)) λ j u.
        (or-iff (eqb (get_or js i 0) (get_or js j 0)) (is_far s (get_or js i 0) (site_at s i).colour (get_or js j 0) (site_at s j).colour)).1 λ n. r i j l u (eqb-false _ _ n),
  )

  module _ (low : low_ties (length s.slots) js ≡ true) where
    -- a test of every tied site with every used slot
    by-labels : (f : Tied → ℕ → Bool) → (all (λ t. all (f t) (used_of s js)) (tied s js) ≡ true) ↔
        ((i k : ℕ) → i < length s.sites → is_used k js ≡ true → f (tie_at s js i) k ≡ true)
    by-labels f = (
      (λ h i k l u. all-used (f (tie_at s js i)) (used_of s js) (each s js long (λ t. all (f t) (used_of s js)) h i l) k (used-of s js k low u)),
      λ r. every s js long (λ t. all (f t) (used_of s js)) λ i l. used_all (f (tie_at s js i)) (used_of s js) λ k u. r i k l (of-used s js k u),
    )

    pub rule-four : (all (misses_all s js) (tied s js) ≡ true) ↔ RuleFour s js
    rule-four = (
      (λ h i k l u n e. over_false (y i) (own i) (height_of s k)
          ((four i k).0 ((by-labels (misses s js)).0 h i k l u) (ne_eqb (get_or js i 0) k n) (le-leb (left_end s js k) (x i) e))),
      λ r. (by-labels (misses s js)).1 λ i k l u. (four i k).1 λ n e. over_none (y i) (own i) (height_of s k)
          (r i k l u (eqb-false (get_or js i 0) k n) (leb-true (left_end s js k) (x i) e)),
    )
      where
        x : ℕ → ℕ
        x i = (site_at s i).x

        y : ℕ → ℕ
        y i = (site_at s i).y

        own : ℕ → ℕ
        own i = height_of s (get_or js i 0)

        four : (i k : ℕ) → (misses s js (tie_at s js i) k ≡ true) ↔
            (eqb (get_or js i 0) k ≡ false → reaches (left_end s js k) (x i) ≡ true → vertical_has (y i) (own i) (height_of s k) ≡ false)
        four i k = miss-iff (eqb (get_or js i 0) k) (reaches (left_end s js k) (x i)) (vertical_has (y i) (own i) (height_of s k))

    pub rule-five : (all (clears_all s js) (tied s js) ≡ true) ↔ RuleFive s js
    rule-five = (
      (λ h i k l u n e. (five i k).0 ((by-labels (clears s js)).0 h i k l u) (ne_eqb (get_or js i 0) k n) (counts-i s.gap _ _ e)),
      λ r. (by-labels (clears s js)).1 λ i k l u. (five i k).1 λ n e. r i k l u (eqb-false (get_or js i 0) k n) (counts-e s.gap _ _ e),
    )
      where
        x : ℕ → ℕ
        x i = (site_at s i).x

        five : (i k : ℕ) → (clears s js (tie_at s js i) k ≡ true) ↔
            (eqb (get_or js i 0) k ≡ false → counts s (left_end s js k) (x i) ≡ true → is_clear s k (site_at s i).y ≡ true)
        five i k = clear-iff (eqb (get_or js i 0) k) (counts s (left_end s js k) (x i)) (is_clear s k (site_at s i).y)

-- the chain of tests comes to 0 when all hold
chain-iff : (a b c d e : Bool) → (◌≡◌ {A = ℕ} (cond (not a) 1 (cond (not b) 2 (cond (not c) 3 (cond (not d) 4 (cond (not e) 5 0))))) 0) ↔
    ((a ≡ true) × (b ≡ true) × (c ≡ true) × (d ≡ true) × (e ≡ true))
chain-iff true true true true true = ((λ h. (refl, refl, refl, refl, refl)), λ h. refl)
chain-iff true true true true false = ((λ h. absurd (omega arith)), λ h. absurd (false≢true h.4))
chain-iff true true true false e = ((λ h. absurd (omega arith)), λ h. absurd (false≢true h.3))
chain-iff true true false d e = ((λ h. absurd (omega arith)), λ h. absurd (false≢true h.2))
chain-iff true false c d e = ((λ h. absurd (omega arith)), λ h. absurd (false≢true h.1))
chain-iff false b c d e = ((λ h. absurd (omega arith)), λ h. absurd (false≢true h.0))

broken-iff : (s : Sheet) (js : List ℕ) → (broken_in s js ≡ 0) ↔
    ((colours_kept (tied s js) ≡ true) × (bounds_kept s js 0 s.colours ≡ true) × (gaps_kept s (tied s js) ≡ true) ×
    (all (misses_all s js) (tied s js) ≡ true) × (all (clears_all s js) (tied s js) ≡ true))
broken-iff s js =
    chain-iff (colours_kept (tied s js)) (bounds_kept s js 0 s.colours) (gaps_kept s (tied s js)) (all (misses_all s js) (tied s js)) (all (clears_all s js) (tied s js))

-- `Obeys` IS `Rules`
pub obeys-rules : (s : Sheet) (js : List ℕ) → Obeys s js → Rules s js
obeys-rules s js o =
    let t = (broken-iff s js).0 o.kept in
    record {
      one = (rule-one s js o.long).0 t.0;
      two = (rule-two s js o.long).0 t.1;
      three = (rule-three s js o.long).0 t.2;
      four = (rule-four s js o.long o.low).0 t.3;
      five = (rule-five s js o.long o.low).0 t.4;
    }

pub rules-obey : (s : Sheet) (js : List ℕ) → length js ≡ length s.sites → low_ties (length s.slots) js ≡ true → Rules s js → Obeys s js
rules-obey s js long low r =
    record {
      long = long;
      low = low;
      kept = (broken-iff s js).1
          ((rule-one s js long).1 r.one, (rule-two s js long).1 r.two, (rule-three s js long).1 r.three, (rule-four s js long low).1 r.four, (rule-five s js long low).1 r.five);
    }
