-- THEOREM 0: rules 1, 3, 4 and 5 are about pairs of tied sites and know no order of sites. Once as tests, for loops over pairs;
-- once as statements. Assumes nothing but one tie a site, slots of the sheet, and no site right of the width.
use mathlib.Core.Path.{◌≡◌, refl, sym, ap, ◌∙◌, subst, subst⁻¹, fun_ext}
use mathlib.Core.Bool.{Bool, true, false, ◌&&◌, ◌||◌, not}
use mathlib.Core.List.{List}
use mathlib.Core.Logic.{◌↔◌}
use Prim.Native.Nat.{ℕ, ◌≤◌, ◌<◌}
use native.Mathlib.Omega.{arith}
use lib.Dec.{eqb, leb}
use lib.ListN.{length, get_or}
use borrow.Author.Tests.{leb-true, le-leb}
use Rattle.sheet.specs.Sheet.{all, Sheet, inside_by}
use Rattle.labelling.specs.Layout.{site_at, Tied, tied, height_of, is_used, used_of, left_end, is_far, vertical_has, misses_from, misses_all, counts, is_clear, clears_from, clears_all}
use Rattle.labelling.specs.Pairs.{start_of, misses_pairs, clears_pairs}
use Rattle.lists.proofs.Tests.{by-test, same_test}
use Rattle.labelling.proofs.Members.{each, every, all-used, used_all, used-at}
use Rattle.labelling.proofs.Best.{low_ties}
use Rattle.labelling.specs.Lawful.{Rules, RuleTwo, Miss}
use Rattle.labelling.proofs.LeftEnd.{left_le, left_is}
use Rattle.labelling.proofs.Distances.{counts-e, counts-i, counts-left}
use Rattle.labelling.proofs.Rules.{used-of, of-used}

-- a test of a label by its slot and left end that a label further right passes too
abbrev pub Falls : ((slot left : ℕ) → Bool) → Type 0
Falls f = (k d e : ℕ) → d ≤ e → f k d ≡ true → f k e ≡ true

misses-falls : (s : Sheet) (t : Tied) → Falls (misses_from s t)
misses-falls s t k d e l = step (eqb t.slot k) (vertical_has t.site.y (height_of s t.slot) (height_of s k))
  where
    step : (p v : Bool) → (p || not (leb d t.site.x && v)) ≡ true → (p || not (leb e t.site.x && v)) ≡ true
    step true v h = refl
    step false v h = by-test (leb e t.site.x) (λ q. rw q (rw (le-leb d t.site.x (omega (arith, leb-true e t.site.x q))) at h)) λ q. rw q

clears-falls : (s : Sheet) (t : Tied) → Falls (clears_from s t)
clears-falls s t k d e l = step (eqb t.slot k) (is_clear s k t.site.y)
  where
    x : ℕ
    x = t.site.x

    step : (p g : Bool) → (p || not (counts s d x) || g) ≡ true → (p || not (counts s e x) || g) ≡ true
    step true g h = refl
    step false g h = by-test (counts s e x) (λ q. rw q (rw (counts-left s.gap d e x l q) at h)) λ q. rw q

module _ (s : Sheet) (js : List ℕ) (long : length js ≡ length s.sites) where
  module _ (inside : all (inside_by s.width) s.sites ≡ true) where
    module _ (low : low_ties (length s.slots) js ≡ true) where
      -- a test of all labels is a test of all tied sites, each with its own start for the left end
      pub by-sites : (f : (slot left : ℕ) → Bool) → Falls f → all (λ k. f k (left_end s js k)) (used_of s js) ≡ all (λ u. f u.slot (start_of s u.site)) (tied s js)
      by-sites f falls =
          same_test (all (λ k. f k (left_end s js k)) (used_of s js)) (all (λ u. f u.slot (start_of s u.site)) (tied s js))
          (λ h. every s js long (λ u. f u.slot (start_of s u.site)) λ i l.
          falls (get_or js i 0) (left_end s js (get_or js i 0)) (start_of s (site_at s i)) (left_le s js long i l)
          (all-used (λ k. f k (left_end s js k)) (used_of s js) h (get_or js i 0) (used-of s js (get_or js i 0) low (used-at js i (omega arith)))))
          (λ h. used_all (λ k. f k (left_end s js k)) (used_of s js) λ k u.
          let (i, l, e, q) = left_is s js long inside k (of-used s js k u) in
          let g : f (get_or js i 0) (start_of s (site_at s i)) ≡ true = each s js long (λ u. f u.slot (start_of s u.site)) h i l in
          subst (λ (z : ℕ). f z (left_end s js k) ≡ true) e (subst⁻¹ (λ (z : ℕ). f (get_or js i 0) z ≡ true) q g))

      -- THEOREM 0, as tests: rules 4 and 5
      pub misses-pairs : (t : Tied) → misses_all s js t ≡ misses_pairs s (tied s js) t
      misses-pairs t = by-sites (misses_from s t) (misses-falls s t)

      pub clears-pairs : (t : Tied) → clears_all s js t ≡ clears_pairs s (tied s js) t
      clears-pairs t = by-sites (clears_from s t) (clears-falls s t)

      pub rule-four-pairs : all (misses_all s js) (tied s js) ≡ all (misses_pairs s (tied s js)) (tied s js)
      rule-four-pairs = ap (λ (f : Tied → Bool). all f (tied s js)) (fun_ext misses-pairs)

      pub rule-five-pairs : all (clears_all s js) (tied s js) ≡ all (clears_pairs s (tied s js)) (tied s js)
      rule-five-pairs = ap (λ (f : Tied → Bool). all f (tied s js)) (fun_ext clears-pairs)

-- ---- as statements

-- the label of site i is in order with site j
pub record InOrder (s : Sheet) (js : List ℕ) (i j : ℕ) : Type 0 where
  pub colour : get_or js i 0 ≡ get_or js j 0 → (site_at s i).colour ≡ (site_at s j).colour
  pub far : (get_or js i 0 ≡ get_or js j 0 → ⊥) → is_far s (get_or js i 0) (site_at s i).colour (get_or js j 0) (site_at s j).colour ≡ true
  pub misses : (get_or js i 0 ≡ get_or js j 0 → ⊥) → start_of s (site_at s i) ≤ (site_at s j).x → Miss (height_of s (get_or js i 0)) (site_at s j).y (height_of s (get_or js j 0))
  pub clear : (get_or js i 0 ≡ get_or js j 0 → ⊥) → counts s (start_of s (site_at s i)) (site_at s j).x ≡ true → is_clear s (get_or js i 0) (site_at s j).y ≡ true

-- EVERY PAIR
abbrev pub AllInOrder : Sheet → (ties : List ℕ) → Type 0
AllInOrder s js = (i j : ℕ) → i < length s.sites → j < length s.sites → InOrder s js i j

module _ (s : Sheet) (inside : all (inside_by s.width) s.sites ≡ true) (js : List ℕ) (long : length js ≡ length s.sites) where
  rules-pairs : Rules s js → AllInOrder s js
  rules-pairs r i j hi hj = record {
    colour = r.one i j hi hj;
    far = r.three i j hi hj;
    misses = λ n c. r.four j (get_or js i 0) hj used (λ q. n (sym q)) (omega (arith, left_le s js long i hi));
    clear = λ n c. r.five j (get_or js i 0) hj used (λ q. n (sym q)) (counts-e s.gap _ _ (counts-left s.gap _ _ (site_at s j).x (left_le s js long i hi) c));
  }
    where
      used : is_used (get_or js i 0) js ≡ true
      used = used-at js i (omega arith)

  pairs-rules : AllInOrder s js → RuleTwo s js → Rules s js
  pairs-rules p b = record {
    one = λ i j hi hj. (p i j hi hj).colour;
    two = b;
    three = λ i j hi hj. (p i j hi hj).far;
    four = λ i k hi u n e. let (q, hq, eq, rq) = left_is s js long inside k u in
        subst (λ (z : ℕ). Miss (height_of s z) (site_at s i).y (height_of s (get_or js i 0))) eq
        ((p q i hq hi).misses (λ t. n (sym t ∙ eq)) (omega arith));
    five = λ i k hi u n e. let (q, hq, eq, rq) = left_is s js long inside k u in
        subst (λ (z : ℕ). is_clear s z (site_at s i).y ≡ true) eq
        ((p q i hq hi).clear (λ t. n (sym t ∙ eq)) (subst (λ (z : ℕ). counts s z (site_at s i).x ≡ true) rq (counts-i s.gap _ _ e)));
  }

  -- THEOREM 0: the rules are every pair in order, and rule 2
  pub rules-are-pairs : Rules s js ↔ (AllInOrder s js × RuleTwo s js)
  rules-are-pairs = (λ r. (rules-pairs r, r.two), λ p. pairs-rules p.0 p.1)
