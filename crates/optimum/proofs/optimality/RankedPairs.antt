-- THEOREM 0 by rank: the pairs of labelling's proofs/Pairs, each site with those after it, are what `Pairs` says of the lists.
use mathlib.Core.Path.{◌≡◌, refl, sym, ap, ◌∙◌, subst, subst⁻¹}
use mathlib.Core.Bool.{true, false, false≢true}
use mathlib.Core.Logic.{inl}
use mathlib.Core.List.{List, [], ◌∷◌}
use Prim.Native.Nat.{ℕ, suc, ◌≤◌, ◌<◌}
use native.Mathlib.Omega.{arith}
use lib.Dec.{eqb}
use lib.ListN.{length, get_or}
use borrow.Author.Tests.{eqb-true}
use Rattle.lists.proofs.Tests.{by_order, by_equal, by-either, or-e}
use Rattle.sheet.specs.Sheet.{Sheet}
use Rattle.sheet.proofs.Accepted.{Sound}
use Rattle.labelling.specs.Layout.{site_at, is_used, counts, is_clear}
use Rattle.labelling.specs.Pairs.{start_of}
use Rattle.labelling.proofs.Members.{no_site, used-head, used-tail}
use Rattle.labelling.proofs.Earlier.{rank_at}
use Rattle.labelling.proofs.LeftEnd.{start-one}
use Rattle.labelling.proofs.Pairs.{AllInOrder}
use Rattle.optimum.specs.Slots.{far_enough}
use Rattle.optimum.specs.OneSided.{x_of, point_at, points_at, instance_of}
use Rattle.optimum.proofs.Pairs.{Pair, PairAll, Pairs}
use Rattle.optimum.proofs.optimality.Order.{rank-x, x-rank, Rise, gather, same-site}
use Rattle.labelling.proofs.Distances.{counts-i, counts-left}
use Rattle.optimum.proofs.optimality.Distances.{good}
use Rattle.optimum.proofs.optimality.Tips.{tip-e, tip-i, TipsClear, opener}

abbrev pub y_of : Sheet → ℕ → ℕ
y_of s i = (get_or s.sites i no_site).y

abbrev pub colour_of : Sheet → ℕ → ℕ
colour_of s i = (get_or s.sites i no_site).colour

abbrev pub PairAt : Sheet → List ℕ → (i j : ℕ) → Type 0
PairAt s js i j = Pair (instance_of s) (point_at s i) (get_or js i 0) (point_at s j) (get_or js j 0)

-- each with those right of it
abbrev pub AllPairs : Sheet → List ℕ → Type 0
AllPairs s js = (i j : ℕ) → i < length s.sites → j < length s.sites → rank_at s i < rank_at s j → PairAt s js i j

pub pairs-rising : (s : Sheet) → Sound s → s.is_two_sided ≡ false → (js : List ℕ) → AllInOrder s js → AllPairs s js
unfolding far_enough
pairs-rising s o t js p i j hi hj h =
    let q = p i j hi hj in
    let x : start_of s (site_at s i) ≤ x_of s j = omega (arith, start-one s t (site_at s i), rank-x s o i j hi hj (omega arith)) in
    (q.colour, λ n. (q.far n, q.clear n (counts-i s.gap _ _ (inl x)), q.misses n x))

-- a label's first site stands at its tip
pub pairs-tips : (s : Sheet) → s.is_two_sided ≡ false → (js : List ℕ) → AllInOrder s js → TipsClear s js
pairs-tips s t js p q hq first =
    tip-i s q (get_or js q 0) (λ i hi r c. (p q i hq hi).clear (λ e. omega (arith, first i hi (sym e)))
    (subst⁻¹ (λ (e : ℕ). counts s e (x_of s i) ≡ true) (start-one s t (site_at s q)) c))

pub rising-pairs : (s : Sheet) → Sound s → s.is_two_sided ≡ false → (js : List ℕ) → AllPairs s js → TipsClear s js → AllInOrder s js
unfolding far_enough
rising-pairs s o t js p tips i j hi hj = record {
  colour = λ e. by_three (λ h. (p i j hi hj h).0 e) (λ h. sym ((p j i hj hi h).0 (sym e))) (λ q. ap (colour_of s) q);
  far = λ n. by_three (λ h. ((p i j hi hj h).1 n).0) (λ h. (good s o).far-sym (get_or js j 0) (suc (colour_of s j)) (get_or js i 0) (suc (colour_of s i)) ((p j i hj hi h).1 (λ e. n (sym e))).0) (λ q. absurd (n (ap (λ (z : ℕ). get_or js z 0) q)));
  misses = λ n r. by_three (λ h. ((p i j hi hj h).1 n).2) (λ h. absurd (before r h)) (λ q. absurd (n (ap (λ (z : ℕ). get_or js z 0) q)));
  clear = λ n r. by_three (λ h. ((p i j hi hj h).1 n).1) (λ h. left-of n (subst (λ (e : ℕ). counts s e (x_of s j) ≡ true) (start-one s t (site_at s i)) r) h) (λ q. absurd (n (ap (λ (z : ℕ). get_or js z 0) q)));
}
  where
    by_three : {A : Type 0} → (rank_at s i < rank_at s j → A) → (rank_at s j < rank_at s i → A) → (i ≡ j → A) → A
    by_three f g h =
        by_order (rank_at s i) (rank_at s j) (λ l. by_equal (rank_at s i) (rank_at s j) (λ e. h (same-site s o i j hi hj e)) (λ n. f (omega arith))) (λ l. g l)

    -- j comes before i: the first site of i's label, w, comes before j, or its tip is clear of j
    left-of : (get_or js i 0 ≡ get_or js j 0 → ⊥) → counts s (x_of s i) (x_of s j) ≡ true → rank_at s j < rank_at s i → is_clear s (get_or js i 0) (y_of s j) ≡ true
    left-of n r h =
        let w = opener s o js i hi in
        let m : get_or js w.site 0 ≡ get_or js j 0 → ⊥ = λ e. n (sym w.same ∙ e) in
        subst (λ (k : ℕ). is_clear s k (y_of s j) ≡ true) w.same
        (by_order (rank_at s j) (rank_at s w.site)
        (λ l. by_equal (rank_at s j) (rank_at s w.site)
        (λ e. absurd (m (ap (λ (z : ℕ). get_or js z 0) (same-site s o w.site j w.inside hj (sym e)))))
        (λ d. tip-e s w.site (get_or js w.site 0) (tips w.site w.inside (λ u hu e. w.first u hu (e ∙ w.same))) j hj (omega arith)
        (counts-left s.gap _ _ (x_of s j) (rank-x s o w.site i w.inside hi (w.first i hi refl)) r)))
        (λ l. ((p w.site j w.inside hj l).1 m).1))

    before : start_of s (site_at s i) ≤ x_of s j → rank_at s j < rank_at s i → ⊥
    before r h = omega (arith, x-rank s o i j (omega (arith, start-one s t (site_at s i))))

module _ (s : Sheet) (js : List ℕ) where
  all-e : (i : ℕ) (is : List ℕ) → PairAll (instance_of s) (point_at s i) (get_or js i 0) (points_at s is) (gather js is) → (j : ℕ) → is_used j is ≡ true → PairAt s js i j
  unfolding PairAll points_at gather is_used
  all-e i [] h j u = absurd (false≢true u)
  all-e i (k ∷ is) h j u =
      by-either (or-e (eqb k j) (is_used j is) u) (λ e. subst (λ (z : ℕ). PairAt s js i z) (eqb-true k j e) h.0) (λ e. all-e i is h.1 j e)

  all-i : (i : ℕ) (is : List ℕ) → ((j : ℕ) → is_used j is ≡ true → PairAt s js i j) → PairAll (instance_of s) (point_at s i) (get_or js i 0) (points_at s is) (gather js is)
  unfolding PairAll points_at gather
  all-i i [] h = tt
  all-i i (k ∷ is) h = (h k (used-head k is), all-i i is (λ j u. h j (used-tail j k is u)))

  pub list-e : (is : List ℕ) → Rise s is → Pairs (instance_of s) (points_at s is) (gather js is) → (i j : ℕ) → is_used i is ≡ true → is_used j is ≡ true → rank_at s i < rank_at s j → PairAt s js i j
  unfolding Pairs points_at gather is_used Rise
  list-e [] r h i j ui uj l = absurd (false≢true ui)
  list-e (k ∷ is) r h i j ui uj l =
      by-either (or-e (eqb k i) (is_used i is) ui)
      (λ e. by-either (or-e (eqb k j) (is_used j is) uj)
      (λ f. absurd (omega (arith, ap (rank_at s) (sym (eqb-true k i e) ∙ eqb-true k j f))))
      (λ f. subst (λ (z : ℕ). PairAt s js z j) (eqb-true k i e) (all-e k is h.0 j f)))
      (λ e. by-either (or-e (eqb k j) (is_used j is) uj)
      (λ f. absurd (omega (arith, r.0 i e, ap (rank_at s) (eqb-true k j f))))
      (λ f. list-e is r.1 h.1 i j e f l))

  pub list-i : (is : List ℕ) → Rise s is → ((i j : ℕ) → is_used i is ≡ true → is_used j is ≡ true → rank_at s i < rank_at s j → PairAt s js i j) → Pairs (instance_of s) (points_at s is) (gather js is)
  unfolding Pairs points_at gather Rise
  list-i [] r h = tt
  list-i (k ∷ is) r h =
      (all-i k is (λ j u. h k j (used-head k is) (used-tail j k is u) (r.0 j u)), list-i is r.1 (λ i j ui uj. h i j (used-tail i k is ui) (used-tail j k is uj)))
