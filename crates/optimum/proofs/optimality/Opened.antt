-- The sum over the sites that open a label is a sum over the slots: each slot's first site opens it. Which site that is, by rank.
use mathlib.Core.Path.{◌≡◌, refl, sym, ap, ap₂, ◌∙◌}
use mathlib.Core.Bool.{true, false, cond, false≢true}
use mathlib.Core.List.{List, [], ◌∷◌}
use Prim.Native.Nat.{ℕ, suc, ◌+◌, ◌≤◌, ◌<◌}
use native.Mathlib.Omega.{arith}
use lib.Dec.{eqb}
use lib.ListN.{length, get_or, set, length-set}
use borrow.Author.Tests.{eqb-true, eqb-false, eq-eqb, ne_eqb}
use Rattle.lists.proofs.Tests.{by-test, by_equal, by-either, or-e}
use Rattle.search.specs.Sums.{sum}
use Rattle.search.proofs.Sums.{sum-cong, sum-add, sum-zero, sum-point}
use Rattle.sheet.specs.Sheet.{Sheet}
use Rattle.labelling.specs.Layout.{is_used}
use Rattle.labelling.proofs.Earlier.{rank_at}
use Rattle.labelling.proofs.Members.{used-head, used-tail}
use Rattle.optimum.specs.OneSided.{point_at, points_at}
use Rattle.optimum.specs.Strips.{Point, Instance}
use Rattle.optimum.proofs.StripsHeld.{set_same, set_other}
use Rattle.optimum.proofs.Steps.{Steps, is_free, opened}
use Rattle.optimum.proofs.optimality.Order.{Rise, gather}

-- g of the first site at slot k
unfoldable pub first_of : (Point → ℕ) → ℕ → List Point → List ℕ → ℕ
first_of g k [] ks = 0
first_of g k (s ∷ ss) [] = 0
first_of g k (s ∷ ss) (j ∷ ks) = cond (eqb j k) (g s) (first_of g k ss ks)

module _ (P : Instance) where
  open P.slots use {m}

  pub free-same : (L : List ℕ) (k c : ℕ) → k < length L → is_free P (set L k (suc c)) k ≡ false
  unfolding is_free
  free-same L k c h = rw (set_same L k (suc c) h) (ne_eqb (suc c) 0 (λ (e : suc c ≡ 0). omega arith))

  pub free_other : (L : List ℕ) (k c j : ℕ) → (j ≡ k → ⊥) → is_free P (set L k c) j ≡ is_free P L j
  unfolding is_free
  free_other L k c j n = rw (set_other L k c j n)

  -- THE SITES THAT OPEN A LABEL, slot by slot: the first at each slot
  pub opened-sum : (g : Point → ℕ) (ss : List Point) (ks : List ℕ) (L : List ℕ) → length L ≡ m → Steps P L ss ks
      → opened P g L ss ks ≡ sum m (λ k. cond (is_free P L k) (first_of g k ss ks) 0)
  unfolding opened Steps first_of
  opened-sum g [] [] L l h = sym (sum-cong m _ (λ k. 0) (λ k _. by-test (is_free P L k) (λ e. rw e) (λ e. rw e)) ∙ sum-zero m)
  opened-sum g [] (k ∷ ks) L l h = absurd h
  opened-sum g (s ∷ ss) [] L l h = absurd h
  opened-sum g (s ∷ ss) (j ∷ ks) L l h =
      let K = set L j (suc s.c) in
      let u = h.0.slot in
      let a = cond (is_free P L j) (g s) 0 in
      let ih = opened-sum g ss ks K (length-set L j (suc s.c) ∙ l) h.1 in
      ap₂ ◌+◌ (sym (sum-point m j a u)) ih
      ∙ sym (sum-add m (λ k. cond (eqb k j) a 0) (λ k. cond (is_free P K k) (first_of g k ss ks) 0))
      ∙ sum-cong m _ _ (λ k _. at k)
    where
      at : (k : ℕ) → cond (eqb k j) (cond (is_free P L j) (g s) 0) 0 + cond (is_free P (set L j (suc s.c)) k) (first_of g k ss ks) 0
          ≡ cond (is_free P L k) (cond (eqb j k) (g s) (first_of g k ss ks)) 0
      at k =
          by_equal k j
          (λ e. rw (e, eq-eqb j j refl, free-same L j s.c (omega (arith, h.0.slot))) (omega arith))
          (λ n. rw (ne_eqb k j n, ne_eqb j k (λ (e : j ≡ k). n (sym e)), free_other L j (suc s.c) k n) (omega arith))

-- ---- the first site at a slot, along a list of sites by rising rank

pub data Leads (s : Sheet) (js is : List ℕ) (k : ℕ) : Type 0 where
  nobody : ((i : ℕ) → is_used i is ≡ true → get_or js i 0 ≡ k → ⊥) → ((g : Point → ℕ) → first_of g k (points_at s is) (gather js is) ≡ 0) → Leads s js is k
  somebody : (p : ℕ) → is_used p is ≡ true → get_or js p 0 ≡ k → ((i : ℕ) → is_used i is ≡ true → get_or js i 0 ≡ k → rank_at s p ≤ rank_at s i)
      → ((g : Point → ℕ) → first_of g k (points_at s is) (gather js is) ≡ g (point_at s p)) → Leads s js is k

pub leads : (s : Sheet) (js is : List ℕ) (k : ℕ) → Rise s is → Leads s js is k
unfolding first_of points_at gather Rise is_used
leads s js [] k r = Leads.nobody (λ i u e. false≢true u) (λ g. refl)
leads s js (i ∷ is) k r =
    by-test (eqb (get_or js i 0) k)
    (λ t. Leads.somebody i (used-head i is) (eqb-true _ k t)
    (λ j u e. by-either (or-e (eqb i j) (is_used j is) u) (λ q. omega (arith, ap (rank_at s) (eqb-true i j q))) (λ q. omega (arith, r.0 j q)))
    (λ g. rw t))
    (λ t. later t (leads s js is k r.1))
  where
    later : eqb (get_or js i 0) k ≡ false → Leads s js is k → Leads s js (i ∷ is) k
    later t (Leads.nobody f g) =
        Leads.nobody (λ j u e. by-either (or-e (eqb i j) (is_used j is) u) (λ q. eqb-false (get_or js i 0) k t (ap (λ (z : ℕ). get_or js z 0) (eqb-true i j q) ∙ e)) (λ q. f j q e)) (λ h. rw t (g h))
    later t (Leads.somebody p u e f g) =
        Leads.somebody p (used-tail p i is u) e
        (λ j v q. by-either (or-e (eqb i j) (is_used j is) v)
        (λ z. absurd (eqb-false (get_or js i 0) k t (ap (λ (z : ℕ). get_or js z 0) (eqb-true i j z) ∙ q)))
        (λ z. f j z q)) (λ h. rw t (g h))
