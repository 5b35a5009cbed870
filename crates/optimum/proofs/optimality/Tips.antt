-- TIPS: rule 5 of the sites before a label's first is a test of that site alone, and, along the order, of each step that opens a label.
-- Assumes nothing but that the sheet is accepted.
use mathlib.Core.Path.{◌≡◌, refl, sym, ap, ◌∙◌, subst}
use mathlib.Core.Bool.{true, false, not, ◌||◌, false≢true}
use mathlib.Core.List.{List, [], ◌∷◌}
use Prim.Native.Nat.{ℕ, suc, ◌≤◌, ◌<◌}
use native.Mathlib.Omega.{arith}
use lib.Dec.{eqb, ltb}
use lib.ListN.{length, get_or, set, length-set}
use borrow.Author.Tests.{ltb-true, lt-ltb, eqb-true, eq-eqb, ne_eqb}
use Rattle.lists.proofs.Tests.{by-test, by_equal, by-either, or-e, not-not}
use Rattle.search.proofs.Masks.{mask-bit}
use Rattle.sheet.specs.Sheet.{Sheet}
use Rattle.sheet.proofs.Accepted.{Sound}
use Rattle.labelling.specs.Layout.{site_at, is_used, counts, is_clear}
use Rattle.labelling.proofs.Earlier.{rank_at}
use Rattle.labelling.proofs.Members.{no_site, all-at, at_all, used-head, used-tail}
use Rattle.optimum.specs.OneSided.{x_of, tip_passes, tip_clear, barred_of, has_slot, order, points_at, instance_of}
use Rattle.optimum.proofs.StripsHeld.{set_same, set_other}
use Rattle.optimum.proofs.Steps.{is_free, Tips}
use Rattle.optimum.proofs.optimality.Order.{Rise, ordered, gather}
use Rattle.optimum.proofs.optimality.Opened.{Leads, leads}

-- ---- of one label

module _ (s : Sheet) (i k : ℕ) where
  -- a slot is barred just where the tip of a label there is not clear
  pub barred-tip : k < length s.slots → not (has_slot (barred_of s i) k) ≡ tip_clear s i k
  unfolding has_slot barred_of
  barred-tip h = ap not (mask-bit (λ k. not (tip_clear s i k)) (length s.slots) k h) ∙ not-not (tip_clear s i k)

  -- the test: each site before it that counts is clear of the label
  pub tip-e : tip_clear s i k ≡ true → (u : ℕ) → u < length s.sites → rank_at s u < rank_at s i → counts s (x_of s i) (x_of s u) ≡ true → is_clear s k (site_at s u).y ≡ true
  unfolding tip_clear
  tip-e h u l r c =
      let e = all-at (tip_passes s i k) no_site s.sites h u l in
      rw (lt-ltb (rank_at s u) (rank_at s i) r, c) at e

  pub tip-i : ((u : ℕ) → u < length s.sites → rank_at s u < rank_at s i → counts s (x_of s i) (x_of s u) ≡ true → is_clear s k (site_at s u).y ≡ true) → tip_clear s i k ≡ true
  unfolding tip_clear
  tip-i f =
      at_all (tip_passes s i k) no_site s.sites
      (λ u l. by-test (ltb (rank_at s u) (rank_at s i))
      (λ p. by-test (counts s (x_of s i) (x_of s u)) (λ q. rw (p, q) (f u l (ltb-true _ _ p) q)) (λ q. rw (p, q)))
      (λ p. rw p))

-- EVERY LABEL'S TIP is clear: that of each site that is the first of its label
abbrev pub TipsClear : Sheet → (ties : List ℕ) → Type 0
TipsClear s js =
    (p : ℕ) → p < length s.sites → ((u : ℕ) → u < length s.sites → get_or js u 0 ≡ get_or js p 0 → rank_at s p ≤ rank_at s u) →
    tip_clear s p (get_or js p 0) ≡ true

-- every label has a first site
pub record Opener (s : Sheet) (js : List ℕ) (q : ℕ) : Type 0 where
  pub site : ℕ
  pub inside : site < length s.sites
  pub same : get_or js site 0 ≡ get_or js q 0
  pub first : (u : ℕ) → u < length s.sites → get_or js u 0 ≡ get_or js q 0 → rank_at s site ≤ rank_at s u

pub opener : (s : Sheet) → Sound s → (js : List ℕ) (q : ℕ) → q < length s.sites → Opener s js q
opener s o js q hq = go (leads s js (order s) (get_or js q 0) (ordered s o).rise)
  where
    member : (u : ℕ) → u < length s.sites → is_used u (order s) ≡ true
    member u h = (ordered s o).whole u h (omega arith)

    go : Leads s js (order s) (get_or js q 0) → Opener s js q
    go (Leads.nobody f g) = absurd (f q (member q hq) refl)
    go (Leads.somebody p u e f g) = record { site = p; inside = ((ordered s o).low p u).0; same = e; first = λ v hv ev. f v (member v hv) ev }

-- ---- along the order

module _ (s : Sheet) (js : List ℕ) where
  -- each site that is not in the list has its label open
  pub tips-i : (is : List ℕ) (L : List ℕ) → length L ≡ length s.slots → Rise s is → ((i : ℕ) → is_used i is ≡ true → (i < length s.sites) × (get_or js i 0 < length s.slots))
      → ((u : ℕ) → u < length s.sites → is_used u is ≡ false → 0 < get_or L (get_or js u 0) 0) → TipsClear s js → Tips (instance_of s) L (points_at s is) (gather js is)
  unfolding Tips points_at gather Rise is_free is_used
  tips-i [] L l r low done f = tt
  tips-i (i ∷ is) L l r low done f = (
    λ e. barred-tip s i (get_or js i 0) (low i (used-head i is)).1 ∙ f i (low i (used-head i is)).0 (λ u hu eu. by-test (eqb i u || is_used u is)
        (λ v. by-either (or-e (eqb i u) (is_used u is) v) (λ w. omega (arith, ap (rank_at s) (eqb-true i u w))) (λ w. omega (arith, r.0 u w)))
        (λ v. absurd (omega (arith, done u hu v, eqb-true (get_or L (get_or js i 0) 0) 0 e, ap (λ (z : ℕ). get_or L z 0) eu)))),
    tips-i is K (length-set L k c ∙ l) r.1 (λ j u. low j (used-tail j i is u)) next f,
  )
    where
      k : ℕ
      k = get_or js i 0

      c : ℕ
      c = suc (site_at s i).colour

      K : List ℕ
      K = set L k c

      next : (u : ℕ) → u < length s.sites → is_used u is ≡ false → 0 < get_or K (get_or js u 0) 0
      next u hu e =
          by_equal (get_or js u 0) k
          (λ q. rw (q, set_same L k c (omega (arith, (low i (used-head i is)).1))) (omega arith))
          (λ q. rw (set_other L k c (get_or js u 0) q) (done u hu (rw (ne_eqb i u (λ (w : i ≡ u). q (ap (λ (z : ℕ). get_or js z 0) (sym w)))) e)))

  pub tips-e : (is : List ℕ) (L : List ℕ) → Rise s is → Tips (instance_of s) L (points_at s is) (gather js is) → (p : ℕ) → is_used p is ≡ true → get_or js p 0 < length s.slots
      → ((u : ℕ) → is_used u is ≡ true → get_or js u 0 ≡ get_or js p 0 → rank_at s p ≤ rank_at s u) → get_or L (get_or js p 0) 0 ≡ 0 → tip_clear s p (get_or js p 0) ≡ true
  unfolding Tips points_at gather Rise is_free is_used
  tips-e [] L r h p u l f z = absurd (false≢true u)
  tips-e (i ∷ is) L r h p u l f z =
      by-either (or-e (eqb i p) (is_used p is) u)
      (λ e. sym (barred-tip s p (get_or js p 0) l) ∙ subst (λ (q : ℕ). not (has_slot (barred_of s q) (get_or js q 0)) ≡ true) (eqb-true i p e)
      (h.0 (eq-eqb _ 0 (ap (λ (q : ℕ). get_or L (get_or js q 0) 0) (eqb-true i p e) ∙ z))))
      (λ e. tips-e is (set L (get_or js i 0) (suc (site_at s i).colour)) r.1 h.1 p e l (λ v w. f v (used-tail v i is w))
      (set_other L (get_or js i 0) _ (get_or js p 0) (λ (q : get_or js p 0 ≡ get_or js i 0). omega (arith, r.0 p e, f i (used-head i is) (sym q))) ∙ z))
