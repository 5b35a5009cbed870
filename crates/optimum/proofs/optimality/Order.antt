-- The order of the sites by rising rank has each site once; sums over it.
use mathlib.Core.Path.{◌≡◌, refl, sym, ap, ap₂, ◌∙◌, subst, subst⁻¹}
use mathlib.Core.Logic.{◌⊎◌, inl, inr}
use mathlib.Core.Bool.{true, false, cond, ◌||◌, not, false≢true}
use mathlib.Core.List.{List, [], ◌∷◌}
use Prim.Native.Nat.{ℕ, zero, suc, ◌+◌, ◌≤◌, ◌<◌}
use native.Mathlib.Omega.{arith}
use lib.Dec.{eqb, leb}
use lib.ListN.{length, get_or, set, length-set}
use borrow.Author.Tests.{leb-true, ltb-true, le-leb, lt-leb, eqb-true, eqb-false, eq-eqb, ne_eqb}
use Rattle.lists.proofs.Tests.{by-test, by_order, by_equal, by-either, clash, or-e, or_l, or_r, and_l, and_r, not_f, is_false, eqb-self}
use Rattle.search.specs.Cost.{least}
use Rattle.search.proofs.Cost.{least-le, least-is, first-le, first-is}
use Rattle.search.specs.Sums.{sum}
use Rattle.search.proofs.Sums.{sum-cong, sum-add, sum-zero, sum-point, sum-pos, sum_ones}
use Rattle.sheet.specs.Limits.{number_top}
use Rattle.sheet.specs.Sheet.{Site, Sheet, rank_of, rank_top, has_rank, ranks_differ, rank_by}
use Rattle.sheet.proofs.Accepted.{Sound, low_x, low_y, rank-low}
use Rattle.labelling.specs.Layout.{is_used}
use Rattle.labelling.proofs.Counted.{sum_over}
use Rattle.labelling.proofs.Members.{no_site, all-at, used-head, used-tail}
use Rattle.labelling.proofs.Earlier.{rank_at}
use Rattle.optimum.specs.OneSided.{rank_from, site_of, order_from, order, scatter}
use Rattle.optimum.proofs.StripsHeld.{set_same, set_other}

-- ---- distinct x

pub has-at : (ss : List Site) (i : ℕ) → i < length ss → has_rank (rank_of (get_or ss i no_site)) ss ≡ true
unfolding has_rank
has-at [] i h = absurd (omega arith)
has-at (s ∷ ss) zero h = rw (eqb-self (rank_of s))
has-at (s ∷ ss) (suc i) h = let g = has-at ss i (omega arith) in by-test (eqb (rank_of s) (rank_of (get_or ss i no_site))) (λ e. rw e) (λ e. rw (e, g))

differ-lt : (ss : List Site) → ranks_differ ss ≡ true → (i j : ℕ) → i < j → j < length ss → rank_of (get_or ss i no_site) ≡ rank_of (get_or ss j no_site) → ⊥
unfolding ranks_differ
differ-lt [] d i j h l e = omega arith
differ-lt (s ∷ ss) d i zero h l e = omega arith
differ-lt (s ∷ ss) d zero (suc j) h l e =
    let f : has_rank (rank_of s) ss ≡ false = not_f _ (and_l (not (has_rank (rank_of s) ss)) (ranks_differ ss) d) in
    let g : has_rank (rank_of s) ss ≡ true = subst⁻¹ (λ (x : ℕ). has_rank x ss ≡ true) e (has-at ss j (omega arith)) in
    clash g f
differ-lt (s ∷ ss) d (suc i) (suc j) h l e = differ-lt ss (and_r (not (has_rank (rank_of s) ss)) (ranks_differ ss) d) i j (omega arith) (omega arith) e

pub same-site : (s : Sheet) → Sound s → (i j : ℕ) → i < length s.sites → j < length s.sites → rank_at s i ≡ rank_at s j → i ≡ j
same-site s o i j hi hj e =
    by_order i j
    (λ h. by_equal i j (λ q. q) (λ n. absurd (differ-lt s.sites o.differ i j (omega arith) hj e)))
    (λ h. absurd (differ-lt s.sites o.differ j i h hi (sym e)))

-- ---- rank, x and y

module _ (s : Sheet) (o : Sound s) where
  y-low : (i : ℕ) → i < length s.sites → (get_or s.sites i no_site).y < number_top
  y-low i h = ltb-true _ _ (all-at low_y no_site s.sites o.ys i h)

  -- x does not fall as the rank rises
  pub rank-x : (i j : ℕ) → i < length s.sites → j < length s.sites → rank_at s i ≤ rank_at s j → (get_or s.sites i no_site).x ≤ (get_or s.sites j no_site).x
  unfolding rank_by
  rank-x i j hi hj h = omega (arith, y-low i hi, y-low j hj)

  -- base only: with columns this holds where the x differ
  pub x-rank : (i j : ℕ) → (get_or s.sites i no_site).x ≤ (get_or s.sites j no_site).x → rank_at s i ≤ rank_at s j
  unfolding rank_by
  x-rank i j h = h

-- ---- lists of sites

-- the rank rises
unfoldable pub Rise : Sheet → List ℕ → Type 0
Rise s [] = Unit
Rise s (i ∷ is) = ((j : ℕ) → is_used j is ≡ true → rank_at s i < rank_at s j) × Rise s is

pub rise-fresh : (s : Sheet) (i : ℕ) (is : List ℕ) → Rise s (i ∷ is) → is_used i is ≡ false
unfolding Rise
rise-fresh s i is r = is_false (is_used i is) (λ u. omega (arith, r.0 i u))

pub record Ordered (s : Sheet) (n a : ℕ) (is : List ℕ) : Type 0 where
  pub long : length is ≡ n
  pub low : (i : ℕ) → is_used i is ≡ true → (i < length s.sites) × (a ≤ rank_at s i)
  pub whole : (i : ℕ) → i < length s.sites → a ≤ rank_at s i → is_used i is ≡ true
  pub rise : Rise s is

module _ (s : Sheet) (o : Sound s) where
  low-at : (i : ℕ) → i < length s.sites → rank_at s i < rank_top
  low-at i h = rank-low (get_or s.sites i no_site) (ltb-true _ _ (all-at low_x no_site s.sites o.xs i h)) (ltb-true _ _ (all-at low_y no_site s.sites o.ys i h))

  -- how many sites lie at a or right of it
  count : ℕ → ℕ
  count a = sum (length s.sites) (λ i. cond (leb a (rank_at s i)) 1 0)

  abbrev Next : ℕ → ℕ → Type 0
  Next a p = (p < length s.sites) × (a ≤ rank_at s p) × (rank_at s p ≡ rank_from s a) × ((i : ℕ) → i < length s.sites → a ≤ rank_at s i → rank_at s p ≤ rank_at s i)

  next-site : (a i : ℕ) → i < length s.sites → a ≤ rank_at s i → Next a (site_of s (rank_from s a))
  unfolding rank_from site_of
  next-site a i h l = go (least-is rank_top n f)
    where
      n : ℕ
      n = length s.sites

      f : ℕ → ℕ
      f j = cond (leb a (rank_at s j)) (rank_at s j) rank_top

      x : ℕ
      x = rank_from s a

      low : (j : ℕ) → j < n → a ≤ rank_at s j → x ≤ rank_at s j
      low j hj lj = let g : least rank_top n f ≤ f j = least-le rank_top n f j hj in rw (le-leb a (rank_at s j) lj) at g

      go : (least rank_top n f ≡ rank_top) ⊎ ((k : ℕ) × (k < n) × (f k ≡ least rank_top n f)) → Next a (site_of s (rank_from s a))
      go (inl e) = absurd (let g : x ≡ rank_top = e in omega (arith, low i h l, low-at i h))
      go (inr (k, hk, e)) =
          by-test (leb a (rank_at s k))
          (λ t. let xk : rank_at s k ≡ x = rw t at e in
          let q : site_of s x ≤ k = first-le n (λ j. eqb (rank_at s j) x) k (eq-eqb (rank_at s k) x xk) in
          let r : rank_at s (site_of s x) ≡ x = eqb-true _ x (first-is n (λ j. eqb (rank_at s j) x) (omega arith)) in
          (omega arith, omega (arith, leb-true a (rank_at s k) t), r, λ j hj lj. omega (arith, low j hj lj)))
          (λ t. absurd (let g : rank_top ≡ x = rw t at e in omega (arith, low i h l, low-at i h)))

  -- taking the leftmost leaves one less
  count_less : (a p : ℕ) → p < length s.sites → a ≤ rank_at s p → ((i : ℕ) → i < length s.sites → a ≤ rank_at s i → rank_at s p ≤ rank_at s i) → count a ≡ 1 + count (suc (rank_at s p))
  unfolding count
  count_less a p h l low =
      sum-cong n _ _ at ∙ sum-add n (λ i. cond (eqb i p) 1 0) (λ i. cond (leb (suc (rank_at s p)) (rank_at s i)) 1 0)
      ∙ ap (λ (z : ℕ). z + sum n (λ i. cond (leb (suc (rank_at s p)) (rank_at s i)) 1 0)) (sum-point n p 1 h)
    where
      n : ℕ
      n = length s.sites

      at : (i : ℕ) → i < n → cond (leb a (rank_at s i)) 1 0 ≡ cond (eqb i p) 1 0 + cond (leb (suc (rank_at s p)) (rank_at s i)) 1 0
      at i hi =
          by_equal i p
          (λ e. let x : rank_at s i ≡ rank_at s p = ap (rank_at s) e in rw (eq-eqb i p e, le-leb a (rank_at s i) (omega arith), lt-leb (suc (rank_at s p)) (rank_at s i) (omega arith)))
          (λ ne. let x : rank_at s i ≡ rank_at s p → ⊥ = λ q. ne (same-site s o i p hi h q) in
          rw (ne_eqb i p ne) (by_order a (rank_at s i)
          (λ t. rw (le-leb a (rank_at s i) t, le-leb (suc (rank_at s p)) (rank_at s i) (omega (arith, low i hi t, x))))
          (λ t. rw (lt-leb a (rank_at s i) t, lt-leb (suc (rank_at s p)) (rank_at s i) (omega arith)))))

  ordered-from : (n a : ℕ) → count a ≡ n → Ordered s n a (order_from s n a)
  unfolding order_from is_used Rise count
  ordered-from zero a e =
      record { long = refl; low = λ i u. absurd (false≢true u); whole = λ i h l. absurd (none i h l); rise = tt }
    where
      none : (i : ℕ) → i < length s.sites → a ≤ rank_at s i → ⊥
      none i h l = let q = next-site a i h l in omega (arith, count_less a _ q.0 q.1 q.3)
  ordered-from (suc n) a e = step (sum-pos (length s.sites) (λ i. cond (leb a (rank_at s i)) 1 0) (omega arith)) (λ c. ordered-from n (suc (rank_from s a)) c)
    where
      p : ℕ
      p = site_of s (rank_from s a)

      L : List ℕ
      L = order_from s n (suc (rank_from s a))

      build : Next a p → Ordered s n (suc (rank_from s a)) L → Ordered s (suc n) a (p ∷ L)
      build q r =
          record {
            long = ap suc r.long;
            low = λ i u. by-either (or-e (eqb p i) (is_used i L) u)
                (λ t. subst (λ (j : ℕ). (j < length s.sites) × (a ≤ rank_at s j)) (eqb-true p i t) (q.0, q.1))
                (λ t. ((r.low i t).0, omega (arith, (r.low i t).1, q.1, q.2)));
            whole = λ i h l. by_equal p i
                (λ t. rw (eq-eqb p i t))
                (λ t. let n' : rank_at s p ≡ rank_at s i → ⊥ = λ e. t (same-site s o p i q.0 h e) in
                rw (ne_eqb p i t) (r.whole i h (omega (arith, q.2, q.3 i h l, n'))));
            rise = (λ j u. omega (arith, (r.low j u).1, q.2), r.rise);
          }

      step : (i : ℕ) × (i < length s.sites) × (0 < cond (leb a (rank_at s i)) 1 0) → (count (suc (rank_from s a)) ≡ n → Ordered s n (suc (rank_from s a)) L) → Ordered s (suc n) a (p ∷ L)
      step (i, h, g) ih =
          let q : Next a p = next-site a i h (by-test (leb a (rank_at s i)) (λ t. leb-true a (rank_at s i) t) (λ t. absurd (let z : 0 < 0 = rw t at g in omega arith))) in
          let c : count a ≡ 1 + count (suc (rank_at s p)) = count_less a p q.0 q.1 q.3 in
          let c' : count (suc (rank_at s p)) ≡ n = omega arith in
          build q (ih (rw q.2 at c'))

  count-all : count 0 ≡ length s.sites
  unfolding count
  count-all = sum-cong (length s.sites) _ (λ i. 1) (λ i h. rw (le-leb 0 (rank_at s i) (omega arith))) ∙ sum_ones (length s.sites)

  -- THE ORDER has each site once, by rising x
  pub ordered : Ordered s (length s.sites) 0 (order s)
  unfolding order
  ordered = ordered-from (length s.sites) 0 count-all

-- ---- slots in the order of sites, and back

unfoldable pub gather : (js is : List ℕ) → List ℕ
gather js [] = []
gather js (i ∷ is) = get_or js i 0 ∷ gather js is

pub scatter-long : (is ks out : List ℕ) → length (scatter out is ks) ≡ length out
unfolding scatter
scatter-long [] ks out = refl
scatter-long (i ∷ is) [] out = refl
scatter-long (i ∷ is) (k ∷ ks) out = scatter-long is ks (set out i k) ∙ length-set out i k

scatter-other : (is ks out : List ℕ) (j : ℕ) → is_used j is ≡ false → get_or (scatter out is ks) j 0 ≡ get_or out j 0
unfolding scatter is_used
scatter-other [] ks out j h = refl
scatter-other (i ∷ is) [] out j h = refl
scatter-other (i ∷ is) (k ∷ ks) out j h =
    scatter-other is ks (set out i k) j (or_r (eqb i j) (is_used j is) h) ∙ set_other out i k j (λ (e : j ≡ i). eqb-false i j (or_l (eqb i j) (is_used j is) h) (sym e))

pub gather-scatter : (s : Sheet) (is ks out : List ℕ) → Rise s is → ((i : ℕ) → is_used i is ≡ true → i < length out) → length ks ≡ length is
    → gather (scatter out is ks) is ≡ ks
unfolding gather scatter Rise
gather-scatter s [] [] out r h l = refl
gather-scatter s [] (k ∷ ks) out r h l = absurd (omega arith)
gather-scatter s (i ∷ is) [] out r h l = absurd (omega arith)
gather-scatter s (i ∷ is) (k ∷ ks) out r h l =
    ap₂ (λ (a : ℕ) (b : List ℕ). a ∷ b)
    (scatter-other is ks (set out i k) i (rise-fresh s i is r) ∙ set_same out i k (h i (used-head i is)))
    (gather-scatter s is ks (set out i k) r.1 (λ j u. rw (length-set out i k) (h j (used-tail j i is u))) (omega arith))

-- ---- a sum over a list of sites

pub sum-over : (s : Sheet) (n : ℕ) (f : ℕ → ℕ) (is : List ℕ) → Rise s is → ((i : ℕ) → is_used i is ≡ true → i < n) → sum_over f is ≡ sum n (λ i. cond (is_used i is) (f i) 0)
unfolding sum_over is_used Rise
sum-over s n f [] r h = sym (sum-zero n)
sum-over s n f (p ∷ is) r h =
    ap₂ ◌+◌ (sym (sum-point n p (f p) (h p (used-head p is)))) (sum-over s n f is r.1 (λ i u. h i (used-tail i p is u)))
    ∙ sym (sum-add n (λ i. cond (eqb i p) (f p) 0) (λ i. cond (is_used i is) (f i) 0))
    ∙ sum-cong n _ _ (λ i _. at i)
  where
    at : (i : ℕ) → cond (eqb i p) (f p) 0 + cond (is_used i is) (f i) 0 ≡ cond (eqb p i || is_used i is) (f i) 0
    at i =
        by_equal i p
        (λ e. rw (e, eq-eqb p p refl, rise-fresh s p is r) (omega arith))
        (λ n. rw (ne_eqb i p n, ne_eqb p i (λ (e : p ≡ i). n (sym e))) (omega arith))

-- over all sites
pub sum-order : (s : Sheet) (o : Sound s) (f : ℕ → ℕ) → sum_over f (order s) ≡ sum (length s.sites) f
sum-order s o f =
    let t = ordered s o in
    sum-over s (length s.sites) f (order s) t.rise (λ i u. (t.low i u).0)
    ∙ sum-cong (length s.sites) _ f (λ i h. rw (t.whole i h (omega arith)))
