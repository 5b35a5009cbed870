-- Theorem 1, the numbers: count, length and the labels of a colour are sums over the steps of the walk, since the leftmost site of a
-- label is the one that opens it.
use mathlib.Core.Path.{◌≡◌, refl, sym, ap, ap₂, ◌∙◌, subst}
use mathlib.Core.Bool.{Bool, true, false, cond}
use mathlib.Core.List.{List, [], ◌∷◌}
use Prim.Native.Nat.{ℕ, zero, suc, ◌+◌, ◌-◌, ◌≤◌, ◌<◌}
use native.Mathlib.Omega.{arith}
use lib.ListN.{length, get_or, replicate, length-replicate}
use borrow.Author.Tests.{eq-eqb, ne_eqb}
use Rattle.lists.proofs.Tests.{by_equal, is_false}
use Rattle.search.specs.Sums.{sum}
use Rattle.search.proofs.Sums.{sum-cong, sum-front}
use Rattle.sheet.specs.Sheet.{Site, Sheet}
use Rattle.sheet.proofs.Accepted.{Sound}
use Rattle.labelling.specs.Layout.{tied_of, tied, site_share, height_of, is_used, used_from, used_of, left_end, slots_of, count_of, backbones, drops}
use Rattle.labelling.proofs.Members.{no_site, used-at, at-used}
use Rattle.labelling.proofs.LeftEnd.{left-end}
use Rattle.labelling.proofs.Counted.{slots_at, at_slots, sum_over, length_over, backbones-over}
use Rattle.optimum.specs.Strips.{Point}
use Rattle.optimum.specs.OneSided.{lead_of, x_of, order, point_at, points_at, instance_of}
use Rattle.optimum.proofs.Steps.{Steps, is_free, opened, shares}
use Rattle.optimum.proofs.Pairs.{zeros}
use Rattle.optimum.proofs.optimality.Opened.{first_of, Leads, leads, opened-sum}
use Rattle.optimum.proofs.optimality.Pays.{is_of}
use Rattle.optimum.proofs.optimality.Order.{rank-x, ordered, gather, sum-order}
use Rattle.optimum.proofs.optimality.RankedPairs.{y_of, colour_of}

-- ---- sums

used-sum : (w : ℕ → ℕ) (n a : ℕ) (js : List ℕ) → sum_over w (used_from a n js) ≡ sum n (λ k. cond (is_used (a + k) js) (w (a + k)) 0)
unfolding used_from sum_over
used-sum w zero a js = unfold sum in refl
used-sum w (suc n) a js =
    head (is_used a js) refl ∙ ap₂ ◌+◌ at_zero (used-sum w n (suc a) js ∙ sum-cong n _ _ (λ k _. ap (λ (z : ℕ). cond (is_used z js) (w z) 0) (omega arith)))
    ∙ sym (sum-front n (λ k. cond (is_used (a + k) js) (w (a + k)) 0))
  where
    head : (b : Bool) → is_used a js ≡ b → sum_over w (cond b (a ∷ used_from (suc a) n js) (used_from (suc a) n js)) ≡ cond b (w a) 0 + sum_over w (used_from (suc a) n js)
    head true e = refl
    head false e = omega arith

    at_zero : cond (is_used a js) (w a) 0 ≡ cond (is_used (a + 0) js) (w (a + 0)) 0
    at_zero = ap (λ (z : ℕ). cond (is_used z js) (w z) 0) (omega arith)

used-sum-0 : (w : ℕ → ℕ) (n : ℕ) (js : List ℕ) → sum_over w (used_from 0 n js) ≡ sum n (λ k. cond (is_used k js) (w k) 0)
used-sum-0 w n js = used-sum w n 0 js ∙ sum-cong n _ _ (λ k _. ap (λ (z : ℕ). cond (is_used z js) (w z) 0) (omega arith))

drops-sum : (s : Sheet) (ss : List Site) (js : List ℕ) → length js ≡ length ss
    → drops s (tied_of ss js) ≡ sum (length ss) (λ i. site_share s (height_of s (get_or js i 0)) (get_or ss i no_site).y)
unfolding drops tied_of
drops-sum s [] js l = unfold sum in refl
drops-sum s (t ∷ ss) [] l = absurd (omega arith)
drops-sum s (t ∷ ss) (j ∷ js) l =
    ap (λ (z : ℕ). site_share s (height_of s j) t.y + z) (drops-sum s ss js (omega arith)) ∙ sym (sum-front (length ss) (λ i. site_share s (height_of s (get_or (j ∷ js) i 0)) (get_or (t ∷ ss) i no_site).y))

shares_sum : (s : Sheet) (js is : List ℕ) → shares (instance_of s) (points_at s is) (gather js is) ≡ sum_over (λ i. site_share s (height_of s (get_or js i 0)) (y_of s i)) is
unfolding shares points_at gather sum_over
shares_sum s js [] = refl
shares_sum s js (i ∷ is) = ap (λ (z : ℕ). site_share s (height_of s (get_or js i 0)) (y_of s i) + z) (shares_sum s js is)

-- the sites' shares are the drops
pub shares-drops : (s : Sheet) → Sound s → (js : List ℕ) → length js ≡ length s.sites → shares (instance_of s) (points_at s (order s)) (gather js (order s)) ≡ drops s (tied s js)
shares-drops s o js l = shares_sum s js (order s) ∙ sum-order s o (λ i. site_share s (height_of s (get_or js i 0)) (y_of s i)) ∙ sym (drops-sum s s.sites js l)

-- ---- count, length and colours of the whole walk

module _ (s : Sheet) (o : Sound s) (one : s.is_two_sided ≡ false) (js : List ℕ) (long : length js ≡ length s.sites) where
  member : (i : ℕ) → i < length s.sites → is_used i (order s) ≡ true
  member i h = (ordered s o).whole i h (omega arith)

  first-used : (k : ℕ) → (w : ℕ) (g : Point → ℕ) → ((p : ℕ) → p < length s.sites → get_or js p 0 ≡ k → ((i : ℕ) → i < length s.sites → get_or js i 0 ≡ k → x_of s p ≤ x_of s i) → g (point_at s p) ≡ w)
      → first_of g k (points_at s (order s)) (gather js (order s)) ≡ cond (is_used k js) w 0
  first-used k w g h = go (leads s js (order s) k (ordered s o).rise)
    where
      go : Leads s js (order s) k → first_of g k (points_at s (order s)) (gather js (order s)) ≡ cond (is_used k js) w 0
      go (Leads.nobody f q) =
          let n : is_used k js ≡ false = is_false (is_used k js) (λ u. let (i, l, e) = at-used k js u in f i (member i (omega arith)) e) in
          rw n (q g)
      go (Leads.somebody p u e f q) =
          let l = ((ordered s o).low p u).0 in
          let y : is_used k js ≡ true = subst (λ (z : ℕ). is_used z js ≡ true) e (used-at js p (omega arith)) in
          rw y (q g ∙ h p l e (λ i hi ei. rank-x s o p i l hi (f i (member i hi) ei)))

  first-lead : (k : ℕ) → first_of (λ t. lead_of s t.x) k (points_at s (order s)) (gather js (order s)) ≡ cond (is_used k js) (s.width - left_end s js k) 0
  unfolding lead_of
  first-lead k = first-used k (s.width - left_end s js k) (λ t. lead_of s t.x) (λ p h e f.
      ap (λ (z : ℕ). s.width - z)
      (let y : is_used k js ≡ true = subst (λ (z : ℕ). is_used z js ≡ true) e (used-at js p (omega arith)) in
      let q = left-end s o js long one k y in
      omega (arith, q.least p h e, q.there, f q.place q.inside q.tied)))

  -- of one colour, where sites that share a slot share a colour
  first-colour : ((i j : ℕ) → i < length s.sites → j < length s.sites → get_or js i 0 ≡ get_or js j 0 → colour_of s i ≡ colour_of s j) → (c k : ℕ)
      → first_of (is_of c) k (points_at s (order s)) (gather js (order s)) ≡ cond (is_used k (slots_of c (tied s js))) 1 0
  first-colour agree c k = go (leads s js (order s) k (ordered s o).rise)
    where
      go : Leads s js (order s) k → first_of (is_of c) k (points_at s (order s)) (gather js (order s)) ≡ cond (is_used k (slots_of c (tied s js))) 1 0
      go (Leads.nobody f q) =
          let n : is_used k (slots_of c (tied s js)) ≡ false = is_false (is_used k (slots_of c (tied s js))) (λ u. let (i, l, e, z) = at_slots c k s.sites js long u in f i (member i l) e) in
          rw n (q (is_of c))
      go (Leads.somebody p u e f q) =
          let l = ((ordered s o).low p u).0 in
          q (is_of c) ∙ by_equal (colour_of s p) c
          (λ z. rw (eq-eqb (colour_of s p) c z, slots_at c k s.sites js p long l e z))
          (λ z. let n : is_used k (slots_of c (tied s js)) ≡ false = is_false (is_used k (slots_of c (tied s js)))
          (λ v. let (i, h, w, y) = at_slots c k s.sites js long v in z (agree p i l h (e ∙ sym w) ∙ y)) in
          rw (ne_eqb (colour_of s p) c z, n))

  module _ (steps : Steps (instance_of s) (replicate (length s.slots) 0) (points_at s (order s)) (gather js (order s))) where
    opened-all : (g : Point → ℕ) → opened (instance_of s) g (replicate (length s.slots) 0) (points_at s (order s)) (gather js (order s))
        ≡ sum (length s.slots) (λ k. first_of g k (points_at s (order s)) (gather js (order s)))
    unfolding is_free
    opened-all g =
        opened-sum (instance_of s) g (points_at s (order s)) (gather js (order s)) (replicate (length s.slots) 0) (length-replicate (length s.slots) 0) steps
        ∙ sum-cong (length s.slots) _ _ (λ k _. rw (zeros (length s.slots) k))

    pub count-is : opened (instance_of s) (λ t. 1) (replicate (length s.slots) 0) (points_at s (order s)) (gather js (order s)) ≡ count_of s js
    count-is =
        opened-all (λ t. 1)
        ∙ sum-cong (length s.slots) _ _ (λ k _. first-used k 1 (λ t. 1) (λ p h e f. refl))
        ∙ sym (length_over (used_of s js) ∙ used-sum-0 (λ k. 1) (length s.slots) js)

    pub lead_is : opened (instance_of s) (λ t. lead_of s t.x) (replicate (length s.slots) 0) (points_at s (order s)) (gather js (order s)) ≡ backbones s js (used_of s js)
    lead_is =
        opened-all (λ t. lead_of s t.x)
        ∙ sum-cong (length s.slots) _ _ (λ k _. first-lead k)
        ∙ sym (backbones-over s js (used_of s js) ∙ used-sum-0 (λ k. s.width - left_end s js k) (length s.slots) js)

    pub colour-is : ((i j : ℕ) → i < length s.sites → j < length s.sites → get_or js i 0 ≡ get_or js j 0 → colour_of s i ≡ colour_of s j) → (c : ℕ)
        → opened (instance_of s) (is_of c) (replicate (length s.slots) 0) (points_at s (order s)) (gather js (order s)) ≡ length (used_of s (slots_of c (tied s js)))
    colour-is agree c =
        opened-all (is_of c)
        ∙ sum-cong (length s.slots) _ _ (λ k _. first-colour agree c k)
        ∙ sym (length_over (used_of s (slots_of c (tied s js))) ∙ used-sum-0 (λ k. 1) (length s.slots) (slots_of c (tied s js)))
