-- The slots that are barred to a site, from the arrays by rank, are the sheet's. Assumes nothing but that the sheet is accepted.
use mathlib.Core.Path.{◌≡◌, refl, sym, ap, ◌∙◌, subst, subst⁻¹, fun_ext}
use mathlib.Core.Bool.{Bool, true, false, not, ◌||◌}
use mathlib.Core.List.{List, [], ◌∷◌}
use Prim.Native.Nat.{ℕ, zero, suc, ◌+◌, ◌<◌}
use native.Mathlib.Numerals.{add-one}
use native.Mathlib.Omega.{arith}
use lib.Bits.{bit_or}
use lib.ListN.{length, get_or}
use Rattle.lists.proofs.Tests.{same_test, by-test, by_order, by_equal, and-true, not-and}
use Rattle.search.specs.Masks.{mask_by}
use Rattle.search.proofs.Masks.{mask-cong, mask-empty, mask-or}
use Rattle.sheet.specs.Sheet.{Sheet}
use Rattle.sheet.proofs.Accepted.{Sound}
use Rattle.labelling.specs.Layout.{site_at, height_of, counts_by, clear_by, counts, is_clear}
use Rattle.labelling.specs.Counted.{all_before}
use Rattle.labelling.proofs.Earlier.{rank_at}
use Rattle.labelling.proofs.Members.{used-at, at-used}
use Rattle.labelling.proofs.Counted.{all-before, before-all}
use Rattle.optimum.specs.OneSided.{x_of, tip_clear, barred_of, order}
use Rattle.optimum.proofs.optimality.Order.{Rise, ordered}
use Rattle.optimum.proofs.optimality.Tips.{tip-e, tip-i}
use Rattle.decoding.proofs.Places.{xs-at, ys-at}
use Rattle.arrays.specs.Arrays.{measures_of, xs_of, ys_of, gathered, lets_open, tip_clear_by, near_slots, barred_from, barred_by}
use Rattle.arrays.proofs.Ordered.{gathered-word}

-- ranks rise along the order
rises : (s : Sheet) (is : List ℕ) → Rise s is → (i j : ℕ) → i < j → j < length is → rank_at s (get_or is i 0) < rank_at s (get_or is j 0)
unfolding Rise
rises s [] r i j h l = absurd (omega arith)
rises s (p ∷ is) r i zero h l = absurd (omega arith)
rises s (p ∷ is) r zero (suc j) h l = r.0 (get_or is j 0) (used-at is j (omega arith))
rises s (p ∷ is) r (suc i) (suc j) h l = rises s is r.1 i j (omega arith) (omega arith)

module _ (s : Sheet) (o : Sound s) (j : ℕ) (lj : j < length (order s)) where
  abbrev xs : List ℕ
  xs = gathered (xs_of s.sites) (order s)

  abbrev ys : List ℕ
  ys = gathered (ys_of s.sites) (order s)

  -- the site of a rank
  site : ℕ → ℕ
  site i = get_or (order s) i 0

  x-is : (i : ℕ) → i < length (order s) → get_or xs i 0 ≡ (site_at s (site i)).x
  unfolding site
  x-is i h = gathered-word (xs_of s.sites) (order s) i h ∙ xs-at s.sites (get_or (order s) i 0)

  y-is : (i : ℕ) → i < length (order s) → get_or ys i 0 ≡ (site_at s (site i)).y
  unfolding site
  y-is i h = gathered-word (ys_of s.sites) (order s) i h ∙ ys-at s.sites (get_or (order s) i 0)

  -- a site of the arrays lets it open a label where the sheet's site does
  lets-is : (k i : ℕ) → i < length (order s) → lets_open s.gap xs ys j (height_of s k) i ≡ (not (counts s (x_of s (site j)) (x_of s (site i))) || is_clear s k (site_at s (site i)).y)
  lets-is k i h = rw (x-is j lj, x-is i h, y-is i h) refl

  -- a site of a lower rank comes before it
  comes : (i : ℕ) → i < length (order s) → rank_at s (site i) < rank_at s (site j) → i < j
  unfolding site
  comes i h r =
      by_order j i
      (λ l. by_equal j i (λ e. absurd (omega (arith, ap (λ (z : ℕ). rank_at s (get_or (order s) z 0)) e))) (λ n. absurd (omega (arith, rises s (order s) (ordered s o).rise j i (omega arith) h))))
      (λ l. l)

  tip_same : (k : ℕ) → tip_clear_by s.gap s.slots xs ys j j k ≡ tip_clear s (site j) k
  unfolding site
  tip_same k =
      same_test (all_before lets j) (tip_clear s (site j) k)
      (λ h. tip-i s (site j) k (λ u l r c.
      let (i, li, e) = at-used u (order s) ((ordered s o).whole u l (omega arith)) in
      let g : lets i ≡ true = all-before lets j h i (comes i li (subst⁻¹ (λ (z : ℕ). rank_at s z < rank_at s (site j)) e r)) in
      let f : (not (counts s (x_of s (site j)) (x_of s u)) || is_clear s k (site_at s u).y) ≡ true = subst (λ (z : ℕ). (not (counts s (x_of s (site j)) (x_of s z)) || is_clear s k (site_at s z).y) ≡ true) e (sym (lets-is k i li) ∙ g) in
      rw c at f))
      (λ h. before-all lets j (λ i l.
      let li : i < length (order s) = omega arith in
      lets-is k i li ∙ by-test (counts s (x_of s (site j)) (x_of s (site i)))
      (λ c. rw c (tip-e s (site j) k h (site i) ((ordered s o).low (site i) (used-at (order s) i li)).0 (rises s (order s) (ordered s o).rise i j l lj) c))
      (λ c. rw c)))
    where
      lets : ℕ → Bool
      lets i = lets_open s.gap xs ys j (height_of s k) i

  pub barred-by : barred_by (measures_of s) s.slots xs ys j ≡ barred_of s (get_or (order s) j 0)
  unfolding barred_from barred_of site
  barred-by = ap (λ (t : ℕ → Bool). mask_by t (length s.slots)) (fun_ext (λ k. ap not (tip_same k)))

-- ---- as a loop over the sites before it finds them

module _ (d : ℕ) (hs xs ys : List ℕ) (j : ℕ) where
  -- before the first none is barred
  pub barred-none : 0 ≡ barred_from d hs xs ys j 0
  unfolding barred_from all_before
  barred-none = sym (mask-empty (length hs))

  -- a site that does not count bars none
  pub barred-past : (i : ℕ) → counts_by d (get_or xs j 0) (get_or xs i 0) ≡ false → barred_from d hs xs ys j i ≡ barred_from d hs xs ys j (i + 1)
  unfolding barred_from all_before
  barred-past i c = rw (add-one i) (mask-cong _ _ (length hs) (λ k l. rw c (ap not (sym (and-true (all_before (lets_open d xs ys j (get_or hs k 0)) i))))))

  -- one that counts bars those that are not clear of it
  pub barred-more : (i : ℕ) → counts_by d (get_or xs j 0) (get_or xs i 0) ≡ true
      → bit_or (barred_from d hs xs ys j i) (near_slots d hs (get_or ys i 0)) ≡ barred_from d hs xs ys j (i + 1)
  unfolding barred_from near_slots all_before
  barred-more i c =
      rw (add-one i) (mask-or _ _ (length hs) ∙ mask-cong _ _ (length hs) (λ k l. rw c (not-and (all_before (lets_open d xs ys j (get_or hs k 0)) i) (clear_by d (get_or hs k 0) (get_or ys i 0)))))
