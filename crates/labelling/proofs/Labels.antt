-- THE LABELS' PROMISE, KEPT: each site's colour is its label's, the labels' own lengths add up to the length, and their sites to all sites.
-- Assumes nothing.
use mathlib.Core.Path.{◌≡◌, refl, sym, ◌∙◌, ap, ap₂}
use mathlib.Core.Bool.{Bool, cond}
use mathlib.Core.List.{List}
use Prim.Native.Nat.{ℕ, zero, suc, ◌+◌, ◌*◌, ◌-◌, ◌≤◌, ◌<◌}
use native.Mathlib.Omega.{arith}
use lib.Dec.{eqb}
use lib.ListN.{length, get_or}
use borrow.Author.Tests.{eqb-true, eqb-false, ltb-true}
use Rattle.lists.proofs.Tests.{by-test, by_equal}
use Rattle.sheet.specs.Limits.{most_colours, most_sites, most_number, most_share}
use Rattle.sheet.specs.Sheet.{Sheet}
use Rattle.sheet.proofs.Accepted.{Sound, colour_low}
use Rattle.labelling.specs.Layout.{no_site, site_at, is_used, used_of, left_end, length_of}
use Rattle.labelling.specs.Counted.{sum_before}
use Rattle.labelling.specs.Labels.{sum_at, colour_before, label_colour, label_sites, share_at, label_shares, label_length, sum_used, LabelsAddUp}
use Rattle.labelling.specs.Lawful.{Ties}
use Rattle.labelling.proofs.Counted.{sum_where, where-zero, where-plus, where-one, over-used, over-places, backbones-over, drops-counted, sum-le}
use Rattle.labelling.proofs.Distances.{share-le}
use Rattle.labelling.proofs.Members.{used-at, all-at}
use Rattle.labelling.proofs.Words.{height-low, y-low}

-- EACH SITE IS COUNTED at one used slot, its own
slots-sum : (f : ℕ → ℕ) (js : List ℕ) (m n : ℕ) → n ≤ length js → ((i : ℕ) → i < n → get_or js i 0 < m) →
    sum_where (λ k. is_used k js) (λ k. sum_at k f js n) 0 m ≡ sum_before f n
unfolding sum_before
slots-sum f js m zero l h = where-zero (λ k. is_used k js) 0 m
slots-sum f js m (suc n) l h =
    where-plus (λ k. is_used k js) (λ k. sum_at k f js n) (λ k. cond (eqb (get_or js n 0) k) (f n) 0) 0 m ∙
    ap₂ ◌+◌ (slots-sum f js m n (omega arith) (λ i q. h i (omega arith)))
    (where-one (λ k. is_used k js) (get_or js n 0) (f n) 0 m (omega arith) (omega (arith, h n (omega arith))) (used-at js n (omega arith)))

-- A COLOUR that all sites of a slot share is the label's
colour-is : (f : ℕ → ℕ) (js : List ℕ) (k c n : ℕ) → ((i : ℕ) → i < n → get_or js i 0 ≡ k → f i ≡ c) → (i : ℕ) → i < n → get_or js i 0 ≡ k → colour_before f js k n ≡ c
unfolding colour_before
colour-is f js k c zero h i l e = absurd (omega arith)
colour-is f js k c (suc n) h i l e =
    by-test (eqb (get_or js n 0) k)
    (λ q. rw q (h n (omega arith) (eqb-true (get_or js n 0) k q)))
    (λ q. rw q (colour-is f js k c n (λ j g. h j (omega arith)) i (by_equal i n (λ z. absurd (eqb-false (get_or js n 0) k q (ap (λ (x : ℕ). get_or js x 0) (sym z) ∙ e))) (λ z. omega arith)) e))

module _ (s : Sheet) (js : List ℕ) (t : Ties s js) where
  abbrev used : ℕ → Bool
  used k = is_used k js

  used-sum : (f : ℕ → ℕ) → sum_used s js f ≡ sum_where used f 0 (length s.slots)
  used-sum f = sym (over-places f (used_of s js)) ∙ over-used f 0 (length s.slots) js

  all-sites : (f : ℕ → ℕ) → sum_where used (λ k. sum_at k f js (length s.sites)) 0 (length s.slots) ≡ sum_before f (length s.sites)
  all-sites f = slots-sum f js (length s.slots) (length s.sites) (omega (arith, t.long)) t.low

  ones : (n : ℕ) → sum_before (λ i. 1) n ≡ n
  unfolding sum_before
  ones zero = refl
  ones (suc n) = omega (arith, ones n)

  sites-sum : sum_used s js (label_sites s js) ≡ length s.sites
  sites-sum = used-sum (label_sites s js) ∙ all-sites (λ i. 1) ∙ ones (length s.sites)

  lengths-sum : sum_used s js (label_length s js) ≡ length_of s js
  lengths-sum =
      used-sum (label_length s js) ∙ where-plus used (λ k. s.width - left_end s js k) (label_shares s js) 0 (length s.slots) ∙
      ap₂ ◌+◌ (sym (backbones-over s js (used_of s js) ∙ over-used (λ k. s.width - left_end s js k) 0 (length s.slots) js))
      (all-sites (share_at s js) ∙ sym (drops-counted s js t.long))

pub labels-add-up : LabelsAddUp
labels-add-up s js t r =
    record {
      colour = λ i l. colour-is (λ j. (site_at s j).colour) js (get_or js i 0) (site_at s i).colour (length s.sites) (λ j g e. r.one j i g l e) i l refl;
      sites = sites-sum s js t;
      lengths = lengths-sum s js t;
    }

-- HOW LARGE a label's numbers are on an accepted sheet
colour-le : (f : ℕ → ℕ) (js : List ℕ) (k m n : ℕ) → ((i : ℕ) → i < n → f i ≤ m) → colour_before f js k n ≤ m
unfolding colour_before
colour-le f js k m zero h = omega arith
colour-le f js k m (suc n) h = by-test (eqb (get_or js n 0) k) (λ e. rw e (h n (omega arith))) λ e. rw e (colour-le f js k m n λ i l. h i (omega arith))

pub sum-at-le : (f : ℕ → ℕ) (js : List ℕ) (k m : ℕ) → ((i : ℕ) → f i ≤ m) → (n : ℕ) → sum_at k f js n ≤ n * m
sum-at-le f js k m h n =
    sum-le (λ i. cond (eqb (get_or js i 0) k) (f i) 0) m (λ i. by-test (eqb (get_or js i 0) k) (λ e. rw e (h i)) (λ e. rw e (omega arith))) n

pub record LabelLow (s : Sheet) (js : List ℕ) (k : ℕ) : Type 0 where
  pub colour : label_colour s js k ≤ most_colours
  pub sites : label_sites s js k ≤ most_sites
  pub size : label_length s js k ≤ most_number + most_sites * most_share

pub label-low : (s : Sheet) → Sound s → (js : List ℕ) (k : ℕ) → LabelLow s js k
label-low s o js k =
    let n : ℕ = length s.sites in
    let shares = sum-at-le (share_at s js) js k most_share (λ i. share-le s.charge _ _ o.charged (height-low s.slots (get_or js i 0) o.heights) (y-low s.sites i o.ys)) n in
    record {
      colour = colour-le (λ i. (site_at s i).colour) js k most_colours n (λ i l. omega (arith, o.few-colours, ltb-true (site_at s i).colour (length s.colours) (all-at (colour_low (length s.colours)) no_site s.sites o.coloured i l)));
      sites = omega (arith, sum-at-le (λ i. 1) js k 1 (λ i. omega arith) n, o.few-sites);
      size = omega (arith, shares, o.few-sites, o.narrow);
    }
