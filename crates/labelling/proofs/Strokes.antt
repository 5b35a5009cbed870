-- THE STROKES' PROMISES, KEPT: as many backbones as labels, as many drops as sites off their backbone, lengths that with the charges of these
-- add up to the stated one, and no end right of W. And the refusal of who asks for a stroke, by its causes. Assumes nothing.
use mathlib.Core.Path.{◌≡◌, refl, sym, ◌∙◌, ap, ap₂, fun_ext}
use mathlib.Core.Bool.{Bool, true, false, cond}
use mathlib.Core.List.{List, [], ◌∷◌, ◌++◌}
use Prim.Native.Nat.{ℕ, zero, suc, ◌+◌, ◌*◌, ◌-◌, ◌≤◌, ◌<◌}
use native.Mathlib.Omega.{arith}
use lib.ListN.{length, get_or}
use borrow.Author.Tests.{leb-true, lt-ltb, le-ltb, eq-eqb, ne_eqb}
use Rattle.lists.proofs.Tests.{by-test, by_equal}
use Rattle.sheet.specs.Sheet.{Sheet, sheet_in, inside_by}
use Rattle.sheet.proofs.Accepted.{Sound, sound}
use Rattle.labelling.specs.Layout.{no_site, site_at, tie_at, height_of, is_used, least_x, left_end, tied, used_of, count_of, length_of, site_share, layout_ties, sheet_part, layout_part, stored_fault}
use Rattle.labelling.specs.Counted.{sum_before}
use Rattle.labelling.specs.Lawful.{RuleSix}
use Rattle.labelling.specs.Strokes.{Stroke, bone_of, drop_of, is_off, listed, bones_of, drops_of, strokes_of, strokes_in, no_stroke, stroke_fault, sum_of, one_bone, one_drop, units_of, sites_off, charges_off, EndsInside, StrokesAddUp}
use Rattle.labelling.proofs.Distances.{off-none, off-some, share-on, share-off}
use Rattle.labelling.proofs.Members.{all-at, least_x-width}
use Rattle.labelling.proofs.Counted.{sum_where, where-zero, over-used, length_over, backbones-over, sum-front, sum-plus, drops-counted}
use Rattle.labelling.proofs.Refusals.{stroke-chain}
use Rattle.labelling.proofs.Stored.{stored-accepted, stored-layout, stored-lawful}
use Rattle.labelling.proofs.Words.{formed, formed-long}

-- THE REFUSAL
module _ (ws : List ℕ) (i : ℕ) where
  pub stroke-stored : (stored_fault ws ≡ 0 → ⊥) → stroke_fault ws i ≡ stored_fault ws
  stroke-stored n = stroke-chain ws i ∙ rw (ne_eqb (stored_fault ws) 0 n) refl

  pub stroke-past : stored_fault ws ≡ 0 → length (strokes_in ws) ≤ i → stroke_fault ws i ≡ 14
  stroke-past z h = stroke-chain ws i ∙ rw (eq-eqb (stored_fault ws) 0 z, le-ltb i (length (strokes_in ws)) h) refl

  pub stroke-none : stored_fault ws ≡ 0 → i < length (strokes_in ws) → stroke_fault ws i ≡ 0
  stroke-none z h = stroke-chain ws i ∙ rw (eq-eqb (stored_fault ws) 0 z, lt-ltb i (length (strokes_in ws)) h) refl

-- SUMS over listed strokes
sum-append : (g : Stroke → ℕ) (ts us : List Stroke) → sum_of g (ts ++ us) ≡ sum_of g ts + sum_of g us
unfolding sum_of
sum-append g [] us = omega arith
sum-append g (t ∷ ts) us = omega (arith, sum-append g ts us)

sum-listed : (g : Stroke → ℕ) (t : ℕ → Bool) (f : ℕ → Stroke) (a n : ℕ) → sum_of g (listed t f a n) ≡ sum_where t (λ k. g (f k)) a n
unfolding sum_of listed sum_where
sum-listed g t f a zero = refl
sum-listed g t f a (suc n) = by-test (t a) (λ e. rw e (omega (arith, sum-listed g t f (suc a) n))) λ e. rw e (omega (arith, sum-listed g t f (suc a) n))

-- by the numbers before one, from the first on
where-before : (t : ℕ → Bool) (f h : ℕ → ℕ) (a n : ℕ) → ((i : ℕ) → cond (t (a + i)) (f (a + i)) 0 ≡ h i) → sum_where t f a n ≡ sum_before h n
unfolding sum_where
where-before t f h a zero e = unfold sum_before in refl
where-before t f h a (suc n) e =
    ap₂ ◌+◌ (at 0 a (omega arith)) (where-before t f (λ i. h (suc i)) (suc a) n (λ i. at (suc i) (suc a + i) (omega arith))) ∙ sym (sum-front h n)
  where
    at : (i b : ℕ) → a + i ≡ b → cond (t b) (f b) 0 ≡ h i
    at i b q = ap (λ (z : ℕ). cond (t z) (f z) 0) (sym q) ∙ e i

where-all : (t : ℕ → Bool) (f h : ℕ → ℕ) (n : ℕ) → ((i : ℕ) → cond (t i) (f i) 0 ≡ h i) → sum_where t f 0 n ≡ sum_before h n
where-all t f h n e = where-before t f h 0 n (λ i. let z : 0 + i ≡ i = omega arith in ap (λ (k : ℕ). cond (t k) (f k) 0) z ∙ e i)

-- EACH listed stroke
each-listed : (P : Stroke → Type 0) (t : ℕ → Bool) (f : ℕ → Stroke) (a n : ℕ) → ((k : ℕ) → k < a + n → P (f k)) →
    (i : ℕ) → i < length (listed t f a n) → P (get_or (listed t f a n) i no_stroke)
unfolding listed
each-listed P t f a zero h i l = absurd (omega arith)
each-listed P t f a (suc n) h i l = go (t a) (each-listed P t f (suc a) n (λ k g. h k (omega arith))) i l
  where
    rest : List Stroke
    rest = listed t f (suc a) n

    go : (b : Bool) → ((i : ℕ) → i < length rest → P (get_or rest i no_stroke)) → (i : ℕ) → i < length (cond b (f a ∷ rest) rest) → P (get_or (cond b (f a ∷ rest) rest) i no_stroke)
    go true ih zero l = h a (omega arith)
    go true ih (suc i) l = ih i (omega arith)
    go false ih i l = ih i l

each_append : (P : Stroke → Type 0) (ts us : List Stroke) → ((i : ℕ) → i < length ts → P (get_or ts i no_stroke)) → ((i : ℕ) → i < length us → P (get_or us i no_stroke)) →
    (i : ℕ) → i < length (ts ++ us) → P (get_or (ts ++ us) i no_stroke)
each_append P [] us p q i l = q i l
each_append P (t ∷ ts) us p q zero l = p 0 (omega arith)
each_append P (t ∷ ts) us p q (suc i) l = each_append P ts us (λ j h. p (suc j) (omega arith)) q i (omega arith)

module _ (s : Sheet) (js : List ℕ) where
  abbrev used : ℕ → Bool
  used k = is_used k js

  abbrev off : ℕ → Bool
  off i = is_off s (tie_at s js i)

  abbrev drop : ℕ → Stroke
  drop i = drop_of s (tie_at s js i)

  sum_both : (g : Stroke → ℕ) → sum_of g (strokes_of s js) ≡ sum_where used (λ k. g (bone_of s js k)) 0 (length s.slots) + sum_where off (λ i. g (drop i)) 0 (length s.sites)
  sum_both g =
      sum-append g (bones_of s js) (drops_of s js) ∙
      ap₂ ◌+◌ (sum-listed g used (bone_of s js) 0 (length s.slots)) (sum-listed g off drop 0 (length s.sites))

  pub left-width : (k : ℕ) → left_end s js k ≤ s.width
  left-width k = go s.is_two_sided
    where
      go : (b : Bool) → cond b 0 (least_x k s.width (tied s js)) ≤ s.width
      go true = omega arith
      go false = least_x-width k s.width (tied s js)

  -- AS MANY BACKBONES as labels
  pub bones-counted : sum_of one_bone (strokes_of s js) ≡ count_of s js
  bones-counted =
      sum_both one_bone ∙
      omega (arith, over-used (λ k. 1) 0 (length s.slots) js, length_over (used_of s js), where-zero off 0 (length s.sites))

  -- AS MANY DROPS as sites off their backbone
  pub drops-off : sum_of one_drop (strokes_of s js) ≡ sites_off s js
  drops-off =
      sum_both one_drop ∙
      omega (arith, where-zero used 0 (length s.slots), where-all off (λ i. 1) (λ i. cond (off i) 1 0) (length s.sites) (λ i. refl))

  -- THE LENGTHS add up
  bone-units : (k : ℕ) → units_of (bone_of s js k) ≡ s.width - left_end s js k
  bone-units k = omega (arith, left-width k)

  -- a site's share is its drop's length and its charge
  abbrev share : ℕ → ℕ
  share i = site_share s (height_of s (get_or js i 0)) (site_at s i).y

  drop-units : (i : ℕ) → cond (off i) (units_of (drop i)) 0 + cond (off i) s.charge 0 ≡ share i
  drop-units i =
      let h : ℕ = height_of s (get_or js i 0) in
      let y : ℕ = (site_at s i).y in
      by_equal h y (λ e. rw (off-none h y e) (omega (arith, share-on s.charge h y e))) λ n. rw (off-some h y n) (omega (arith, share-off s.charge h y n))

  -- so many charges as sites are off their backbone, before a site
  charges-before : (n : ℕ) → sum_before (λ i. cond (off i) 1 0) n * s.charge ≡ sum_before (λ i. cond (off i) s.charge 0) n
  unfolding sum_before
  charges-before zero = omega arith
  charges-before (suc n) = by-test (off n) (λ e. rw e (omega (arith, charges-before n))) λ e. rw e (omega (arith, charges-before n))

  pub units-sum : length js ≡ length s.sites → sum_of units_of (strokes_of s js) + charges_off s js ≡ length_of s js
  units-sum long =
      let n : ℕ = length s.sites in
      let drops-units = where-all off (λ i. units_of (drop i)) (λ i. cond (off i) (units_of (drop i)) 0) n (λ i. refl) in
      let bones-units =
      ap (λ (f : ℕ → ℕ). sum_where used f 0 (length s.slots)) (fun_ext bone-units) ∙ sym (over-used (λ k. s.width - left_end s js k) 0 (length s.slots) js) ∙
      sym (backbones-over s js (used_of s js)) in
      let shares =
      sym (sum-plus (λ i. cond (off i) (units_of (drop i)) 0) (λ i. cond (off i) s.charge 0) n) ∙ ap (λ (f : ℕ → ℕ). sum_before f n) (fun_ext drop-units) in
      omega (arith, sum_both units_of, drops-units, bones-units, charges-before n, shares, drops-counted s js long)

  -- NO STROKE leaves the drawing
  pub ends-inside : Sound s → (i : ℕ) → i < length (strokes_of s js) → EndsInside s.width (get_or (strokes_of s js) i no_stroke)
  ends-inside o =
      each_append (EndsInside s.width) (bones_of s js) (drops_of s js)
      (each-listed (EndsInside s.width) used (bone_of s js) 0 (length s.slots) (λ k l. (left-width k, omega arith)))
      (each-listed (EndsInside s.width) off drop 0 (length s.sites) (λ i l. (site-inside i (omega arith), site-inside i (omega arith))))
    where
      site-inside : (i : ℕ) → i < length s.sites → (site_at s i).x ≤ s.width
      site-inside i l = leb-true (site_at s i).x s.width (all-at (inside_by s.width) no_site s.sites o.inside i l)

pub strokes-add-up : StrokesAddUp
strokes-add-up ws z =
    let s : Sheet = sheet_in (sheet_part ws) in
    let js : List ℕ = layout_ties (layout_part ws) in
    let six : RuleSix s (layout_part ws) = (stored-lawful ws z).six in
    record {
      bones = bones-counted s js ∙ sym six.0;
      drops = drops-off s js;
      lengths = units-sum s js (formed-long s (layout_part ws) (formed s (layout_part ws) (stored-layout ws z))) ∙ sym six.1;
      inside = ends-inside s js (sound (sheet_part ws) (stored-accepted ws z));
    }
