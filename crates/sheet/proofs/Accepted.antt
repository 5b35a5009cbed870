-- What holds of the sheet in a list of words that the reader does not refuse.
-- Assumes nothing.
use mathlib.Core.Path.{◌≡◌, refl, subst}
use mathlib.Core.Logic.{◌⊎◌, inl, inr}
use mathlib.Core.Bool.{Bool, true, false, ◌&&◌, not, false≢true, cond}
use mathlib.Core.List.{List, [], ◌∷◌}
use Prim.Native.Nat.{ℕ, suc, ◌+◌, ◌-◌, ◌≤◌, ◌<◌}
use native.Mathlib.Omega.{arith}
use lib.Dec.{ltb, leb, eqb}
use lib.ListN.{length, length-drop}
use borrow.Author.Tests.{ltb-true, leb-true, eqb-true, eqb-false, lt-ltb, eq-eqb, ne_eqb}
use Rattle.sheet.specs.Limits.{most_slots, most_colours, most_sites, most_budgets, most_words, number_top}
use Rattle.sheet.specs.Refusals.{AllPass, numbered_to}
use Rattle.sheet.specs.Sheet.{all, kind_of, bits, has_spare, in_order, Site, Sheet, slots_in, sites_in, colours_in, head_in, body_at, body_of, sheet_in, product_of, rising, rank_of, rank_top, has_rank, ranks_differ, is_head, counts_fit, inside_by, sheet_refusals, sheet_fault, rank_by}
use Rattle.sheet.proofs.Charge.{charge-low, body_near}
use Rattle.sheet.proofs.Refusals.{all_pass, at_most}
use Rattle.lists.proofs.Tests.{by-test, and_l, and_r, and_i, or-e, not_f}

pub record Unrefused (ws : List ℕ) : Type 0 where
  pub head : is_head ws ≡ true
  pub order : in_order 0 (body_of ws) ≡ true
  pub counts : counts_fit (sheet_in ws) ≡ true
  pub rise : rising (slots_in (body_of ws)) ≡ true
  pub inside : all (inside_by (bits (head_in ws) 0 14)) (sites_in 0 (body_of ws)) ≡ true
  pub differ : ranks_differ (sites_in 0 (body_of ws)) ≡ true
  pub product : leb (product_of (colours_in (body_of ws))) most_budgets ≡ true

-- the numbers are 1 to 7
pub numbered : (ws : List ℕ) → numbered_to 7 (sheet_refusals ws) ≡ true
unfolding numbered_to
numbered ws = refl

pub unrefused : (ws : List ℕ) → sheet_fault ws ≡ 0 → Unrefused ws
unfolding AllPass
unrefused ws h =
    let (a, (b, (c, (d, (e, (f, (g, _))))))) = all_pass 7 (sheet_refusals ws) (numbered ws) h in
    record { head = a; order = b; counts = c; rise = d; inside = e; differ = f; product = g }

pub fault-seven : (ws : List ℕ) → sheet_fault ws ≤ 7
fault-seven ws = at_most 7 (sheet_refusals ws) (numbered ws)

-- bits are low
pub low14 : (w : ℕ) (i : ℕ) → bits w i 14 < number_top
low14 w i = omega arith

abbrev pub low_x : Site → Bool
low_x s = ltb s.x number_top

abbrev pub low_y : Site → Bool
low_y s = ltb s.y number_top

abbrev pub low_n : ℕ → Bool
low_n h = ltb h number_top

pub slots-low : (ws : List ℕ) → all low_n (slots_in ws) ≡ true
unfolding all slots_in
slots-low [] = refl
slots-low (w ∷ ws) =
    by-test (eqb (kind_of w) 2) (λ e. rw e (and_i (lt-ltb (bits w 0 14) number_top (low14 w 0)) (slots-low ws))) λ e. rw e (slots-low ws)

pub sites-low : (c : ℕ) (ws : List ℕ) → (all low_x (sites_in c ws) ≡ true) × (all low_y (sites_in c ws) ≡ true)
unfolding all sites_in
sites-low c [] = (refl, refl)
sites-low c (w ∷ ws) =
    by-test (eqb (kind_of w) 3) (λ e. rw e (sites-low (suc c) ws)) λ e. rw e
    (by-test (eqb (kind_of w) 4)
    (λ f. rw f
    (and_i (lt-ltb (bits w 14 14) number_top (low14 w 14)) (sites-low c ws).0, and_i (lt-ltb (bits w 0 14) number_top (low14 w 0)) (sites-low c ws).1))
    λ f. rw f (sites-low c ws))

-- ONE WORD of the body, in order: a slot, a colour or a site
pub data Step (z w : ℕ) (ws : List ℕ) : Type 0 where
  slot : kind_of w ≡ 2 → z ≡ 0 → in_order 0 ws ≡ true → Step z w ws
  colour : kind_of w ≡ 3 → in_order 1 ws ≡ true → Step z w ws
  site : kind_of w ≡ 4 → z ≡ 1 → in_order 1 ws ≡ true → Step z w ws

pub step : (z w : ℕ) (ws : List ℕ) → in_order z (w ∷ ws) ≡ true → (has_spare w ≡ false) × Step z w ws
unfolding in_order
step z w ws h = (not_f (has_spare w) (and_l (not (has_spare w)) tests2 h), two (eqb (kind_of w) 2) refl (and_r (not (has_spare w)) tests2 h))
  where
    tests4 : Bool
    tests4 = cond (eqb (kind_of w) 4) (eqb z 1 && in_order 1 ws) false

    tests3 : Bool
    tests3 = cond (eqb (kind_of w) 3) (in_order 1 ws) tests4

    tests2 : Bool
    tests2 = cond (eqb (kind_of w) 2) (eqb z 0 && in_order 0 ws) tests3

    four : (t : Bool) → eqb (kind_of w) 4 ≡ t → cond t (eqb z 1 && in_order 1 ws) false ≡ true → Step z w ws
    four true e h = site (eqb-true (kind_of w) 4 e) (eqb-true z 1 (and_l (eqb z 1) (in_order 1 ws) h)) (and_r (eqb z 1) (in_order 1 ws) h)
    four false e h = absurd (false≢true h)

    three : (t : Bool) → eqb (kind_of w) 3 ≡ t → cond t (in_order 1 ws) tests4 ≡ true → Step z w ws
    three true e h = colour (eqb-true (kind_of w) 3 e) h
    three false e h = four (eqb (kind_of w) 4) refl h

    two : (t : Bool) → eqb (kind_of w) 2 ≡ t → cond t (eqb z 0 && in_order 0 ws) tests3 ≡ true → Step z w ws
    two true e h = slot (eqb-true (kind_of w) 2 e) (eqb-true z 0 (and_l (eqb z 0) (in_order 0 ws) h)) (and_r (eqb z 0) (in_order 0 ws) h)
    two false e h = three (eqb (kind_of w) 3) refl h

-- THE COLOUR of a site is one of the sheet's
abbrev pub colour_low : (count : ℕ) → Site → Bool
colour_low c s = ltb s.colour c

coloured : (z c : ℕ) (ws : List ℕ) → in_order z ws ≡ true → (z ≡ 1 → 0 < c) → all (colour_low (c + length (colours_in ws))) (sites_in c ws) ≡ true
unfolding in_order all colours_in sites_in
coloured z c [] h f = refl
coloured z c (w ∷ ws) h f = go (step z w ws h).1 (λ y d i g. coloured y d ws i g)
  where
    go : Step z w ws → ((y d : ℕ) → in_order y ws ≡ true → (y ≡ 1 → 0 < d) → all (colour_low (d + length (colours_in ws))) (sites_in d ws) ≡ true) →
        all (colour_low (c + length (colours_in (w ∷ ws)))) (sites_in c (w ∷ ws)) ≡ true
    go (Step.slot e q i) ih =
        rw (ne_eqb (kind_of w) 3 (λ q. omega arith), ne_eqb (kind_of w) 4 (λ q. omega arith)) (ih 0 c i λ q. absurd (omega arith))
    go (Step.colour e i) ih =
        rw (eq-eqb (kind_of w) 3 e)
        (subst (λ (n : ℕ). all (colour_low n) (sites_in (suc c) ws) ≡ true) (omega arith) (ih 1 (suc c) i λ q. omega arith))
    go (Step.site e q i) ih =
        rw (ne_eqb (kind_of w) 3 (λ q. omega arith), eq-eqb (kind_of w) 4 e)
        (and_i (lt-ltb (c - 1) (c + length (colours_in ws)) (omega (arith, f q))) (ih 1 c i λ r. f q))

pub sites-coloured : (ws : List ℕ) → sheet_fault ws ≡ 0 → all (colour_low (length (sheet_in ws).colours)) (sheet_in ws).sites ≡ true
sites-coloured ws h =
    subst (λ (n : ℕ). all (colour_low n) (sites_in 0 (body_of ws)) ≡ true) (omega arith)
    (coloured 0 0 (body_of ws) (unrefused ws h).order λ q. absurd (omega arith))

pub record Sound (s : Sheet) : Type 0 where
  pub few-slots : length s.slots ≤ most_slots
  pub few-colours : length s.colours ≤ most_colours
  pub few-sites : length s.sites ≤ most_sites
  pub rise : rising s.slots ≡ true
  pub inside : all (inside_by s.width) s.sites ≡ true
  pub differ : ranks_differ s.sites ≡ true
  pub product : product_of s.colours ≤ most_budgets
  pub wide : 0 < s.width
  pub narrow : s.width < number_top
  pub gapped : 0 < s.gap
  pub charged : s.charge < number_top
  pub xs : all low_x s.sites ≡ true
  pub ys : all low_y s.sites ≡ true
  pub heights : all low_n s.slots ≡ true
  pub coloured : all (colour_low (length s.colours)) s.sites ≡ true

pub sound : (ws : List ℕ) → sheet_fault ws ≡ 0 → Sound (sheet_in ws)
sound ws h =
    let u : Unrefused ws = unrefused ws h in
    let s : Sheet = sheet_in ws in
    let hw : Bool = ltb 0 (length ws) && eqb (kind_of (head_in ws)) 1 in
    let nw : Bool = not (eqb (bits (head_in ws) 0 14) 0) in
    let nd : Bool = not (eqb (bits (head_in ws) 14 12) 0) in
    let cs : Bool = leb (length s.slots) most_slots in
    let cc : Bool = leb (length s.colours) most_colours in
    let cn : Bool = leb (length s.sites) most_sites in
    let w0 : eqb (bits (head_in ws) 0 14) 0 ≡ false = not_f (eqb (bits (head_in ws) 0 14) 0) (and_r hw nw (and_l (hw && nw) nd u.head)) in
    let d0 : eqb (bits (head_in ws) 14 12) 0 ≡ false = not_f (eqb (bits (head_in ws) 14 12) 0) (and_r (hw && nw) nd u.head) in
    record {
      few-slots = leb-true (length s.slots) most_slots (and_l cs cc (and_l (cs && cc) cn u.counts));
      few-colours = leb-true (length s.colours) most_colours (and_r cs cc (and_l (cs && cc) cn u.counts));
      few-sites = leb-true (length s.sites) most_sites (and_r (cs && cc) cn u.counts);
      rise = u.rise;
      inside = u.inside;
      differ = u.differ;
      product = leb-true (product_of s.colours) most_budgets u.product;
      wide = omega (arith, eqb-false (bits (head_in ws) 0 14) 0 w0);
      narrow = low14 (head_in ws) 0;
      gapped = omega (arith, eqb-false (bits (head_in ws) 14 12) 0 d0);
      charged = charge-low ws;
      xs = (sites-low 0 (body_of ws)).0;
      ys = (sites-low 0 (body_of ws)).1;
      heights = slots-low (body_of ws);
      coloured = sites-coloured ws h;
    }

-- THE WORDS of an accepted sheet: head, charge, slots, colours and sites
parts-length : (z c : ℕ) (ws : List ℕ) → in_order z ws ≡ true → length ws ≡ length (slots_in ws) + length (colours_in ws) + length (sites_in c ws)
unfolding slots_in colours_in sites_in
parts-length z c [] h = refl
parts-length z c (w ∷ ws) h = go (step z w ws h).1 (λ y d i. parts-length y d ws i)
  where
    go : Step z w ws → ((y d : ℕ) → in_order y ws ≡ true → length ws ≡ length (slots_in ws) + length (colours_in ws) + length (sites_in d ws)) →
        suc (length ws) ≡ length (slots_in (w ∷ ws)) + length (colours_in (w ∷ ws)) + length (sites_in c (w ∷ ws))
    go (Step.slot e q i) f =
        rw (eq-eqb (kind_of w) 2 e, ne_eqb (kind_of w) 3 (λ q. omega arith), ne_eqb (kind_of w) 4 (λ q. omega arith)) (omega (arith, f 0 c i))
    go (Step.colour e i) f = rw (ne_eqb (kind_of w) 2 (λ q. omega arith), eq-eqb (kind_of w) 3 e) (omega (arith, f 1 (suc c) i))
    go (Step.site e q i) f =
        rw (ne_eqb (kind_of w) 2 (λ q. omega arith), ne_eqb (kind_of w) 3 (λ q. omega arith), eq-eqb (kind_of w) 4 e) (omega (arith, f 1 c i))

pub some_words : (ss : List ℕ) → sheet_fault ss ≡ 0 → 0 < length ss
some_words ss ok = ltb-true 0 (length ss) (and_l _ _ (and_l _ _ (and_l _ _ (unrefused ss ok).head)))

pub few_words : (ss : List ℕ) → sheet_fault ss ≡ 0 → length ss ≤ most_words
few_words ss ok =
    let o = sound ss ok in
    omega (arith, parts-length 0 0 (body_of ss) (unrefused ss ok).order, length-drop (body_at ss) ss, body_near ss, o.few-slots, o.few-colours, o.few-sites)

pub rank-low : (s : Site) → s.x < number_top → s.y < number_top → rank_of s < rank_top
unfolding rank_by
rank-low s h k = omega arith

pub low-x : (ss : List Site) → all low_x ss ≡ true → all low_y ss ≡ true → (x : ℕ) → has_rank x ss ≡ true → x < rank_top
unfolding all has_rank
low-x [] h k x e = absurd (false≢true e)
low-x (s ∷ ss) h k x e = go (or-e (eqb (rank_of s) x) (has_rank x ss) e) (low-x ss (and_r (low_x s) (all low_x ss) h) (and_r (low_y s) (all low_y ss) k) x)
  where
    go : (eqb (rank_of s) x ≡ true) ⊎ (has_rank x ss ≡ true) → (has_rank x ss ≡ true → x < rank_top) → x < rank_top
    go (inl p) ih = omega (arith, eqb-true (rank_of s) x p, rank-low s (ltb-true s.x number_top (and_l (low_x s) (all low_x ss) h)) (ltb-true s.y number_top (and_l (low_y s) (all low_y ss) k)))
    go (inr p) ih = ih p
