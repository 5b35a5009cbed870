-- What the loops find is what the rules ask: document 01's rules 1 to 6, one by one. Assumes nothing but that the arrays hold the
-- sheet's numbers and that the ties are one for each site, to slots of the sheet.
use mathlib.Core.Path.{◌≡◌, refl, sym, ap, ap₂, ◌∙◌, fun_ext}
use mathlib.Core.Bool.{Bool, true, false, ◌&&◌, not, cond}
use mathlib.Core.List.{List, [], ◌∷◌}
use Prim.Native.Nat.{ℕ, zero, suc, ◌+◌, ◌-◌, min}
use native.Mathlib.Omega.{arith}
use lib.Dec.{eqb}
use lib.ListN.{length, get_or}
use Rattle.lists.proofs.Tests.{by-test}
use Rattle.sheet.specs.Sheet.{all, inside_by, Site, Sheet, Colour}
use Rattle.labelling.specs.Layout.{no_site, site_at, Tied, tie_at, tied_of, tied, height_of, used_of, least_x, left_end, colour_kept, colours_kept, slots_of, bounds_kept, gap_kept, gaps_kept, misses_all, clears_all, count_of, length_of, stated_count, stated_length, broken_by, layout_ties, share_by}
use Rattle.labelling.specs.Pairs.{misses_pair, clears_pair}
use Rattle.labelling.specs.Counted.{all_before, sum_before, is_first, any_site, colours_counted}
use Rattle.labelling.proofs.Counted.{tied_is, sum-plus, count-counted, colour-counted, backbones-counted, drops-counted}
use Rattle.labelling.proofs.Pairs.{rule-four-pairs, rule-five-pairs}
use Rattle.labelling.proofs.Best.{low_ties}
use Rattle.labelling.proofs.Rules.{lesser-min}
use Rattle.decoding.specs.Decoding.{Decoded, head_by, bounds_of}
use Rattle.decoding.proofs.Fields.{bounds-long}
use Rattle.words.specs.declared.tied.TiedSite.{TiedSite}
use Rattle.rules.specs.Rules.{colours_pass, bound_kept, gaps_pass, misses_pass, clears_pass}
use Rattle.layouts.specs.declared.labels.Among.TheVariants.{All, Of}
use Rattle.layouts.proofs.Loops.{all-front}
use Rattle.layouts.specs.Model.{PairTest, tied_at, pairs_pass, count_on, bounds_on, least_before, left_on, length_on, first_broken, broken_on}

-- THE FRONT of the least
least-front : (k w : ℕ) (f g : ℕ → ℕ) (n : ℕ) →
    least_before k w f g (suc n) ≡ cond (eqb (f 0) k) (min (g 0) (least_before k w (λ i. f (suc i)) (λ i. g (suc i)) n)) (least_before k w (λ i. f (suc i)) (λ i. g (suc i)) n)
unfolding least_before
least-front k w f g zero = by-test (eqb (f 0) k) (λ e. rw e (omega arith)) (λ e. rw e refl)
least-front k w f g (suc n) =
    rw (least-front k w f g n)
    (by-test (eqb (f 0) k)
    (λ e. rw e (by-test (eqb (f (suc n)) k) (λ q. rw q (omega arith)) (λ q. rw q refl)))
    (λ e. rw e refl))

least-is : (k w : ℕ) (ss : List Site) (js : List ℕ) → length js ≡ length ss →
    least_before k w (λ i. get_or js i 0) (λ i. (get_or ss i no_site).x) (length ss) ≡ least_x k w (tied_of ss js)
unfolding least_x tied_of
least-is k w [] js l = unfold least_before in refl
least-is k w (s ∷ ss) [] l = absurd (omega arith)
least-is k w (s ∷ ss) (j ∷ js) l =
    least-front k w (λ i. get_or (j ∷ js) i 0) (λ i. (get_or (s ∷ ss) i no_site).x) (length ss) ∙
    rw (least-is k w ss js (omega arith)) (ap (λ (m : ℕ). cond (eqb j k) m (least_x k w (tied_of ss js))) (sym (lesser-min s.x (least_x k w (tied_of ss js)))))

-- colour by colour
bounds-are : (s : Sheet) (js : List ℕ) (f : ℕ → ℕ) (c : ℕ) (ks : List Colour) → ((i : ℕ) → f i ≡ length (used_of s (slots_of (c + i) (tied s js)))) →
    all_before (λ i. bound_kept (f i) (get_or (bounds_of ks) i 0)) (length ks) ≡ bounds_kept s js c ks
unfolding bounds_kept bounds_of
bounds-are s js f c [] e = unfold all_before in refl
bounds-are s js f c (k ∷ ks) e =
    let z : c + 0 ≡ c = omega arith in
    let h : f 0 ≡ length (used_of s (slots_of c (tied s js))) = e 0 ∙ ap (λ (n : ℕ). length (used_of s (slots_of n (tied s js)))) z in
    all-front (λ i. bound_kept (f i) (get_or (bounds_of (k ∷ ks)) i 0)) (length ks) ∙
    ap₂ (λ (n : ℕ) (b : Bool). bound_kept n k.bound && b) h
    (bounds-are s js (λ i. f (suc i)) (suc c) ks (λ i. let q : c + suc i ≡ suc c + i = omega arith in e (suc i) ∙ ap (λ (n : ℕ). length (used_of s (slots_of n (tied s js)))) q))

-- the first of six tests
chain : (a b c d e f : Bool) →
    cond (not (eqb (cond (not a) 1 (cond (not b) 2 (cond (not c) 3 (cond (not d) 4 (cond (not e) 5 0))))) 0))
    (cond (not a) 1 (cond (not b) 2 (cond (not c) 3 (cond (not d) 4 (cond (not e) 5 0))))) (cond f 0 6) ≡ first_broken a b c d e f
chain false b c d e f = refl
chain true false c d e f = refl
chain true true false d e f = refl
chain true true true false e f = refl
chain true true true true false f = refl
chain true true true true true false = refl
chain true true true true true true = refl

-- THE TIED SITE of a number, by the sheet
abbrev seen_at : Sheet → (ties : List ℕ) → ℕ → TiedSite
seen_at s js i =
    record { x = (site_at s i).x; y = (site_at s i).y; colour = (site_at s i).colour; slot = get_or js i 0; height = height_of s (get_or js i 0) }

-- A COLOUR'S COUNT, by the sheet
pub colour-count : (s : Sheet) (hs xs ys cs : List ℕ) → Decoded s hs xs ys cs → (js : List ℕ) (c : ℕ) → count_on (Of c) cs js (length s.sites) ≡ colours_counted s js c
colour-count s hs xs ys cs d js c =
    ap (λ (p : ℕ → Bool). sum_before (λ i. cond (is_first p js i) 1 0) (length s.sites)) (fun_ext λ i. ap (λ (z : ℕ). eqb z c) (d.colours i))

module _ (s : Sheet) (hs xs ys cs : List ℕ) (d : Decoded s hs xs ys cs) (js : List ℕ) (long : length js ≡ length s.sites) where
  abbrev n : ℕ
  n = length s.sites

  abbrev ts : ℕ → TiedSite
  ts = tied_at hs xs ys cs js

  site-is : (i : ℕ) → tied_at hs xs ys cs js i ≡ seen_at s js i
  site-is i = λ p. record { x = d.xs i p; y = d.ys i p; colour = d.colours i p; slot = get_or js i 0; height = d.heights (get_or js i 0) p }

  -- a test of every two
  pairs-are : (k : PairTest) (r : Tied → Tied → Bool) → ((i j : ℕ) → k (head_by s) (seen_at s js i) (seen_at s js j) ≡ r (tie_at s js i) (tie_at s js j)) →
      pairs_pass k (head_by s) ts n ≡ all (λ t. all (r t) (tied s js)) (tied s js)
  pairs-are k r e =
      ap (λ (f : ℕ → TiedSite). pairs_pass k (head_by s) f n) (fun_ext site-is) ∙
      ap (λ (g : ℕ → Bool). all_before g n) (fun_ext λ i. ap (λ (g : ℕ → Bool). all_before g n) (fun_ext (e i)) ∙ sym (tied_is s js long (r (tie_at s js i)))) ∙
      sym (tied_is s js long (λ t. all (r t) (tied s js)))

  rule-one : pairs_pass (λ h t u. colours_pass t u) (head_by s) ts n ≡ colours_kept (tied s js)
  rule-one = pairs-are (λ h t u. colours_pass t u) colour_kept (λ i j. refl)

  rule-three : pairs_pass gaps_pass (head_by s) ts n ≡ gaps_kept s (tied s js)
  rule-three = pairs-are gaps_pass (gap_kept s) (λ i j. refl)

  pub left_is : (k : ℕ) → left_on (head_by s) xs js n k ≡ left_end s js k
  left_is k =
      ap (λ (z : ℕ). cond s.is_two_sided 0 z)
      (ap (λ (g : ℕ → ℕ). least_before k s.width (λ i. get_or js i 0) g n) (fun_ext d.xs) ∙ least-is k s.width s.sites js long)

  module _ (low : low_ties (length s.slots) js ≡ true) where
    colour-labels : (c : ℕ) → count_on (Of c) cs js n ≡ length (used_of s (slots_of c (tied s js)))
    colour-labels c = colour-count s hs xs ys cs d js c ∙ sym (colour-counted s js long low c)

    rule-two : bounds_on (bounds_of s.colours) cs js n ≡ bounds_kept s js 0 s.colours
    rule-two =
        ap (all_before (λ c. bound_kept (count_on (Of c) cs js n) (get_or (bounds_of s.colours) c 0))) (bounds-long s.colours) ∙
        bounds-are s js (λ c. count_on (Of c) cs js n) 0 s.colours (λ i. let z : i ≡ 0 + i = omega arith in colour-labels i ∙ ap (λ (c : ℕ). length (used_of s (slots_of c (tied s js)))) z)

    labels-are : count_on All cs js n ≡ count_of s js
    labels-are = sym (count-counted s js long low)

    pub length-is : length_on (head_by s) hs xs ys cs js n ≡ length_of s js
    length-is =
        ap (λ (f : ℕ → ℕ). sum_before f n)
        (fun_ext λ i. ap₂ ◌+◌ (ap (λ (z : ℕ). cond (is_first any_site js i) (s.width - z) 0) (left_is (get_or js i 0)))
        (ap₂ (share_by s.charge) (d.heights (get_or js i 0)) (d.ys i))) ∙
        sum-plus _ _ n ∙
        ap₂ ◌+◌ (sym (backbones-counted s js long low)) (sym (drops-counted s js long))

    module _ (inside : all (inside_by s.width) s.sites ≡ true) where
      rule-four : pairs_pass misses_pass (head_by s) ts n ≡ all (misses_all s js) (tied s js)
      rule-four = pairs-are misses_pass (misses_pair s) (λ i j. refl) ∙ sym (rule-four-pairs s js long inside low)

      rule-five : pairs_pass clears_pass (head_by s) ts n ≡ all (clears_all s js) (tied s js)
      rule-five = pairs-are clears_pass (clears_pair s) (λ i j. refl) ∙ sym (rule-five-pairs s js long inside low)

      -- ALL SIX, of a layout with these ties
      pub broken-is : (ls : List ℕ) → js ≡ layout_ties ls → broken_on (head_by s) (get_or ls 0 0) hs (bounds_of s.colours) xs ys cs js n ≡ broken_by s ls
      broken-is ls e =
          rw (rule-one, rule-two, rule-three, rule-four, rule-five, labels-are, length-is, e)
          (sym (chain (colours_kept (tied s (layout_ties ls))) (bounds_kept s (layout_ties ls) 0 s.colours) (gaps_kept s (tied s (layout_ties ls)))
          (all (misses_all s (layout_ties ls)) (tied s (layout_ties ls))) (all (clears_all s (layout_ties ls)) (tied s (layout_ties ls)))
          (eqb (stated_count ls) (count_of s (layout_ties ls)) && eqb (stated_length ls) (length_of s (layout_ties ls)))))
