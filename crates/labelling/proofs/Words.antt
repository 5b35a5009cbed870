-- Lawful layouts as words are the words of their ties.
-- Assumes nothing.
use mathlib.Core.Path.{◌≡◌, refl, sym, ◌∙◌, ap, ap₂}
use mathlib.Core.Bool.{Bool, true, false, ◌&&◌, not, cond}
use mathlib.Core.List.{List, [], ◌∷◌}
use Prim.Native.Nat.{ℕ, zero, suc, ◌+◌, ◌*◌, ◌-◌, ◌≤◌, ◌<◌}
use native.Mathlib.Omega.{arith}
use lib.Dec.{ltb, eqb}
use lib.ListN.{length, get_or}
use borrow.Author.Tests.{ltb-true, eqb-true, eqb-false, lt-ltb, eq-eqb}
use Rattle.sheet.specs.Limits.{most_slots, most_sites, word_top, number_top, most_number, most_share, byte_top, length_top, count_top}
use Rattle.sheet.specs.Sheet.{all, kind_of, bits, Site, Sheet}
use Rattle.labelling.specs.Layout.{no_site, tied_of, tied, height_of, is_used, used_from, used_of, left_end, count_of, backbones, drops, length_of, broken_in, tie_word, tie_words, first_word, layout_words, stated_count, stated_length, ties_in, is_tie, is_layout, broken_by, is_lawful, answer_of, layout_body, layout_ties, words_for}
use Rattle.labelling.specs.Lawful.{Ties}
use Rattle.labelling.specs.Promise.{are_words, same}
use Rattle.lists.proofs.Tests.{by-test, and_l, and_r, and_i, eqb-self}
use Rattle.sheet.proofs.Accepted.{Sound, low_y, low_n}
use Rattle.labelling.proofs.Distances.{share-le}
use Rattle.labelling.proofs.Best.{Obeys, low_ties, low-at}

-- SIZES
pub count-used : (k n : ℕ) (js : List ℕ) → length (used_from k n js) ≤ n
unfolding used_from
count-used k zero js = omega arith
count-used k (suc n) js =
    by-test (is_used k js) (λ e. rw e (omega (arith, count-used (suc k) n js))) λ e. rw e (omega (arith, count-used (suc k) n js))

backbones-le : (s : Sheet) (js ks : List ℕ) → s.width < number_top → backbones s js ks ≤ length ks * most_number
unfolding backbones
backbones-le s js [] h = omega arith
backbones-le s js (k ∷ ks) h = short s.width (left_end s js k) (backbones s js ks) (length ks) h (backbones-le s js ks h)
  where
    short : (w l b n : ℕ) → w < number_top → b ≤ n * most_number → w - l + b ≤ suc n * most_number
    short w l b n h i = omega arith

pub height-low : (hs : List ℕ) (k : ℕ) → all low_n hs ≡ true → get_or hs k 0 < number_top
unfolding all
height-low [] k h = omega arith
height-low (x ∷ hs) zero h = ltb-true x number_top (and_l (low_n x) (all low_n hs) h)
height-low (x ∷ hs) (suc k) h = height-low hs k (and_r (low_n x) (all low_n hs) h)

pub y-low : (ss : List Site) (i : ℕ) → all low_y ss ≡ true → (get_or ss i no_site).y < number_top
unfolding all
y-low [] i h = omega arith
y-low (s ∷ ss) zero h = ltb-true s.y number_top (and_l (low_y s) (all low_y ss) h)
y-low (s ∷ ss) (suc i) h = y-low ss i (and_r (low_y s) (all low_y ss) h)

drops-le : (s : Sheet) (ss : List Site) (js : List ℕ) → s.charge < number_top → all low_n s.slots ≡ true → all low_y ss ≡ true →
    drops s (tied_of ss js) ≤ length ss * most_share
unfolding drops tied_of all
drops-le s [] js c h k = omega arith
drops-le s (t ∷ ss) [] c h k = omega arith
drops-le s (t ∷ ss) (j ∷ js) c h k =
    omega (
      arith,
      share-le s.charge (height_of s j) t.y c (height-low s.slots j h) (ltb-true t.y number_top (and_l (low_y t) (all low_y ss) k)),
      drops-le s ss js c h (and_r (low_y t) (all low_y ss) k),
    )

pub count_low : (s : Sheet) → Sound s → (js : List ℕ) → count_of s js ≤ most_slots
count_low s o js = omega (arith, count-used 0 (length s.slots) js, o.few-slots)

pub length-low : (s : Sheet) → Sound s → (js : List ℕ) → length_of s js < length_top
length-low s o js =
    add (length (used_of s js)) (length s.sites) (backbones s js (used_of s js)) (drops s (tied s js)) (count_low s o js) o.few-sites
    (backbones-le s js (used_of s js) o.narrow) (drops-le s s.sites js o.charged o.heights o.ys)
  where
    add : (u n b d : ℕ) → u ≤ most_slots → n ≤ most_sites → b ≤ u * most_number → d ≤ n * most_share → b + d < length_top
    add u n b d p q r t = omega arith

-- TIES AS WORDS
pub ties-of-words : (m : ℕ) (js : List ℕ) → m ≤ byte_top → low_ties m js ≡ true → ties_in (tie_words js) ≡ js
unfolding ties_in tie_words all
ties-of-words m [] h b = refl
ties-of-words m (j ∷ js) h b =
    let l : j < m = ltb-true j m (and_l (ltb j m) (low_ties m js) b) in
    ap₂ (λ (a : ℕ) (b : List ℕ). a ∷ b) (low j (omega arith)) (ties-of-words m js h (and_r (ltb j m) (low_ties m js) b))
  where
    low : (j : ℕ) → j < byte_top → bits (tie_word j) 0 8 ≡ j
    low j h = omega arith

pub length-tie_words : (js : List ℕ) → length (tie_words js) ≡ length js
unfolding tie_words
length-tie_words [] = refl
length-tie_words (j ∷ js) = ap suc (length-tie_words js)

pub all-ties : (s : Sheet) (js : List ℕ) → length s.slots ≤ byte_top → low_ties (length s.slots) js ≡ true → all (is_tie s) (tie_words js) ≡ true
unfolding tie_words all
all-ties s [] h b = refl
all-ties s (j ∷ js) h b =
    let l : j < length s.slots = ltb-true j (length s.slots) (and_l (ltb j (length s.slots)) (low_ties (length s.slots) js) b) in
    and_i (tie j (length s.slots) h l) (all-ties s js h (and_r (ltb j (length s.slots)) (low_ties (length s.slots) js) b))
  where
    tie : (j m : ℕ) → m ≤ byte_top → j < m →
        (eqb (kind_of (tie_word j)) 9 && eqb (bits (tie_word j) 8 20) 0 && ltb (bits (tie_word j) 0 8) m) ≡ true
    tie j m h l =
        and_i
        (and_i (eq-eqb (kind_of (tie_word j)) 9 (omega arith)) (eq-eqb (bits (tie_word j) 8 20) 0 (omega arith)))
        (lt-ltb (bits (tie_word j) 0 8) m (omega arith))

pub ties-are-words : (m : ℕ) (js : List ℕ) → m ≤ byte_top → low_ties m js ≡ true → are_words (tie_words js) ≡ true
unfolding tie_words are_words all
ties-are-words m [] h b = refl
ties-are-words m (j ∷ js) h b =
    let l : j < m = ltb-true j m (and_l (ltb j m) (low_ties m js) b) in
    and_i (lt-ltb (tie_word j) word_top (omega arith)) (ties-are-words m js h (and_r (ltb j m) (low_ties m js) b))

-- words in form are the words of their ties
pub words-of-ties : (s : Sheet) (ws : List ℕ) → all (is_tie s) ws ≡ true → ws ≡ tie_words (ties_in ws)
unfolding tie_words ties_in all
words-of-ties s [] h = refl
words-of-ties s (w ∷ ws) h =
    let t : (eqb (kind_of w) 9 && eqb (bits w 8 20) 0) ≡ true =
    and_l (eqb (kind_of w) 9 && eqb (bits w 8 20) 0) (ltb (bits w 0 8) (length s.slots)) (and_l (is_tie s w) (all (is_tie s) ws) h) in
    ap₂ (λ (a : ℕ) (b : List ℕ). a ∷ b)
    (back w (eqb-true (kind_of w) 9 (and_l (eqb (kind_of w) 9) (eqb (bits w 8 20) 0) t))
    (eqb-true (bits w 8 20) 0 (and_r (eqb (kind_of w) 9) (eqb (bits w 8 20) 0) t)))
    (words-of-ties s ws (and_r (is_tie s w) (all (is_tie s) ws) h))
  where
    back : (w : ℕ) → kind_of w ≡ 9 → bits w 8 20 ≡ 0 → w ≡ tie_word (bits w 0 8)
    back w p q = omega arith

pub ties-low : (s : Sheet) (ws : List ℕ) → all (is_tie s) ws ≡ true → low_ties (length s.slots) (ties_in ws) ≡ true
unfolding ties_in all
ties-low s [] h = refl
ties-low s (w ∷ ws) h =
    and_i (and_r (eqb (kind_of w) 9 && eqb (bits w 8 20) 0) (ltb (bits w 0 8) (length s.slots)) (and_l (is_tie s w) (all (is_tie s) ws) h))
    (ties-low s ws (and_r (is_tie s w) (all (is_tie s) ws) h))

pub length-ties_in : (ws : List ℕ) → length (ties_in ws) ≡ length ws
unfolding ties_in
length-ties_in [] = refl
length-ties_in (w ∷ ws) = ap suc (length-ties_in ws)

-- THE ANSWER'S WORDS state what they should
pub stated-count : (c l : ℕ) (js : List ℕ) → c < count_top → l < length_top → stated_count (layout_words c l js) ≡ c
stated-count c l js p q = omega arith

pub stated-length : (c l : ℕ) (js : List ℕ) → c < count_top → l < length_top → stated_length (layout_words c l js) ≡ l
stated-length c l js p q = omega arith

pub same_self : (ws : List ℕ) → same ws ws ≡ true
unfolding same
same_self [] = refl
same_self (w ∷ ws) = and_i (eqb-self w) (same_self ws)

-- the least broken rule is 0: nothing of 1 to 5, and the numbers are true
broken-zero : (b c l : ℕ) (x y : ℕ) → ◌≡◌ {A = ℕ} (cond (not (eqb b 0)) b (cond (eqb x c && eqb y l) 0 6)) 0 → (b ≡ 0) × (x ≡ c) × (y ≡ l)
broken-zero b c l x y h = go (eqb b 0) refl h
  where
    go : (t : Bool) → eqb b 0 ≡ t → ◌≡◌ {A = ℕ} (cond (not t) b (cond (eqb x c && eqb y l) 0 6)) 0 → (b ≡ 0) × (x ≡ c) × (y ≡ l)
    go true e h = by-test (eqb x c && eqb y l)
        (λ f. (eqb-true b 0 e, eqb-true x c (and_l (eqb x c) (eqb y l) f), eqb-true y l (and_r (eqb x c) (eqb y l) f)))
        λ f. absurd (omega (arith, rw f at h))
    go false e h = absurd (eqb-false b 0 e h)

zero-broken : (b c l : ℕ) (x y : ℕ) → b ≡ 0 → x ≡ c → y ≡ l → ◌≡◌ {A = ℕ} (cond (not (eqb b 0)) b (cond (eqb x c && eqb y l) 0 6)) 0
zero-broken b c l x y h p q = rw (eq-eqb b 0 h, eq-eqb x c p, eq-eqb y l q)

-- A LAYOUT IN FORM, by its parts
pub record Formed (s : Sheet) (b : List ℕ) : Type 0 where
  pub long : length b ≡ words_for s
  pub kind : kind_of (get_or b 0 0) ≡ 8
  pub ties : all (is_tie s) (layout_body b) ≡ true

pub formed : (s : Sheet) (b : List ℕ) → is_layout s b ≡ true → Formed s b
formed s b h =
    let p : Bool = eqb (length b) (words_for s) in
    let q : Bool = eqb (kind_of (get_or b 0 0)) 8 in
    let r : Bool = all (is_tie s) (layout_body b) in
    record {
      long = eqb-true (length b) (words_for s) (and_l p q (and_l (p && q) r h));
      kind = eqb-true (kind_of (get_or b 0 0)) 8 (and_r p q (and_l (p && q) r h));
      ties = and_r (p && q) r h;
    }

pub form : (s : Sheet) (b : List ℕ) → Formed s b → is_layout s b ≡ true
form s b f = and_i (and_i (eq-eqb (length b) (words_for s) f.long) (eq-eqb (kind_of (get_or b 0 0)) 8 f.kind)) f.ties

-- its ties are one a site, to slots below m
pub formed-long : (s : Sheet) (b : List ℕ) → Formed s b → length (layout_ties b) ≡ length s.sites
formed-long s [] f = absurd (omega (arith, f.long))
formed-long s (w ∷ ws) f = length-ties_in ws ∙ less (length ws) (length s.sites) f.long
  where
    less : (a b : ℕ) → suc a ≡ b + 1 → a ≡ b
    less a b e = omega arith

pub formed-ties : (s : Sheet) (b : List ℕ) → Formed s b → Ties s (layout_ties b)
formed-ties s b f =
    let n = formed-long s b f in
    record { long = n; low = λ i l. low-at (length s.slots) (layout_ties b) (ties-low s (layout_body b) f.ties) i (omega (arith, n)) }

-- LAWFUL WORDS and ties that obey
pub record Written (s : Sheet) (b : List ℕ) : Type 0 where
  pub obeys : Obeys s (layout_ties b)
  pub written : b ≡ answer_of s (layout_ties b)

-- a list in form whose rules 1 to 5 hold, and which states its numbers
pub written : (s : Sheet) (b : List ℕ) → Formed s b → broken_in s (layout_ties b) ≡ 0 → stated_count b ≡ count_of s (layout_ties b) →
    stated_length b ≡ length_of s (layout_ties b) → Written s b
written s [] f z c l = absurd (omega (arith, f.long))
written s (w ∷ ws) f z c l =
    record {
      obeys = record { long = formed-long s (w ∷ ws) f; low = ties-low s ws f.ties; kept = z };
      written = ap₂ (λ (a : ℕ) (b : List ℕ). a ∷ b) (back w (count_of s (ties_in ws)) (length_of s (ties_in ws)) f.kind c l) (words-of-ties s ws f.ties);
    }
  where
    back : (w c l : ℕ) → kind_of w ≡ 8 → bits w 21 7 ≡ c → bits w 0 21 ≡ l → w ≡ first_word c l
    back w c l k p q = omega arith

pub lawful-obeys : (s : Sheet) (b : List ℕ) → is_lawful s b ≡ true → Written s b
lawful-obeys s b h =
    let js : List ℕ = layout_ties b in
    let t = broken-zero (broken_in s js) (count_of s js) (length_of s js) (stated_count b) (stated_length b)
    (eqb-true (broken_by s b) 0 (and_r (is_layout s b) (eqb (broken_by s b) 0) h)) in
    written s b (formed s b (and_l (is_layout s b) (eqb (broken_by s b) 0) h)) t.0 t.1 t.2

pub answer-ties : (s : Sheet) → Sound s → (js : List ℕ) → Obeys s js → ties_in (tie_words js) ≡ js
answer-ties s o js k = ties-of-words (length s.slots) js (omega (arith, o.few-slots)) k.low

pub answer-count : (s : Sheet) → Sound s → (js : List ℕ) → stated_count (answer_of s js) ≡ count_of s js
answer-count s o js =
    let c : count_of s js ≤ most_slots = count_low s o js in
    stated-count (count_of s js) (length_of s js) js (omega arith) (length-low s o js)

pub answer-length : (s : Sheet) → Sound s → (js : List ℕ) → stated_length (answer_of s js) ≡ length_of s js
answer-length s o js =
    let c : count_of s js ≤ most_slots = count_low s o js in
    stated-length (count_of s js) (length_of s js) js (omega arith) (length-low s o js)

pub obeys-formed : (s : Sheet) → Sound s → (js : List ℕ) → Obeys s js → Formed s (answer_of s js)
obeys-formed s o js k =
    record {
      long = more (length (tie_words js)) (length s.sites) (length-tie_words js ∙ k.long);
      kind = eight (count_of s js) (length_of s js) (count_low s o js) (length-low s o js);
      ties = all-ties s js (omega (arith, o.few-slots)) k.low;
    }
  where
    more : (a b : ℕ) → a ≡ b → suc a ≡ b + 1
    more a b e = omega arith

    eight : (c l : ℕ) → c ≤ most_slots → l < length_top → kind_of (first_word c l) ≡ 8
    eight c l p q = omega arith

pub obeys-lawful : (s : Sheet) → Sound s → (js : List ℕ) → Obeys s js → is_lawful s (answer_of s js) ≡ true
obeys-lawful s o js k =
    let b : List ℕ = answer_of s js in
    let e : ties_in (tie_words js) ≡ js = answer-ties s o js k in
    and_i (form s b (obeys-formed s o js k))
    (eq-eqb (broken_by s b) 0
    (zero-broken (broken_in s (ties_in (tie_words js))) (count_of s (ties_in (tie_words js))) (length_of s (ties_in (tie_words js))) (stated_count b) (stated_length b)
    (ap (broken_in s) e ∙ k.kept)
    (answer-count s o js ∙ ap (count_of s) (sym e))
    (answer-length s o js ∙ ap (length_of s) (sym e))))

pub answer-words : (s : Sheet) → Sound s → (js : List ℕ) → Obeys s js → are_words (answer_of s js) ≡ true
unfolding are_words
answer-words s o js k =
    and_i (lt-ltb (first_word (count_of s js) (length_of s js)) word_top (small (count_of s js) (length_of s js) (count_low s o js) (length-low s o js)))
    (ties-are-words (length s.slots) js (omega (arith, o.few-slots)) k.low)
  where
    small : (c l : ℕ) → c ≤ most_slots → l < length_top → first_word c l < word_top
    small c l p q = omega arith
