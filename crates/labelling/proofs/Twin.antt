-- THE TWIN'S PROMISES, KEPT: ties that are lawful on a two-sided sheet are lawful on its one-sided sheet, and their length is not greater
-- there. Assumes nothing.
use mathlib.Core.Path.{◌≡◌, refl, sym, ◌∙◌, ap, ap₂, subst, subst⁻¹}
use mathlib.Core.Logic.{inl, inr}
use mathlib.Core.Bool.{Bool, true, false, cond}
use mathlib.Core.List.{List, [], ◌∷◌, ◌++◌}
use mathlib.Core.Option.{Option, none, some}
use Prim.Native.Nat.{ℕ, ◌+◌, ◌≤◌, ◌<◌}
use native.Mathlib.Omega.{arith}
use lib.ListN.{length, drop, length-append, length-drop}
use lib.Seq.{drop-append_seam}
use Rattle.lists.proofs.Tests.{by-test, by_order}
use Rattle.sheet.specs.Limits.{length_top, count_top}
use Rattle.sheet.specs.Refusals.{given}
use Rattle.sheet.specs.Sheet.{kind_of, bits, Sheet, is_charge, charge_at, sheet_in, sheet_fault}
use Rattle.sheet.proofs.Accepted.{Sound, sound, some_words}
use Rattle.sheet.proofs.Charge.{body_kept}
use Rattle.labelling.specs.Layout.{Tied, height_of, left_end, site_share, backbones, drops, length_of, used_of, tied, first_number, second_number, best, first_word, stated_count, stated_length, ties_at, layout_ties, is_layout, sheet_part, layout_part, judge_fault, judged, share_by}
use Rattle.labelling.specs.Lawful.{Ties, Rules, Better, IsAnswer, Lawful}
use Rattle.labelling.specs.Twin.{as_one_sided, twin_head, twin_sheet, twin_layout, twin_words, TwinOf, TwinLawful, TwinOfTwin, NotWorse, BestNotWorse}
use Rattle.labelling.proofs.Answer.{answer-is, answer-none}
use Rattle.labelling.proofs.Judge.{sheet-part, judged-so}
use Rattle.labelling.proofs.Words.{formed, form, length-low, stated-count, stated-length}

-- THE HEAD without its side bit
head-kind : (w : ℕ) → kind_of (twin_head w) ≡ kind_of w
head-kind w = omega arith

head-side : (w : ℕ) → bits (twin_head w) 27 1 ≡ 0
head-side w = omega arith

head-aim : (w : ℕ) → bits (twin_head w) 26 1 ≡ bits w 26 1
head-aim w = omega arith

head-gap : (w : ℕ) → bits (twin_head w) 14 12 ≡ bits w 14 12
head-gap w = omega arith

head-width : (w : ℕ) → bits (twin_head w) 0 14 ≡ bits w 0 14
head-width w = omega arith

-- THE SHEET of the twin is one-sided, and refused where the sheet is
sheet-twin : (ws : List ℕ) → sheet_in (twin_sheet ws) ≡ as_one_sided (sheet_in ws)
unfolding is_charge
sheet-twin [] = refl
sheet-twin (w ∷ ws) = rw (body_kept (twin_head w) w ws, head-side w, head-aim w, head-gap w, head-width w) refl

fault-twin : (ws : List ℕ) → sheet_fault (twin_sheet ws) ≡ sheet_fault ws
unfolding given
fault-twin [] = refl
fault-twin (w ∷ ws) = rw (body_kept (twin_head w) w ws, head-kind w, head-gap w, head-width w) refl

accepted-twin : (ws : List ℕ) → sheet_fault ws ≡ 0 → sheet_fault (twin_sheet ws) ≡ 0
accepted-twin ws h = fault-twin ws ∙ h

sound-one : (ws : List ℕ) → sheet_fault ws ≡ 0 → Sound (as_one_sided (sheet_in ws))
sound-one ws h = subst Sound (sheet-twin ws) (sound (twin_sheet ws) (accepted-twin ws h))

-- a one-sided sheet stays what it is
same-sheet : (s : Sheet) → s.is_two_sided ≡ false → s ≡ as_one_sided s
same-sheet s e =
    λ i. record { is_two_sided = e i; is_shortest = s.is_shortest; gap = s.gap; width = s.width; charge = s.charge; slots = s.slots; colours = s.colours; sites = s.sites }

-- a site's share is the same
share-one : (s : Sheet) (h y : ℕ) → site_share (as_one_sided s) h y ≡ site_share s h y
unfolding share_by
share-one s h y = refl

drops-one : (s : Sheet) (ts : List Tied) → drops (as_one_sided s) ts ≡ drops s ts
unfolding drops
drops-one s [] = refl
drops-one s (t ∷ ts) = rw (share-one s (height_of s t.slot) t.site.y, drops-one s ts) refl

-- by a test one of two numbers, each no greater than its other
cond-le : (b : Bool) {k l m n : ℕ} → k ≤ m → l ≤ n → cond b k l ≤ cond b m n
cond-le true p q = p
cond-le false p q = q

-- A TWO-SIDED SHEET: its labels begin at 0, so rules 4 and 5 ask of every site what the one-sided sheet asks of some
module _ (s : Sheet) (two : s.is_two_sided ≡ true) (js : List ℕ) where
  left-zero : (k : ℕ) → left_end s js k ≡ 0
  left-zero k = rw two refl

  rules-one : Rules s js → Rules (as_one_sided s) js
  rules-one r = record {
    one = r.one;
    two = r.two;
    three = r.three;
    four = λ i k l u n e. r.four i k l u n (omega (arith, left-zero k));
    five = λ i k l u n e. r.five i k l u n (inl (omega (arith, left-zero k)));
  }

  backbones-one : (ks : List ℕ) → backbones (as_one_sided s) js ks ≤ backbones s js ks
  unfolding backbones
  backbones-one [] = omega arith
  backbones-one (k ∷ ks) = omega (arith, left-zero k, backbones-one ks)

  length-one : length_of (as_one_sided s) js ≤ length_of s js
  length-one = omega (arith, backbones-one (used_of s js), drops-one s (tied s js))

  first_one : first_number (as_one_sided s) js ≤ first_number s js
  first_one = cond-le s.is_shortest length-one (omega arith)

  second-one : second_number (as_one_sided s) js ≤ second_number s js
  second-one = cond-le s.is_shortest (omega arith) length-one

  -- THE BEST is not worse
  best-one : Sound (as_one_sided s) → Ties s js → Rules s js → (ks : List ℕ) × IsAnswer (as_one_sided s) ks × NotWorse (as_one_sided s) ks s js
  best-one o t r = go (best (as_one_sided s)) refl
    where
      t' : Ties (as_one_sided s) js
      t' = record { long = t.long; low = t.low }

      not-worse : (ks : List ℕ) → (Better (as_one_sided s) js ks → ⊥) → NotWorse (as_one_sided s) ks s js
      not-worse ks f =
          by_order (first_number s js) (first_number (as_one_sided s) ks)
          (λ h. by_order (first_number (as_one_sided s) ks) (first_number (as_one_sided s) js)
          (λ g. by_order (second_number (as_one_sided s) ks) (second_number (as_one_sided s) js)
          (λ l. inr (omega (arith, first_one), omega (arith, second-one)))
          (λ l. absurd (f (inr (omega (arith, first_one), inl l)))))
          (λ g. absurd (f (inl g))))
          (λ h. inl h)

      go : (b : Option (List ℕ)) → best (as_one_sided s) ≡ b → (ks : List ℕ) × IsAnswer (as_one_sided s) ks × NotWorse (as_one_sided s) ks s js
      go none e = absurd ((answer-none (as_one_sided s)).0 e js t' (rules-one r))
      go (some ks) e = let a : IsAnswer (as_one_sided s) ks = (answer-is (as_one_sided s) o ks).0 e in (ks, a, not-worse ks (a.first js t' (rules-one r)))

pub best-not-worse : BestNotWorse
best-not-worse ws js h two t r = (
  accepted-twin ws h,
  sheet-twin ws,
  subst⁻¹ (λ (v : Sheet). (ks : List ℕ) × IsAnswer v ks × NotWorse v ks (sheet_in ws) js) (sheet-twin ws) (best-one (sheet_in ws) two js (sound-one ws h) t r),
)

-- A STORED SHEET, put together: its parts are those that were put together
parts-of : (ss b : List ℕ) → sheet_fault ss ≡ 0 → is_layout (sheet_in ss) b ≡ true → (sheet_part (ss ++ b) ≡ ss) × (layout_part (ss ++ b) ≡ b)
parts-of ss b h l =
    let e : sheet_part (ss ++ b) ≡ ss = sheet-part ss b h l in
    (e, ap (λ (v : List ℕ). drop (length v) (ss ++ b)) e ∙ drop-append_seam ss b)

-- THE LAYOUT on the one-sided sheet
module _ (ss b : List ℕ) (h : sheet_fault ss ≡ 0) (l : is_layout (sheet_in ss) b ≡ true) where
  abbrev s : Sheet
  s = sheet_in ss

  abbrev js : List ℕ
  js = layout_ties b

  count_fits : stated_count b < count_top
  count_fits = omega arith

  pub length-fits : length_of (as_one_sided s) js < length_top
  length-fits = length-low (as_one_sided s) (sound-one ss h) js

  states-count : stated_count (twin_layout s b) ≡ stated_count b
  states-count = stated-count (stated_count b) (length_of (as_one_sided s) js) js count_fits length-fits

  states-length : stated_length (twin_layout s b) ≡ length_of (as_one_sided s) js
  states-length = stated-length (stated_count b) (length_of (as_one_sided s) js) js count_fits length-fits

  long-layout : length (twin_layout s b) ≡ length b
  long-layout = omega (arith, length-drop ties_at b, (formed s b l).long)

  long-sheet : length (twin_sheet ss) ≡ length ss
  long-sheet = omega (arith, length-drop charge_at ss, some_words ss h)

  form-twin : is_layout (as_one_sided s) (twin_layout s b) ≡ true
  form-twin =
      form (as_one_sided s) (twin_layout s b)
      (record {
        long = long-layout ∙ (formed s b l).long;
        kind = eight (stated_count b) (length_of (as_one_sided s) js) count_fits length-fits;
        ties = (formed s b l).ties;
      })
    where
      eight : (c n : ℕ) → c < count_top → n < length_top → kind_of (first_word c n) ≡ 8
      eight c n p q = omega arith

  module _ (two : s.is_two_sided ≡ true) (w : Lawful s b) where
    lawful-twin : Lawful (as_one_sided s) (twin_layout s b)
    lawful-twin = record { rules = rules-one s two js w.rules; six = (states-count ∙ w.six.0, states-length) }

    abbrev tw : List ℕ
    tw = twin_sheet ss ++ twin_layout s b

    twin-of : (ws : List ℕ) → sheet_part ws ≡ ss → layout_part ws ≡ b → length ws ≡ length ss + length b → TwinOf ws tw
    twin-of ws es eb el =
        let form : is_layout (sheet_in (twin_sheet ss)) (twin_layout s b) ≡ true = subst⁻¹ (λ (v : Sheet). is_layout v (twin_layout s b) ≡ true) (sheet-twin ss) form-twin in
        let p = parts-of (twin_sheet ss) (twin_layout s b) (accepted-twin ss h) form in
        let e : sheet_in (sheet_part tw) ≡ as_one_sided s = ap sheet_in p.0 ∙ sheet-twin ss in
        let lawful : Lawful (sheet_in (sheet_part tw)) (layout_part tw) = rw (e, p.1) lawful-twin in
        let accepted : judge_fault tw ≡ 0 = (judged-so.1 tw).3.1 (ap sheet_fault p.0 ∙ accepted-twin ss h, ap₂ is_layout e p.1 ∙ form-twin) in
        record {
          long = length-append (twin_sheet ss) (twin_layout s b) ∙ omega (arith, long-sheet, long-layout, el);
          accepted = accepted;
          verdict = ((judged-so.1 tw).5 accepted).1.1 lawful;
          lawful = lawful;
          sheet = rw (es, e) refl;
          ties = rw (eb, p.1) refl;
          count = rw (eb, p.1) states-count;
          no_longer = rw (eb, p.1) (omega (arith, states-length, w.six.1, length-one s two js));
        }

-- a lawful one-sided stored sheet is its own twin
twin-same : (ws : List ℕ) → judge_fault ws ≡ 0 → judged ws ≡ 0 → (sheet_in (sheet_part ws)).is_two_sided ≡ false → TwinOf ws ws
twin-same ws h v e =
    record {
      long = refl;
      accepted = h;
      verdict = v;
      lawful = ((judged-so.1 ws).5 h).1.0 v;
      sheet = same-sheet (sheet_in (sheet_part ws)) e;
      ties = refl;
      count = refl;
      no_longer = omega arith;
    }

-- what is one-sided comes back as it is
pub same-words : (ws : List ℕ) → (sheet_in (sheet_part ws)).is_two_sided ≡ false → twin_words ws ≡ ws
same-words ws e = rw e refl

pub twin-lawful : TwinLawful
twin-lawful ws h v =
    let j = judged-so.1 ws in
    let a = j.3.0 h in
    let el : length ws ≡ length (sheet_part ws) + length (layout_part ws) = ap length (sym j.0.0) ∙ length-append (sheet_part ws) (layout_part ws) in (
      by-test (sheet_in (sheet_part ws)).is_two_sided
          (λ e. rw e (twin-of (sheet_part ws) (layout_part ws) a.0 a.1 e ((j.5 h).1.0 v) ws refl refl el))
          (λ e. subst⁻¹ (TwinOf ws) (same-words ws e) (twin-same ws h v e)),
      same-words ws,
    )

pub twin-of-twin : TwinOfTwin
twin-of-twin ws h v = same-words (twin_words ws) (ap (λ (t : Sheet). t.is_two_sided) (twin-lawful ws h v).0.sheet)
