-- A stored sheet and its twin: the length on the one-sided sheet, and the words that the tool changes. Assumes nothing.
use mathlib.Core.Path.{◌≡◌, refl, sym, ◌∙◌, ap}
use mathlib.Core.Bool.{true}
use mathlib.Core.List.{List, [], ◌∷◌, ◌++◌, append_assoc}
use Prim.Native.Nat.{ℕ, ◌+◌, ◌-◌, ◌/◌, ◌≤◌, ◌<◌}
use native.Mathlib.Omega.{arith}
use lib.ListN.{length, get_or, drop, set, length-append}
use lib.Seq.{set_at}
use Rattle.sheet.specs.Limits.{most_slots, most_sites, kind_top, length_top, top_word}
use Rattle.sheet.specs.Sheet.{kind_of, bits, Sheet, head_in, sheet_in, sheet_fault}
use Rattle.sheet.proofs.Accepted.{sound, some_words, few_words}
use Rattle.labelling.specs.Layout.{length_of, first_word, stated_count, ties_in, layout_body, layout_ties, is_layout, sheet_part, layout_part, stored_fault}
use Rattle.labelling.specs.Twin.{as_one_sided, twin_head, twin_words}
use Rattle.labelling.proofs.Judge.{judged-so}
use Rattle.labelling.proofs.Stored.{stored-accepted, stored-layout}
use Rattle.labelling.proofs.Words.{formed, length-ties_in, ties-low}
use Rattle.labelling.proofs.Twin.{length-fits}
use Rattle.decoding.specs.Decoding.{head_by, numbers_by, sheet_by, LayoutRead, site_colours_in, xs_in, ys_in}
use Rattle.decoding.specs.declared.Numbers.{Numbers}
use Rattle.decoding.proofs.Places.{decoded, sheet-read}
use Rattle.words.specs.declared.tied.Head.{Head}
use Rattle.layouts.specs.Model.{Low, length_on}
use Rattle.layouts.proofs.RulesKept.{length-is}
use Rattle.layouts.proofs.Fitting.{long, some}
use Rattle.judge.specs.Opened.{SitesRead}
use Rattle.twin.specs.Twin.{head_one_sided}

-- TWO WORDS set, the first of a list and the first of the list behind it
two-set : (a b d : List ℕ) (x y : ℕ) → 0 < length a → 0 < length b →
    set (set ((a ++ b) ++ d) 0 x) (length a) y ≡ ((x ∷ drop 1 a) ++ (y ∷ drop 1 b)) ++ d
two-set [] b d x y p q = absurd (omega arith)
two-set (w ∷ a) [] d x y p q = absurd (omega arith)
two-set (w ∷ a) (v ∷ b) d x y p q =
    ap (λ (l : List ℕ). x ∷ l) (ap (λ (l : List ℕ). set l (length a) y) (append_assoc a (v ∷ b) d) ∙ set_at a v (b ++ d) y (length a) refl ∙ sym (append_assoc a (y ∷ b) d))

-- BY NUMBERS that were read
module _ {d : Numbers} {ls : List ℕ} (p : LayoutRead d ls) where
  abbrev s : Sheet
  s = sheet_in p.read.words

  -- THE LENGTH: the numbers are low by the one-sided head too
  pub low-one : {h g : Head} {hs vs : List ℕ} → h ≡ head_one_sided g → Low g hs vs → Low h hs vs
  low-one e l = rw e (record { width = l.width; charge = l.charge; heights = l.heights; ys = l.ys })

  -- the sheet is that of the words
  same_length : length_of (as_one_sided (sheet_by d)) (layout_ties ls) ≡ length_of (as_one_sided s) (layout_ties ls)
  same_length = ap (λ (z : Sheet). length_of (as_one_sided z) (layout_ties ls)) (sheet-read p.read.numbers)

  -- what is found with that head is the length on the one-sided sheet
  pub length_found : {g h : Head} {hs us vs cs ts : List ℕ} (r : ℕ) → h ≡ head_one_sided g → SitesRead d ls g hs us vs cs ts →
      r ≡ length_on h hs us vs cs (ties_in ts) (length ts) → r ≡ length_of (as_one_sided (sheet_by d)) (layout_ties ls)
  length_found r eh t e =
      let n : Numbers = numbers_by s in
      let q : r ≡ length_on (head_by (as_one_sided s)) n.heights (xs_in n.site_list) (ys_in n.site_list) (site_colours_in n.site_list) (layout_ties ls) (length (layout_body ls)) =
      e ∙ rw (eh, t.head, t.heights, t.xs, t.ys, t.colours, t.ties, p.read.numbers) refl in
      q ∙ ap (length_on (head_by (as_one_sided s)) n.heights (xs_in n.site_list) (ys_in n.site_list) (site_colours_in n.site_list) (layout_ties ls)) (long p.read.words ls p.read.accepted p.form) ∙
      length-is (as_one_sided s) _ _ _ _ (decoded (as_one_sided s) most_slots) (layout_ties ls) (length-ties_in (layout_body ls) ∙ long p.read.words ls p.read.accepted p.form) (ties-low s (layout_body ls) (formed s ls p.form).ties) ∙
      sym same_length

  -- THE FIRST WORD with another length: it is a word, and the twin's
  pub first_fits : (w n r : ℕ) → w ≡ get_or ls 0 0 → n ≡ bits w 0 21 → r ≡ length_of (as_one_sided (sheet_by d)) (layout_ties ls) → w - n + r ≤ top_word
  first_fits w n r ew en er = fits w n r en (ap (λ (z : ℕ). z / kind_top) ew ∙ (formed s ls p.form).kind) (omega (arith, er, same_length, length-fits p.read.words ls p.read.accepted p.form))
    where
      fits : (w n r : ℕ) → n ≡ bits w 0 21 → kind_of w ≡ 8 → r < length_top → w - n + r ≤ top_word
      fits w n r e k l = omega arith

  pub first-twin : (w n r : ℕ) → w ≡ get_or ls 0 0 → n ≡ bits w 0 21 → r ≡ length_of (as_one_sided (sheet_by d)) (layout_ties ls) →
      w - n + r ≡ first_word (stated_count ls) (length_of (as_one_sided (sheet_by d)) (layout_ties ls))
  first-twin w n r ew en er =
      rw (← ew, ← er) (is w n r en (ap (λ (z : ℕ). z / kind_top) ew ∙ (formed s ls p.form).kind))
    where
      is : (w n r : ℕ) → n ≡ bits w 0 21 → kind_of w ≡ 8 → w - n + r ≡ first_word (bits w 21 7) r
      is w n r e k = omega arith

-- PARTS of a stored sheet of which nothing is refused
module _ (ws : List ℕ) (h : stored_fault ws ≡ 0) where
  abbrev ss : List ℕ
  ss = sheet_part ws

  abbrev b : List ℕ
  b = layout_part ws

  parts : ss ++ b ≡ ws
  parts = (judged-so.1 ws).0.0

  accepted : sheet_fault ss ≡ 0
  accepted = stored-accepted ws h

  in-form : is_layout (sheet_in ss) b ≡ true
  in-form = stored-layout ws h

  both_long : length ws ≡ length ss + length b
  both_long = ap length (sym parts) ∙ length-append ss b

  -- so few words that their number fits
  pub few : length ws ≤ top_word
  few = omega (arith, both_long, few_words ss accepted, (formed (sheet_in ss) b in-form).long, (sound ss accepted).few-sites)

  head-is : get_or ws 0 0 ≡ head_in ss
  head-is = ap (λ (l : List ℕ). get_or l 0 0) (sym parts) ∙ front ss (some_words ss accepted)
    where
      front : (l : List ℕ) → 0 < length l → get_or (l ++ b) 0 0 ≡ get_or l 0 0
      front [] k = absurd (omega arith)
      front (x ∷ l) k = refl

  -- of a two-sided sheet's words the head and the layout's first change
  pub two-words : (x y at : ℕ) (o p q : List ℕ) → (sheet_in ss).is_two_sided ≡ true → x ≡ twin_head (get_or ws 0 0) → y ≡ first_word (stated_count b) (length_of (as_one_sided (sheet_in ss)) (layout_ties b)) →
      at ≡ length ss → p ≡ ws ++ drop (length ws) o → q ≡ set (set p 0 x) at y → q ≡ twin_words ws ++ drop (length ws) o
  two-words x y at o p q t ex ey ea ep eq =
      eq ∙ rw (ep, ea, t)
      (ap (λ (l : List ℕ). set (set (l ++ drop (length ws) o) 0 x) (length ss) y) (sym parts) ∙
      two-set ss b (drop (length ws) o) x y (some_words ss accepted) (some ss b accepted in-form) ∙
      rw (ex ∙ ap twin_head head-is, ey) refl)
