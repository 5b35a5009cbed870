-- The program's text by what is refused, and how long it can be. Assumes nothing.
use mathlib.Core.Path.{◌≡◌, refl, sym, ap, ◌∙◌}
use mathlib.Core.Bool.{true, false, cond, not}
use mathlib.Core.List.{List, [], ◌∷◌, ◌++◌}
use Prim.Native.Nat.{ℕ, suc, ◌+◌, ◌*◌, ◌-◌, ◌%◌, ◌<◌, ◌≤◌}
use native.Mathlib.Omega.{arith}
use lib.Dec.{eqb, ltb}
use lib.ListN.{length, take, drop, length-append, length-drop}
use lib.Seq.{take_at}
use borrow.Author.Tests.{ltb-false, eqb-true, eq-eqb}
use Rattle.labelling.proofs.Maker.{refused-sheet}
use Rattle.sheet.proofs.Refusals.{at_most}
use Rattle.sheet.specs.Refusals.{numbered_to}
use Rattle.lists.proofs.Tests.{by-test, or_l, by_equal}
use Rattle.sheet.specs.Limits.{most_sites}
use Rattle.sheet.specs.Sheet.{kind_of, sites_in, sheet_in, sheet_fault, body_of, body_at}
use Rattle.sheet.proofs.Accepted.{sound}
use Rattle.labelling.specs.Layout.{stated_count, stated_length}
use Rattle.labelling.specs.Entry.{make_fault, make_answer, make_refusals}
use Rattle.refusals.specs.Input.{most_bytes, is_unfit}
use Rattle.report.specs.Input.{words_in}
use Rattle.text.specs.Text.{decimal, written, past_of}
use Rattle.text.proofs.Decimal.{decimal-length}
use Rattle.text.proofs.Written.{written-front}
use Rattle.report.specs.Lines.{refused_line, slot_at, site_lines, layout_text}
use Rattle.report.specs.Report.{sheet_text, program_sheet_text, program_text, site_line_bound, text_bound}
use Rattle.report.proofs.Words.{words-fit}

-- a choice by a refusal's number
refusal_then : (f : ℕ) (t u : List ℕ) → (f ≡ 0 → ⊥) → u ≡ cond (eqb f 0) t u
refusal_then f t u n = by-test (eqb f 0) (λ e. absurd (n (eqb-true f 0 e))) (λ e. rw e refl)

layout_then : (f : ℕ) (t u : List ℕ) → f ≡ 0 → t ≡ cond (eqb f 0) t u
layout_then f t u z = rw (eq-eqb f 0 z) refl

-- what is said of a sheet: a layout, or a refusal
pub sheet_laid : (ws k o : List ℕ) {f : ℕ} {ls : List ℕ} → f ≡ make_fault ws k o → f ≡ 0 → ls ≡ make_answer ws k o → layout_text (sheet_in ws) ls ≡ sheet_text ws k o
unfolding sheet_text
sheet_laid ws k o e z l = ap (layout_text (sheet_in ws)) l ∙ layout_then (make_fault ws k o) _ _ (sym e ∙ z)

pub sheet_refused : (ws k o : List ℕ) {f : ℕ} → f ≡ make_fault ws k o → (f ≡ 0 → ⊥) → refused_line f ≡ sheet_text ws k o
unfolding sheet_text
sheet_refused ws k o e n = ap refused_line e ∙ refusal_then (make_fault ws k o) _ _ (λ z. n (e ∙ z))

-- an input by its size
pub text-unfit : (bs : List ℕ) → is_unfit (length bs) ≡ true → refused_line 12 ≡ program_text bs
unfolding program_text
text-unfit bs e = rw e refl

pub text-fit : (bs : List ℕ) → is_unfit (length bs) ≡ false → program_sheet_text (words_in bs) ≡ program_text bs
unfolding program_text
text-fit bs e = rw e refl

-- an input that is served has at most 1,024 bytes, so 256 words
abbrev pub input_words : ℕ
input_words = 256

pub words-few : (bs : List ℕ) → is_unfit (length bs) ≡ false → length (words_in bs) ≤ input_words
words-few bs e = omega (arith, words-fit bs, ltb-false most_bytes (length bs) (or_l (ltb most_bytes (length bs)) (not (eqb (length bs % 4) 0)) e))

-- an area's front after it was filled
pub front : {w : List ℕ} {n : ℕ} (l s : List ℕ) → length s ≤ length l → n ≡ past_of l 0 s → w ≡ written l 0 s → take n w ≡ s
front l s h p q =
    let e : past_of l 0 s ≡ length s = omega arith in
    rw (p, q, e, written-front l s h) (take_at s (drop (length s) l) (length s) refl)

-- HOW LONG a text can be: a number of ten digits at most in each place
abbrev ten_digits : ℕ
ten_digits = 10000000000

few : (n : ℕ) → n < ten_digits → length (decimal n) ≤ 10
few n h = decimal-length 9 n h

lines-few : (ls : List ℕ) (i c : ℕ) (ws : List ℕ) → i + length ws < ten_digits → c + length ws < ten_digits →
    length (site_lines ls i (sites_in c ws)) ≤ site_line_bound * length (sites_in c ws)
unfolding site_lines sites_in
lines-few ls i c [] p q = omega arith
lines-few ls i c (w ∷ ws) p q =
    by-test (eqb (kind_of w) 3)
    (λ e. rw e (lines-few ls i (suc c) ws (omega arith) (omega arith)))
    λ e. by-test (eqb (kind_of w) 4)
    (λ f. rw (e, f)
    (simp length-append (omega (arith, few i (omega arith), few (c - 1) (omega arith), few (slot_at ls i) (omega arith), lines-few ls (suc i) c ws (omega arith) (omega arith)))))
    λ f. rw (e, f) (lines-few ls i c ws (omega arith) (omega arith))

-- no refusal of the maker or the program has a greater number
abbrev most_fault : ℕ
most_fault = 18

numbered : (ws k o : List ℕ) → numbered_to most_fault (make_refusals ws k o) ≡ true
unfolding numbered_to
numbered ws k o = refl

fault-few : (ws k o : List ℕ) → make_fault ws k o ≤ most_fault
fault-few ws k o = at_most most_fault (make_refusals ws k o) (numbered ws k o)

-- a sheet that is laid out is accepted
pub made-accepted : (ws k o : List ℕ) → make_fault ws k o ≡ 0 → sheet_fault ws ≡ 0
made-accepted ws k o e = by_equal (sheet_fault ws) 0 (λ z. z) (λ n. absurd (omega (arith, (refused-sheet ws k o (omega arith)).fault-is)))

refused-few : (n : ℕ) → n ≤ most_fault → length (refused_line n) ≤ text_bound
refused-few n h = simp length-append (omega (arith, few n (omega arith)))

layout-few : (ws ls : List ℕ) → length ws ≤ input_words → length (sites_in 0 (body_of ws)) ≤ most_sites → length (layout_text (sheet_in ws) ls) ≤ text_bound
unfolding layout_text
layout-few ws ls h n =
    let d : length (body_of ws) ≡ length ws - body_at ws = length-drop (body_at ws) ws in
    simp length-append (omega (arith, few (stated_count ls) (omega arith), few (stated_length ls) (omega arith), lines-few ls 0 0 (body_of ws) (omega arith) (omega arith)))

by-few : (g n : ℕ) (t : List ℕ) → (g ≡ 0 → length t ≤ n) → length (refused_line g) ≤ n → length (cond (eqb g 0) t (refused_line g)) ≤ n
by-few g n t h k = by-test (eqb g 0) (λ e. rw e (h (eqb-true g 0 e))) λ e. rw e k

sheet-few : (ws k o : List ℕ) → length ws ≤ input_words → length (sheet_text ws k o) ≤ text_bound
unfolding sheet_text
sheet-few ws k o h =
    by-few (make_fault ws k o) text_bound (layout_text (sheet_in ws) (make_answer ws k o))
    (λ e. layout-few ws (make_answer ws k o) h (sound ws (made-accepted ws k o e)).few-sites)
    (refused-few (make_fault ws k o) (omega (arith, fault-few ws k o)))

-- every text fits
pub text-fits : (bs : List ℕ) → length (program_text bs) ≤ text_bound
unfolding program_text program_sheet_text
text-fits bs =
    by-test (is_unfit (length bs)) (λ e. rw e (refused-few 12 (omega arith))) λ e. rw e (sheet-few (words_in bs) _ _ (words-few bs e))

-- what a report leaves in an area that is long enough
pub reported : (bs l : List ℕ) → text_bound ≤ length l →
    (past_of l 0 (program_text bs) ≡ length (program_text bs)) × (written l 0 (program_text bs) ≡ program_text bs ++ drop (length (program_text bs)) l)
reported bs l h =
    let f : length (program_text bs) ≤ text_bound = text-fits bs in
    (omega arith, written-front l (program_text bs) (omega arith))
