-- The promises kept, ends in themselves: BestOfAll, OneAnswer, AreasKept, JudgedSo and Examples. Assumes nothing.
pub use Rattle.labelling.proofs.Answer.{one_answer}
pub use Rattle.labelling.proofs.Judge.{judged-so}
pub use Rattle.labelling.proofs.Examples.{examples}
use mathlib.Core.Path.{◌≡◌, sym, ◌∙◌, ap, subst⁻¹}
use mathlib.Core.Bool.{true, false, cond}
use mathlib.Core.List.{List, ◌++◌}
use mathlib.Core.Option.{Option, none, some}
use Prim.Native.Nat.{ℕ, ◌≤◌, ◌<◌}
use native.Mathlib.Omega.{arith}
use lib.Dec.{eqb}
use lib.ListN.{length, take, drop, replicate, length-replicate}
use lib.Seq.{length_front, length-take-le, take_at, drop_at}
use borrow.Author.Tests.{eq-eqb}
use Rattle.sheet.specs.Sheet.{Sheet, sheet_in, work_for}
use Rattle.labelling.specs.Layout.{slots_by_rank, is_better, best, answer_of, is_lawful, layout_ties, words_for}
use Rattle.labelling.specs.Entry.{make_fault, make_answer, make_work}
use Rattle.labelling.specs.Promise.{same, is_beaten, begun, NoneLawful, BeatsAll, BestOfAll, AreasKept, ContentsUnread, RefusedUnchanged}
use Rattle.lists.proofs.Tests.{clash, is_false, is_true}
use Rattle.labelling.proofs.Order.{before}
use Rattle.labelling.proofs.Best.{Obeys, IsBest, best-is}
use Rattle.sheet.proofs.Accepted.{Sound, sound}
use Rattle.labelling.proofs.Words.{Written, lawful-obeys, obeys-lawful, answer-words, answer-ties, answer-count, answer-length, same_self}
use Rattle.labelling.proofs.Answer.{obeys-same}
use Rattle.labelling.proofs.Maker.{Called, called, begun-is, length-answer, cleared, Outcome, outcome}

-- AREAS
contents-unread : ContentsUnread
contents-unread ws k o l p t u = go (best (sheet_in ws)) (best-is (sheet_in ws)) (called ws k o (t.1, t.2, t.3, t.4)) (called ws l p (u.1, u.2, u.3, u.4))
  where
    n : ℕ
    n = words_for (sheet_in ws)

    w : ℕ
    w = work_for (sheet_in ws)

    go : (b : Option (List ℕ)) → IsBest (sheet_in ws) (Obeys (sheet_in ws)) b → Called ws k o b → Called ws l p b →
        (make_fault ws k o ≡ make_fault ws l p) × (make_fault ws k o ≡ 0 → begun ws k o ≡ begun ws l p) ×
        (drop n (make_answer ws k o) ≡ drop n o) ×
        (take w (make_work ws k o) ≡ replicate w 0) ×
        (drop w (make_work ws k o) ≡ drop w k)
    go none h c d = (
      c.fault ∙ sym d.fault,
      (λ e. absurd (omega (arith, c.fault))),
      ap (drop n) c.answer,
      ap (take w) c.work ∙ take_at (replicate w 0) (drop w k) w (length-replicate w 0),
      ap (drop w) c.work ∙ drop_at (replicate w 0) (drop w k) w (length-replicate w 0),
    )
    go (some js) h c d = (
      c.fault ∙ sym d.fault,
      (λ e. begun-is ws k o js c h.0 ∙ sym (begun-is ws l p js d h.0)),
      ap (drop n) c.answer ∙ drop_at (answer_of (sheet_in ws) js) (drop n o) n (length-answer (sheet_in ws) js h.0),
      ap (take w) c.work ∙ take_at (replicate w 0) (drop w k) w (length-replicate w 0),
      ap (drop w) c.work ∙ drop_at (replicate w 0) (drop w k) w (length-replicate w 0),
    )

-- an area whose first words are written anew keeps its length
same_length : (b o : List ℕ) (n : ℕ) → length b ≡ n → n ≤ length o → length (b ++ drop n o) ≡ length o
same_length b o n l h = length_front o b n (l ∙ sym (length-take-le n o h))

refused-unchanged : RefusedUnchanged
refused-unchanged ws k o = go (outcome ws k o)
  where
    w : ℕ
    w = work_for (sheet_in ws)

    clear : w ≤ length k → length (cleared ws k) ≡ length k
    clear h = same_length (replicate w 0) k w (length-replicate w 0) h

    go : Outcome ws k o →
        (0 < make_fault ws k o → (make_fault ws k o ≡ 10 → ⊥) → (make_answer ws k o ≡ o) × (make_work ws k o ≡ k)) ×
        (make_fault ws k o ≡ 10 → make_answer ws k o ≡ o) ×
        (length (make_answer ws k o) ≡ length o) × (length (make_work ws k o) ≡ length k)
    go (Outcome.refused n l u r) = ((λ p q. (r.out-is, r.work-is)), (λ e. r.out-is), ap length r.out-is, ap length r.work-is)
    go (Outcome.none-lawful v e r) =
        ((λ p q. absurd (q r.fault-is)), (λ e. r.out-is), ap length r.out-is, ap length r.work-is ∙ clear v.1)
    go (Outcome.laid_out js v e b r) = (
      (λ p q. absurd (omega (arith, r.fault-is))),
      (λ e. absurd (omega (arith, r.fault-is))),
      ap length r.out-is ∙ same_length (answer_of (sheet_in ws) js) o _ (length-answer (sheet_in ws) js b) v.2,
      ap length r.work-is ∙ clear v.1,
    )

pub areas-kept : AreasKept
areas-kept = (contents-unread, refused-unchanged)

-- BEST OF ALL
beaten-is : (s : Sheet) → Sound s → (js ks : List ℕ) → Obeys s js → Obeys s ks →
    is_beaten s (answer_of s js) (answer_of s ks) ≡ is_better s js ks
beaten-is s o js ks j k =
    λ i. before
    (cond s.is_shortest (answer-length s o js i) (answer-count s o js i))
    (cond s.is_shortest (answer-count s o js i) (answer-length s o js i))
    (slots_by_rank s (answer-ties s o js j i))
    (cond s.is_shortest (answer-length s o ks i) (answer-count s o ks i))
    (cond s.is_shortest (answer-count s o ks i) (answer-length s o ks i))
    (slots_by_rank s (answer-ties s o ks k i))

-- a lawful list of words that is not the words of the best ties is beaten by them
pub beats : (s : Sheet) → Sound s → (js : List ℕ) → IsBest s (Obeys s) (some js) → (b : List ℕ) → is_lawful s b ≡ true →
    same b (answer_of s js) ≡ false → is_beaten s (answer_of s js) b ≡ true
beats s o js h b l d =
    let w : Written s b = lawful-obeys s b l in
    let ks : List ℕ = layout_ties b in
    subst⁻¹ (λ (v : List ℕ). is_beaten s (answer_of s js) v ≡ true) w.written
    (beaten-is s o js ks h.0 w.obeys ∙
    is_true (is_better s js ks) λ e.
    clash (same_self b)
    (subst⁻¹ (λ (v : List ℕ). same b v ≡ false) (w.written ∙ ap (answer_of s) (obeys-same s o ks js w.obeys h.0 (h.1 ks w.obeys) e)) d))

pub best-of-all : BestOfAll
best-of-all ws k o t = go (best (sheet_in ws)) (best-is (sheet_in ws)) (called ws k o (t.1, t.2, t.3, t.4))
  where
    s : Sheet
    s = sheet_in ws

    sd : Sound s
    sd = sound ws t.1

    go : (r : Option (List ℕ)) → IsBest s (Obeys s) r → Called ws k o r →
        (make_fault ws k o ≡ 10 → NoneLawful s) × (NoneLawful s → make_fault ws k o ≡ 10) ×
        (eqb (make_fault ws k o) 10 ≡ false → (make_fault ws k o ≡ 0) × (is_lawful s (begun ws k o) ≡ true) × BeatsAll s (begun ws k o))
    go none h c = (
      (λ e b a. is_false (is_lawful s b) λ f. h (layout_ties b) (lawful-obeys s b f).obeys),
      (λ f. c.fault),
      (λ e. clash (eq-eqb (make_fault ws k o) 10 c.fault) e),
    )
    go (some js) h c = (
      (λ e. absurd (omega (arith, c.fault))),
      (λ f. clash (obeys-lawful s sd js h.0) (f (answer_of s js) (answer-words s sd js h.0))),
      (λ e. (c.fault, rw g (obeys-lawful s sd js h.0), λ b a l d. rw g (beats s sd js h b l (rw g at d)))),
    )
      where
        g : begun ws k o ≡ answer_of s js
        g = begun-is ws k o js c h.0
