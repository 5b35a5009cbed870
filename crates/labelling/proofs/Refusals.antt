-- Each operation's refusals as a chain after those of the sheet, or of the stored sheet: what is refused by those before is kept.
-- Assumes nothing.
use mathlib.Core.Path.{◌≡◌, refl, ◌∙◌, ap}
use mathlib.Core.Bool.{Bool, true, not, cond}
use mathlib.Core.List.{List, [], ◌∷◌}
use Prim.Native.Nat.{ℕ}
use lib.Dec.{ltb, leb, eqb}
use lib.ListN.{length}
use Rattle.lists.proofs.Tests.{by-test, not-not}
use Rattle.sheet.specs.Refusals.{unless, given, numbered_to}
use Rattle.sheet.specs.Sheet.{sheet_in, sheet_fault, sheet_refusals, work_for}
use Rattle.sheet.proofs.Accepted.{numbered}
use Rattle.sheet.proofs.Refusals.{turned, after}
use Rattle.labelling.specs.Layout.{is_layout, sheet_part, layout_part, judge_refusals, judge_fault, judged, stored_refusals, stored_fault, best, words_for}
use Rattle.labelling.specs.Entry.{is_none, make_fault}
use Rattle.labelling.specs.Tools.{tool_fault}
use Rattle.labelling.specs.Strokes.{strokes_in, stroke_fault}

-- one refusal more
single : (b : Bool) (n : ℕ) → given (unless b n ∷ []) ≡ cond b 0 n
unfolding given
single b n = refl

judge-numbered : (ws : List ℕ) → numbered_to 11 (judge_refusals ws) ≡ true
unfolding numbered_to
judge-numbered ws = refl

stored-numbered : (ws : List ℕ) → numbered_to 13 (stored_refusals ws) ≡ true
unfolding numbered_to
stored-numbered ws = refl

pub judge-chain : (ws : List ℕ) → judge_fault ws ≡ cond (not (eqb (sheet_fault (sheet_part ws)) 0)) (sheet_fault (sheet_part ws)) (cond (is_layout (sheet_in (sheet_part ws)) (layout_part ws)) 0 11)
judge-chain ws =
    after 7 (sheet_refusals (sheet_part ws)) _ (numbered (sheet_part ws)) ∙
    ap (cond (not (eqb (sheet_fault (sheet_part ws)) 0)) (sheet_fault (sheet_part ws))) (single (is_layout (sheet_in (sheet_part ws)) (layout_part ws)) 11)

pub stored-chain : (ws : List ℕ) → stored_fault ws ≡ cond (not (eqb (judge_fault ws) 0)) (judge_fault ws) (cond (eqb (judged ws) 0) 0 13)
stored-chain ws =
    after 11 (judge_refusals ws) _ (judge-numbered ws) ∙ ap (cond (not (eqb (judge_fault ws) 0)) (judge_fault ws)) (single (eqb (judged ws) 0) 13)

pub tool-chain : (ws : List ℕ) (n l : ℕ) → tool_fault ws n l ≡ cond (not (eqb (stored_fault ws) 0)) (stored_fault ws) (cond (leb n l) 0 9)
tool-chain ws n l =
    after 13 (stored_refusals ws) _ (stored-numbered ws) ∙ ap (cond (not (eqb (stored_fault ws) 0)) (stored_fault ws)) (single (leb n l) 9)

pub stroke-chain : (ws : List ℕ) (i : ℕ) → stroke_fault ws i ≡ cond (not (eqb (stored_fault ws) 0)) (stored_fault ws) (cond (ltb i (length (strokes_in ws))) 0 14)
stroke-chain ws i =
    after 13 (stored_refusals ws) _ (stored-numbered ws) ∙ ap (cond (not (eqb (stored_fault ws) 0)) (stored_fault ws)) (single (ltb i (length (strokes_in ws))) 14)

-- the maker's own
makes : (t w n b : Bool) → given (unless (not t) 18 ∷ unless w 8 ∷ unless n 9 ∷ unless (not b) 10 ∷ []) ≡ cond t 18 (cond (not w) 8 (cond (not n) 9 (cond b 10 0)))
unfolding given
makes t w n b =
    by-test t (λ e. rw e) (λ e. rw e (by-test w (λ f. rw f (by-test n (λ g. rw g (by-test b (λ h. rw h) (λ h. rw h))) (λ g. rw g))) (λ f. rw f)))

pub make-chain : (ws k o : List ℕ) → make_fault ws k o ≡
    cond (not (eqb (sheet_fault ws) 0)) (sheet_fault ws)
    (cond (sheet_in ws).is_two_sided 18
    (cond (ltb (length k) (work_for (sheet_in ws))) 8
    (cond (ltb (length o) (words_for (sheet_in ws))) 9 (cond (is_none (best (sheet_in ws))) 10 0))))
make-chain ws k o =
    after 7 (sheet_refusals ws) _ (numbered ws) ∙
    ap (cond (not (eqb (sheet_fault ws) 0)) (sheet_fault ws))
    (makes (sheet_in ws).is_two_sided (leb (work_for (sheet_in ws)) (length k)) (leb (words_for (sheet_in ws)) (length o)) (is_none (best (sheet_in ws))) ∙
    rw (turned (work_for (sheet_in ws)) (length k), turned (words_for (sheet_in ws)) (length o), not-not (ltb (length k) (work_for (sheet_in ws))), not-not (ltb (length o) (words_for (sheet_in ws)))))
