-- Writing the answer word by word: the walk names each site once, so what the area held has no part in the result.
use mathlib.Core.Path.{◌≡◌, refl, sym, ap, ◌∙◌, subst⁻¹}
use mathlib.Core.Bool.{true, false}
use mathlib.Core.List.{List, [], ◌∷◌, ◌++◌}
use Prim.Native.Nat.{ℕ, zero, suc, ◌+◌, ◌≤◌, ◌<◌}
use native.Mathlib.Omega.{arith}
use lib.Seq.{ext_get_or}
use lib.ListN.{length, get_or, set, replicate, length-set, length-replicate, take, drop, take-append-drop, length-take}
use borrow.Author.Tests.{ne_eqb}
use Rattle.lists.proofs.Tests.{by_equal, clash}
use Rattle.sheet.specs.Sheet.{Sheet, sheet_in}
use Rattle.sheet.proofs.Accepted.{Sound, sound, sites-coloured}
use Rattle.labelling.specs.Promise.{TakesSheet}
use Rattle.labelling.proofs.Maker.{Result, cleared}
use Rattle.labelling.specs.Layout.{is_used, tie_word, tie_words, first_word, layout_words}
use Rattle.labelling.proofs.Members.{used-head, used-tail}
use Rattle.labelling.proofs.Words.{length-tie_words}
use Rattle.optimum.specs.OneSided.{write_ties, top_word, order, scatter}
use Rattle.optimum.proofs.StripsHeld.{set_same, set_other}
use Rattle.optimum.proofs.optimality.OneSidedAnswer.{count_in, length_in, first_cell, slots_walked, walk-long, call-made}
use Rattle.optimum.proofs.optimality.Order.{ordered}
use Rattle.optimum.proofs.optimality.OneSidedBest.{put_back}

-- what the list held at the places that are named has no part in the result
scatter-any : (is ks o p : List ℕ) → length ks ≡ length is → length o ≡ length p → ((i : ℕ) → i < length o → is_used i is ≡ false → get_or o i 0 ≡ get_or p i 0) → scatter o is ks ≡ scatter p is ks
unfolding scatter is_used
scatter-any [] ks o p lk l h = ext_get_or 0 o p l (λ i u. h i u refl)
scatter-any (i ∷ is) [] o p lk l h = absurd (omega arith)
scatter-any (i ∷ is) (k ∷ ks) o p lk l h =
    scatter-any is ks (set o i k) (set p i k) (omega arith) (length-set o i k ∙ l ∙ sym (length-set p i k)) (λ j u f.
    let lo : j < length o = rw (length-set o i k) at u in
    by_equal j i
    (λ e. rw e (set_same o i k (omega arith) ∙ sym (set_same p i k (omega arith))))
    (λ n. set_other o i k j n ∙ h j lo (rw (ne_eqb i j (λ (e : i ≡ j). n (sym e))) f) ∙ sym (set_other p i k j n)))

set-append : (l r : List ℕ) (i k : ℕ) → i < length l → set (l ++ r) i k ≡ set l i k ++ r
set-append [] r i k h = absurd (omega arith)
set-append (x ∷ l) r zero k h = refl
set-append (x ∷ l) r (suc i) k h = ap (λ (z : List ℕ). x ∷ z) (set-append l r i k (omega arith))

tie-set : (b : List ℕ) (i k : ℕ) → set (tie_words b) i (tie_word k) ≡ tie_words (set b i k)
unfolding tie_words
tie-set [] i k = refl
tie-set (x ∷ b) zero k = refl
tie-set (x ∷ b) (suc i) k = ap (λ (z : List ℕ). tie_word x ∷ z) (tie-set b i k)

unfoldable words : List ℕ → List ℕ
words [] = []
words (k ∷ ks) = tie_word k ∷ words ks

words_long : (ks : List ℕ) → length (words ks) ≡ length ks
unfolding words
words_long [] = refl
words_long (k ∷ ks) = ap suc (words_long ks)

-- writing, by scattering the words over what follows the first
write-scatter : (is ks : List ℕ) (w : ℕ) (l r : List ℕ) → ((i : ℕ) → is_used i is ≡ true → i < length l) → write_ties (w ∷ l ++ r) is ks ≡ w ∷ scatter l is (words ks) ++ r
unfolding write_ties scatter words
write-scatter [] ks w l r h = refl
write-scatter (i ∷ is) [] w l r h = refl
write-scatter (i ∷ is) (k ∷ ks) w l r h =
    ap (λ (z : List ℕ). write_ties (w ∷ z) is ks) (set-append l r i (tie_word k) (h i (used-head i is)))
    ∙ write-scatter is ks w (set l i (tie_word k)) r (λ j u. rw (length-set l i (tie_word k)) (h j (used-tail j i is u)))

scatter-words : (is ks b : List ℕ) → scatter (tie_words b) is (words ks) ≡ tie_words (scatter b is ks)
unfolding scatter words
scatter-words [] ks b = refl
scatter-words (i ∷ is) [] b = refl
scatter-words (i ∷ is) (k ∷ ks) b = ap (λ (z : List ℕ). scatter z is (words ks)) (tie-set b i k) ∙ scatter-words is ks (set b i k)

-- THE ANSWER AREA: the first word, then the ties in the order of the walk, whatever the area held
pub write-all : (s : Sheet) → Sound s → (ks : List ℕ) → length ks ≡ length s.sites → (c l : ℕ) (out : List ℕ) → length s.sites + 1 ≤ length out
    → write_ties (set out 0 (first_word c l)) (order s) ks ≡ layout_words c l (put_back s ks) ++ drop (length s.sites + 1) out
write-all s o ks lk c l [] h = absurd (omega arith)
write-all s o ks lk c l (w ∷ out) h =
    ap (λ (z : List ℕ). write_ties (head ∷ z) (order s) ks) (sym (take-append-drop n out))
    ∙ write-scatter (order s) ks head (take n out) (drop n out) (λ i u. omega (arith, ((ordered s o).low i u).0, taken))
    ∙ ap (λ (z : List ℕ). head ∷ z ++ drop n out) body
    ∙ ap (λ (z : ℕ). head ∷ tie_words (put_back s ks) ++ drop z (w ∷ out)) later
  where
    n : ℕ
    n = length s.sites

    head : ℕ
    head = first_word c l

    later : suc n ≡ length s.sites + 1
    later = omega arith

    taken : length (take n out) ≡ n
    taken = length-take n out ∙ omega arith

    body : scatter (take n out) (order s) (words ks) ≡ tie_words (put_back s ks)
    body =
        scatter-any (order s) (words ks) (take n out) (tie_words (replicate n 0)) (words_long ks ∙ lk ∙ sym (ordered s o).long)
        (taken ∙ sym (length-tie_words (replicate n 0) ∙ length-replicate n 0))
        (λ i u f. clash ((ordered s o).whole i (omega (arith, taken)) (omega arith)) f)
        ∙ scatter-words (order s) ks (replicate n 0)

-- ---- THE CALL on a one-sided sheet, as the code makes it: the first word from the first cell, then a tie for each site by rising x
pub call-written : (ws k out : List ℕ) (t : TakesSheet ws k out) → first_cell (sheet_in ws) < top_word →
    Result ws k out 0
    (write_ties (set out 0 (first_word (count_in (sheet_in ws) (first_cell (sheet_in ws))) (length_in (sheet_in ws) (first_cell (sheet_in ws)))))
    (order (sheet_in ws)) (slots_walked (sheet_in ws))) (cleared ws k)
call-written ws k out t h =
    let s = sheet_in ws in
    let o = sound ws t.1 in
    subst⁻¹ (λ (a : List ℕ). Result ws k out 0 a (cleared ws k))
    (write-all s o (slots_walked s) (walk-long s o t.4 (sites-coloured ws t.1) h) (count_in s (first_cell s)) (length_in s (first_cell s)) out t.3)
    (call-made ws k out t h)
