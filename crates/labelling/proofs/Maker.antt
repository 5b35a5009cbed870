-- THE CALL: what it gives and leaves, by its outcome; what a maker has to show to meet make_fault, make_answer and make_work.
-- Assumes nothing.
pub use Rattle.labelling.proofs.Answer.{First, best-some-iff, best-none-iff}
use mathlib.Core.Path.{◌≡◌, refl, ◌∙◌, ap, ap₂, subst}
use mathlib.Core.Bool.{Bool, true, false, ◌||◌, not, cond}
use mathlib.Core.List.{List, ◌++◌}
use mathlib.Core.Option.{Option, none, some}
use Prim.Native.Nat.{ℕ, suc, ◌+◌, ◌≤◌, ◌<◌}
use native.Mathlib.Omega.{arith}
use lib.Dec.{ltb, eqb}
use lib.ListN.{length, take, drop}
use lib.Seq.{take_at}
use borrow.Author.Tests.{lt-ltb, le-ltb, eq-eqb, ne_eqb}
use Rattle.sheet.specs.Sheet.{Sheet, sheet_in, sheet_fault, work_for}
use Rattle.labelling.specs.Layout.{tie_words, best, answer, answer_of, answer_by, words_for}
pub use Rattle.labelling.specs.Entry.{Serves, cleared}
use Rattle.labelling.specs.Entry.{make_fault, make_answer, make_work, is_none}
use Rattle.labelling.specs.Promise.{TakesSheet, begun}
use Rattle.lists.proofs.Tests.{by-test, by_order, by_equal}
use Rattle.labelling.proofs.Refusals.{make-chain}
use Rattle.labelling.proofs.Best.{Obeys, IsBest, best-is}
use Rattle.sheet.proofs.Accepted.{sound, fault-seven}
use Rattle.labelling.proofs.Words.{length-tie_words}
use Rattle.labelling.proofs.Answer.{best-unique, best-empty}

-- THE CALL on a sheet that it takes
stage : (f k w o n : ℕ) (t b : Bool) → f ≡ 0 → w ≤ k → n ≤ o → t ≡ false →
    ◌≡◌ {A = ℕ} (cond (not (eqb f 0)) f (cond t 18 (cond (ltb k w) 8 (cond (ltb o n) 9 (cond b 10 0))))) (cond b 10 0)
stage f k w o n t b p q r s = rw (eq-eqb f 0 p, s, le-ltb k w q, le-ltb o n r)

pub fault-is : (ws k o : List ℕ) → Serves ws k o → make_fault ws k o ≡ cond (is_none (best (sheet_in ws))) 10 0
fault-is ws k o (f, w, n, s) =
    make-chain ws k o ∙ stage (sheet_fault ws) (length k) (work_for (sheet_in ws)) (length o) (words_for (sheet_in ws)) (sheet_in ws).is_two_sided (is_none (best (sheet_in ws))) f w n s

-- what a call does, by what is best
pub record Called (ws k o : List ℕ) (b : Option (List ℕ)) : Type 0 where
  pub fault : make_fault ws k o ≡ cond (is_none b) 10 0
  pub work : make_work ws k o ≡ cleared ws k
  pub answer : make_answer ws k o ≡ cond (is_none b) o (answer_by (sheet_in ws) b ++ drop (words_for (sheet_in ws)) o)

pub called : (ws k o : List ℕ) → Serves ws k o → Called ws k o (best (sheet_in ws))
called ws k o t = go (best (sheet_in ws)) refl (fault-is ws k o t)
  where
    rest : List ℕ
    rest = drop (words_for (sheet_in ws)) o

    go : (b : Option (List ℕ)) → best (sheet_in ws) ≡ b → make_fault ws k o ≡ cond (is_none b) 10 0 → Called ws k o b
    go none e f =
        record {
          fault = f;
          work = ap (λ (n : ℕ). cond (eqb n 0 || eqb n 10) (cleared ws k) k) f;
          answer = ap (λ (n : ℕ). cond (eqb n 0) (answer (sheet_in ws) ++ rest) o) f;
        }
    go (some js) e f =
        record {
          fault = f;
          work = ap (λ (n : ℕ). cond (eqb n 0 || eqb n 10) (cleared ws k) k) f;
          answer = ap₂ (λ (n : ℕ) (b : Option (List ℕ)). cond (eqb n 0) (answer_by (sheet_in ws) b ++ rest) o) f e;
        }

-- on success the answer area begins with the answer
pub length-answer : (s : Sheet) (js : List ℕ) → Obeys s js → length (answer_of s js) ≡ words_for s
length-answer s js j = more (length (tie_words js)) (length s.sites) (length-tie_words js ∙ j.long)
  where
    more : (a b : ℕ) → a ≡ b → suc a ≡ b + 1
    more a b e = omega arith

pub begun-is : (ws k o js : List ℕ) → Called ws k o (some js) → Obeys (sheet_in ws) js → begun ws k o ≡ answer_of (sheet_in ws) js
begun-is ws k o js c j =
    ap (take (words_for (sheet_in ws))) c.answer ∙
    take_at (answer_of (sheet_in ws) js) (drop (words_for (sheet_in ws)) o) (words_for (sheet_in ws)) (length-answer (sheet_in ws) js j)

-- THE CALL, by its outcome
pub record Result (ws k o : List ℕ) (fault : ℕ) (out work : List ℕ) : Type 0 where
  pub fault-is : make_fault ws k o ≡ fault
  pub out-is : make_answer ws k o ≡ out
  pub work-is : make_work ws k o ≡ work

pub made : (ws k o js : List ℕ) → TakesSheet ws k o → First (sheet_in ws) js →
    Result ws k o 0 (answer_of (sheet_in ws) js ++ drop (words_for (sheet_in ws)) o) (cleared ws k)
made ws k o js t f =
    let c : Called ws k o (some js) = subst (Called ws k o) (best-unique (sheet_in ws) (sound ws t.1) js f.obeys f.least) (called ws k o (t.1, t.2, t.3, t.4)) in
    record { fault-is = c.fault; out-is = c.answer; work-is = c.work }

pub unmade : (ws k o : List ℕ) → TakesSheet ws k o → ((ks : List ℕ) → Obeys (sheet_in ws) ks → ⊥) → Result ws k o 10 o (cleared ws k)
unmade ws k o t f =
    let c : Called ws k o none = subst (Called ws k o) (best-empty (sheet_in ws) f) (called ws k o (t.1, t.2, t.3, t.4)) in
    record { fault-is = c.fault; out-is = c.answer; work-is = c.work }

-- a refusal but 10 changes nothing
kept_by : (ws k o : List ℕ) (n : ℕ) → make_fault ws k o ≡ n → 0 < n → (n ≡ 10 → ⊥) → Result ws k o n o k
kept_by ws k o n e l u =
    record {
      fault-is = e;
      out-is = ap (λ (f : ℕ). cond (eqb f 0) (answer (sheet_in ws) ++ drop (words_for (sheet_in ws)) o) o) e ∙
          rw (ne_eqb n 0 (λ q. omega arith));
      work-is = ap (λ (f : ℕ). cond (eqb f 0 || eqb f 10) (cleared ws k) k) e ∙ rw (ne_eqb n 0 (λ q. omega arith), ne_eqb n 10 u);
    }

pub refused-sheet : (ws k o : List ℕ) → 0 < sheet_fault ws → Result ws k o (sheet_fault ws) o k
refused-sheet ws k o l = kept_by ws k o (sheet_fault ws) (make-chain ws k o ∙ first (sheet_fault ws) _ l) l (λ q. omega (arith, fault-seven ws))
  where
    first : (f r : ℕ) → 0 < f → cond (not (eqb f 0)) f r ≡ f
    first f r l = rw (ne_eqb f 0 (λ q. omega arith))

pub refused-side : (ws k o : List ℕ) → sheet_fault ws ≡ 0 → (sheet_in ws).is_two_sided ≡ true → Result ws k o 18 o k
refused-side ws k o e s = kept_by ws k o 18 (make-chain ws k o ∙ second (sheet_fault ws) (sheet_in ws).is_two_sided _ e s) (omega arith) (λ q. omega arith)
  where
    second : (f : ℕ) (t : Bool) (r : ℕ) → f ≡ 0 → t ≡ true → cond (not (eqb f 0)) f (cond t 18 r) ≡ 18
    second f t r e s = rw (eq-eqb f 0 e, s)

pub refused-work : (ws k o : List ℕ) → sheet_fault ws ≡ 0 → (sheet_in ws).is_two_sided ≡ false → length k < work_for (sheet_in ws) → Result ws k o 8 o k
refused-work ws k o e s l =
    kept_by ws k o 8 (make-chain ws k o ∙ third (sheet_fault ws) (sheet_in ws).is_two_sided (length k) (work_for (sheet_in ws)) _ e s l) (omega arith) (λ q. omega arith)
  where
    third : (f : ℕ) (t : Bool) (a b r : ℕ) → f ≡ 0 → t ≡ false → a < b → cond (not (eqb f 0)) f (cond t 18 (cond (ltb a b) 8 r)) ≡ 8
    third f t a b r e s l = rw (eq-eqb f 0 e, s, lt-ltb a b l)

pub refused-out : (ws k o : List ℕ) → sheet_fault ws ≡ 0 → (sheet_in ws).is_two_sided ≡ false → work_for (sheet_in ws) ≤ length k →
    length o < words_for (sheet_in ws) → Result ws k o 9 o k
refused-out ws k o e s w l =
    kept_by ws k o 9 (make-chain ws k o ∙ fourth (sheet_fault ws) (sheet_in ws).is_two_sided (length k) (work_for (sheet_in ws)) (length o) (words_for (sheet_in ws)) _ e s w l)
    (omega arith) (λ q. omega arith)
  where
    fourth : (f : ℕ) (t : Bool) (a b c d r : ℕ) → f ≡ 0 → t ≡ false → b ≤ a → c < d →
        cond (not (eqb f 0)) f (cond t 18 (cond (ltb a b) 8 (cond (ltb c d) 9 r))) ≡ 9
    fourth f t a b c d r e s w l = rw (eq-eqb f 0 e, s, le-ltb a b w, lt-ltb c d l)

-- EVERY CALL comes out in one of three ways
pub data Outcome (ws k o : List ℕ) : Type 0 where
  refused : (n : ℕ) → 0 < n → (n ≡ 10 → ⊥) → Result ws k o n o k → Outcome ws k o
  none-lawful : Serves ws k o → best (sheet_in ws) ≡ none → Result ws k o 10 o (cleared ws k) → Outcome ws k o
  laid_out : (js : List ℕ) → Serves ws k o → best (sheet_in ws) ≡ some js → Obeys (sheet_in ws) js →
      Result ws k o 0 (answer_of (sheet_in ws) js ++ drop (words_for (sheet_in ws)) o) (cleared ws k) → Outcome ws k o

pub outcome : (ws k o : List ℕ) → Outcome ws k o
outcome ws k o =
    by_equal (sheet_fault ws) 0
    (λ f. by-test (sheet_in ws).is_two_sided
    (λ s. Outcome.refused 18 (omega arith) (λ q. omega arith) (refused-side ws k o f s))
    (λ s. by_order (work_for (sheet_in ws)) (length k)
    (λ w. by_order (words_for (sheet_in ws)) (length o)
    (λ n. go (f, w, n, s) (best (sheet_in ws)) refl (best-is (sheet_in ws)) (called ws k o (f, w, n, s)))
    (λ n. Outcome.refused 9 (omega arith) (λ q. omega arith) (refused-out ws k o f s w n)))
    (λ w. Outcome.refused 8 (omega arith) (λ q. omega arith) (refused-work ws k o f s w))))
    (λ f. Outcome.refused (sheet_fault ws) (omega arith) (λ q. omega (arith, fault-seven ws)) (refused-sheet ws k o (omega arith)))
  where
    go : Serves ws k o → (b : Option (List ℕ)) → best (sheet_in ws) ≡ b → IsBest (sheet_in ws) (Obeys (sheet_in ws)) b → Called ws k o b → Outcome ws k o
    go v none e h c = Outcome.none-lawful v e (record { fault-is = c.fault; out-is = c.answer; work-is = c.work })
    go v (some js) e h c = Outcome.laid_out js v e h.0 (record { fault-is = c.fault; out-is = c.answer; work-is = c.work })
