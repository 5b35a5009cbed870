-- The three demands, ends in themselves, proved from the promises about the definitions; and of one call, for the contracts of crate cabi.
-- Assumes nothing.
use mathlib.Core.Path.{◌≡◌, refl, sym, ap, subst⁻¹, ◌∙◌}
use mathlib.Core.Logic.{◌⊎◌, inl, inr, ◌↔◌}
use mathlib.Core.Bool.{Bool, true, false, ◌&&◌, not, cond}
use mathlib.Core.List.{List}
use mathlib.Core.Option.{Option, none, some}
use Prim.Native.Nat.{ℕ, ◌≤◌, ◌<◌}
use native.Mathlib.Omega.{arith}
use lib.Dec.{eqb}
use lib.ListN.{length, drop}
use lib.Seq.{drop_at}
use borrow.Author.Tests.{ne_eqb, eq-eqb}
use Rattle.sheet.specs.Sheet.{all, Sheet, sheet_in, sheet_fault}
use Rattle.labelling.specs.Layout.{tied, colours_kept, bounds_kept, gaps_kept, misses_all, clears_all, count_of, length_of, stated_count, stated_length, layout_ties, broken_by, is_better, words_for, best, answer_of, sheet_part, layout_part, judge_fault, judged}
use Rattle.labelling.specs.Lawful.{Ties, Rules, Better}
use Rattle.labelling.specs.Entry.{is_none, Serves, cleared, make_fault, make_answer}
use Rattle.lists.proofs.Tests.{is_true}
use Rattle.sheet.proofs.Accepted.{Sound, sound, fault-seven}
use Rattle.labelling.proofs.Best.{Obeys, IsBest, best-is, best_none}
use Rattle.labelling.proofs.Answer.{obeys-same, best-empty, answer-none}
use Rattle.labelling.proofs.Earlier.{better-e}
use Rattle.labelling.proofs.Words.{Written, lawful-obeys, obeys-lawful, answer-ties}
use Rattle.labelling.proofs.Maker.{Called, called, begun-is, Result, Outcome, outcome, fault-is, length-answer, refused-sheet, refused-side, refused-work, refused-out}
use Rattle.labelling.proofs.Kept.{areas-kept, best-of-all, judged-so}
use Rattle.reader.specs.declared.Sizes.{Sizes}
use Rattle.reader.proofs.Reading.{reading, refusal_is}
use Rattle.judge.specs.declared.Verdict.{Verdict}
use Rattle.demands.specs.Demands.{WasRead, WasMade, WasJudged, layout_in, LawfulLayout, ServedByReader, Served, ContentsApart, ServedByJudge, DemandOne, DemandTwo, DemandThree, DemandThreeByTests}
use Rattle.demands.proofs.Layouts.{layout_of, of-layout, no-layout, lawful-of, of-lawful}

-- DEMAND 1, THE READER
pub served-by-reader : (ws : List ℕ) (r : Sizes) (ws' : List ℕ) → WasRead ws r ws' → ServedByReader ws r ws'
served-by-reader ws r ws' (e, u) =
    let f : r.refusal ≡ sheet_fault ws = refusal_is ws r e in
    record {
      refusal = f;
      seven = omega (arith, fault-seven ws);
      zeros = λ l. let n : (sheet_fault ws ≡ 0 → ⊥) = λ z. omega arith in rw (ne_eqb (sheet_fault ws) 0 n) at e;
      sized = λ z.
          let q = reading ws r e z in
          record { sites = q.sites; slots = q.slots; colours = q.colours; product = q.product; work = q.work; eight = q.eight };
      unchanged = u;
    }

-- DEMAND 1, THE MAKER
-- the contract's equations with an outcome's
served-by : (ws k o : List ℕ) (r : ℕ) (k' o' : List ℕ) (f : ℕ) (out work : List ℕ) → WasMade ws k o r k' o' → Result ws k o f out work → (r ≡ f) × (k' ≡ work) × (o' ≡ out)
served-by ws k o r k' o' f out work (a, b, c) q = (a ∙ q.fault-is, b ∙ q.work-is, c ∙ q.out-is)

-- a call that serves gives a layout or 10
taken-so : (ws k o : List ℕ) (r : ℕ) (k' o' : List ℕ) → WasMade ws k o r k' o' → Serves ws k o →
    (k' ≡ cleared ws k) × (((r ≡ 10) × (o' ≡ o)) ⊎ ((r ≡ 0) × (drop (words_for (sheet_in ws)) o' ≡ drop (words_for (sheet_in ws)) o)))
taken-so ws k o r k' o' m v = go (outcome ws k o)
  where
    never : (b : Bool) (n : ℕ) → 0 < n → (n ≡ 10 → ⊥) → n ≡ cond b 10 0 → ⊥
    never true n l u e = u e
    never false n l u e = omega arith

    go : Outcome ws k o → (k' ≡ cleared ws k) × (((r ≡ 10) × (o' ≡ o)) ⊎ ((r ≡ 0) × (drop (words_for (sheet_in ws)) o' ≡ drop (words_for (sheet_in ws)) o)))
    go (Outcome.refused n l u q) = absurd (never (is_none (best (sheet_in ws))) n l u (sym q.fault-is ∙ fault-is ws k o v))
    go (Outcome.none-lawful w e q) = let a = served-by ws k o r k' o' _ _ _ m q in (a.1, inl (a.0, a.2))
    go (Outcome.laid_out js w e ob q) =
        let a = served-by ws k o r k' o' _ _ _ m q in
        (a.1, inr (a.0, ap (drop (words_for (sheet_in ws))) a.2 ∙ drop_at (answer_of (sheet_in ws) js) (drop (words_for (sheet_in ws)) o) (words_for (sheet_in ws)) (length-answer (sheet_in ws) js ob)))

pub served : (ws k o : List ℕ) (r : ℕ) (k' o' : List ℕ) → WasMade ws k o r k' o' → Served ws k o r k' o'
served ws k o r k' o' m = record {
  sheet = λ h. served-by ws k o r k' o' _ _ _ m (refused-sheet ws k o h);
  side = λ f h. served-by ws k o r k' o' _ _ _ m (refused-side ws k o f h);
  short = λ f s h. served-by ws k o r k' o' _ _ _ m (refused-work ws k o f s h);
  narrow = λ f s w h. served-by ws k o r k' o' _ _ _ m (refused-out ws k o f s w h);
  taken = λ v. taken-so ws k o r k' o' m v;
  lengths = (ap length m.1 ∙ (areas-kept.1 ws k o).3, ap length m.2 ∙ (areas-kept.1 ws k o).2);
}

-- the layout that a call on an accepted sheet leaves, by what is best
laid : (ws k o : List ℕ) (o' js : List ℕ) → o' ≡ make_answer ws k o → Called ws k o (some js) → Obeys (sheet_in ws) js → layout_in ws o' ≡ answer_of (sheet_in ws) js
laid ws k o o' js e c j = ap (layout_in ws) e ∙ begun-is ws k o js c j

pub contents-apart : (ws k o : List ℕ) (r : ℕ) (k' o' : List ℕ) → WasMade ws k o r k' o' → ContentsApart ws k o r o'
contents-apart ws k o r k' o' m v l p q l' p' n u = go (best (sheet_in ws)) (best-is (sheet_in ws)) (called ws k o v) (called ws l p u)
  where
    go : (b : Option (List ℕ)) → IsBest (sheet_in ws) (Obeys (sheet_in ws)) b → Called ws k o b → Called ws l p b → (r ≡ q) × (r ≡ 0 → layout_in ws o' ≡ layout_in ws p')
    go none h c d = (m.0 ∙ c.fault ∙ sym d.fault ∙ sym n.0, λ z. absurd (omega (arith, m.0, c.fault)))
    go (some js) h c d = (m.0 ∙ c.fault ∙ sym d.fault ∙ sym n.0, λ z. laid ws k o o' js m.2 c h.0 ∙ sym (laid ws l p p' js n.2 d h.0))

-- DEMAND 1, THE JUDGE
-- there are six rules
six-rules : (p q r t u x : Bool) →
    ◌≤◌ (cond (not (eqb (cond (not p) 1 (cond (not q) 2 (cond (not r) 3 (cond (not t) 4 (cond (not u) 5 0))))) 0))
    (cond (not p) 1 (cond (not q) 2 (cond (not r) 3 (cond (not t) 4 (cond (not u) 5 0))))) (cond x 0 6)) 6
six-rules false q r t u x = omega arith
six-rules true false r t u x = omega arith
six-rules true true false t u x = omega arith
six-rules true true true false u x = omega arith
six-rules true true true true false x = omega arith
six-rules true true true true true false = omega arith
six-rules true true true true true true = omega arith

rule-six : (s : Sheet) (b : List ℕ) → broken_by s b ≤ 6
rule-six s b =
    let js : List ℕ = layout_ties b in
    six-rules (colours_kept (tied s js)) (bounds_kept s js 0 s.colours) (gaps_kept s (tied s js)) (all (misses_all s js) (tied s js)) (all (clears_all s js) (tied s js))
    (eqb (stated_count b) (count_of s js) && eqb (stated_length b) (length_of s js))

module _ (ws : List ℕ) (r : Verdict) (e : WasJudged ws r ws) where
  refusal-so : r.refusal ≡ judge_fault ws
  refusal-so = ap (λ (v : Verdict). v.refusal) e.0

  rule-so : r.rule ≡ cond (eqb (judge_fault ws) 0) (judged ws) 0
  rule-so = ap (λ (v : Verdict). v.rule) e.0

  rule-none : (judge_fault ws ≡ 0 → ⊥) → r.rule ≡ 0
  rule-none n = rule-so ∙ ap (λ (b : Bool). cond b (judged ws) 0) (ne_eqb (judge_fault ws) 0 n)

  rule-judged : judge_fault ws ≡ 0 → r.rule ≡ judged ws
  rule-judged h = rule-so ∙ ap (λ (b : Bool). cond b (judged ws) 0) (eq-eqb (judge_fault ws) 0 h)

pub served-by-judge : (ws : List ℕ) (r : Verdict) (ws' : List ℕ) → WasJudged ws r ws' → ServedByJudge ws r ws'
served-by-judge ws r ws' (e, u) =
    let j = judged-so.1 ws in
    let f : r.refusal ≡ judge_fault ws = refusal-so ws r (e, refl) in
    record {
      sheet = λ l.
          let g : judge_fault ws ≡ sheet_fault (sheet_part ws) = (j.1 (sheet_fault (sheet_part ws)) l (omega (arith, fault-seven (sheet_part ws)))).1 refl in
          (f ∙ g, omega (arith, g, f, fault-seven (sheet_part ws)), rule-none ws r (e, refl) λ z. omega arith);
      form = λ z n.
          let g : judge_fault ws ≡ 11 = j.2.1 (z, (no-layout _ _).1 n) in (f ∙ g, rule-none ws r (e, refl) λ y. omega arith);
      judged = λ z l.
          let g : judge_fault ws ≡ 0 = j.3.1 (z, of-layout _ _ l) in
          (f ∙ g, omega (arith, rule-judged ws r (e, refl) g, rule-six (sheet_in (sheet_part ws)) (layout_part ws)));
      unchanged = u;
    }

pub demand-one : DemandOne
demand-one = record { reader = served-by-reader; maker = served; contents = contents-apart; judge = served-by-judge }

-- DEMAND 2
pub demand-two : DemandTwo
demand-two ws r ws' (e, u) =
    let j = judged-so.1 ws in
    let f : r.refusal ≡ judge_fault ws = refusal-so ws r (e, refl) in
    record {
      parts = j.0;
      sheet = λ n l h. rw f (j.1 n l h);
      form = rw f ((λ h. let q = j.2.0 h in (q.0, (no-layout _ _).0 q.1)), λ q. j.2.1 (q.0, (no-layout _ _).1 q.1));
      accepted = rw f ((λ h. let q = j.3.0 h in (q.0, layout_of _ _ q.1)), λ q. j.3.1 (q.0, of-layout _ _ q.1));
      rule = λ z k l. let h : judge_fault ws ≡ 0 = sym f ∙ z in rw (rule-judged ws r (e, refl) h) ((j.5 h).0 k l);
      lawful = λ z. let h : judge_fault ws ≡ 0 = sym f ∙ z in rw (rule-judged ws r (e, refl) h) (j.5 h).1;
    }

-- DEMAND 3
-- the words of the best ties are better than any other lawful layout
better-so : (s : Sheet) → Sound s → (js : List ℕ) → IsBest s (Obeys s) (some js) → (b : List ℕ) → LawfulLayout s b → (b ≡ answer_of s js → ⊥) →
    Better s (layout_ties (answer_of s js)) (layout_ties b)
better-so s o js h b l n =
    let w : Written s b = lawful-obeys s b (of-lawful s b l) in
    let ks : List ℕ = layout_ties b in
    subst⁻¹ (λ (v : List ℕ). Better s v ks) (answer-ties s o js h.0)
    (better-e s o js ks h.0.long w.obeys.long
    (is_true (is_better s js ks) λ e. n (w.written ∙ ap (answer_of s) (obeys-same s o ks js w.obeys h.0 (h.1 ks w.obeys) e))))

-- an accepted sheet, by what is best
abbrev Concluded : (ws : List ℕ) → (r : ℕ) → (o' : List ℕ) → Type 0
Concluded ws r o' =
    ((r ≡ 10) ↔ ((js : List ℕ) → Ties (sheet_in ws) js → Rules (sheet_in ws) js → ⊥)) ×
    ((r ≡ 10) ↔ ((b : List ℕ) → LawfulLayout (sheet_in ws) b → ⊥)) ×
    ((r ≡ 10 → ⊥) →
    (r ≡ 0) × LawfulLayout (sheet_in ws) (layout_in ws o') ×
    ((b : List ℕ) → LawfulLayout (sheet_in ws) b → (b ≡ layout_in ws o' → ⊥) → Better (sheet_in ws) (layout_ties (layout_in ws o')) (layout_ties b)))

best-so : (ws k o : List ℕ) (r : ℕ) (k' o' : List ℕ) → WasMade ws k o r k' o' → Serves ws k o → Concluded ws r o'
best-so ws k o r k' o' m v = go (best (sheet_in ws)) (best-is (sheet_in ws)) (called ws k o v)
  where
    s : Sheet
    s = sheet_in ws

    sd : Sound s
    sd = sound ws v.0

    go : (b : Option (List ℕ)) → IsBest s (Obeys s) b → Called ws k o b → Concluded ws r o'
    go none h c = (
      ((λ e. (answer-none s).0 (best-empty s h)), λ n. m.0 ∙ c.fault),
      ((λ e b l. h (layout_ties b) (lawful-obeys s b (of-lawful s b l)).obeys), λ n. m.0 ∙ c.fault),
      λ n. absurd (n (m.0 ∙ c.fault)),
    )
    go (some js) h c =
        let g : layout_in ws o' ≡ answer_of s js = laid ws k o o' js m.2 c h.0 in
        let l : LawfulLayout s (answer_of s js) = lawful-of s (answer_of s js) (obeys-lawful s sd js h.0) in (
          ((λ e. absurd (omega (arith, m.0, c.fault))), λ n. absurd (best_none s ((answer-none s).1 n) js h.0)),
          ((λ e. absurd (omega (arith, m.0, c.fault))), λ n. absurd (n (answer_of s js) l)),
          λ n. (
            m.0 ∙ c.fault,
            subst⁻¹ (LawfulLayout s) g l,
            λ b q d. subst⁻¹ (λ (x : List ℕ). Better s (layout_ties x) (layout_ties b)) g (better-so s sd js h b q λ e. d (e ∙ sym g)),
          ),
        )

pub demand-three : DemandThree
demand-three ws k o r k' o' m =
    record {
      none = λ v. (best-so ws k o r k' o' m v).0;
      ten = λ v. (best-so ws k o r k' o' m v).1;
      zero = λ v n. ((best-so ws k o r k' o' m v).2 n).0;
      lawful = λ v n. ((best-so ws k o r k' o' m v).2 n).1;
      best = λ v n. ((best-so ws k o r k' o' m v).2 n).2;
    }

pub demand-three-by-tests : DemandThreeByTests
demand-three-by-tests ws k o r k' o' m a v =
    let b = best-of-all ws k o (a, v.0, v.1, v.2, v.3) in (
      (λ e. b.0 (sym m.0 ∙ e), λ h. m.0 ∙ b.1 h),
      λ h.
          let t = b.2 (ne_eqb (make_fault ws k o) 10 (λ (e : make_fault ws k o ≡ 10). h (m.0 ∙ e))) in
          let s : layout_in ws o' ≡ layout_in ws (make_answer ws k o) = ap (layout_in ws) m.2 in
          (m.0 ∙ t.0, rw s t.1, rw s t.2),
    )
