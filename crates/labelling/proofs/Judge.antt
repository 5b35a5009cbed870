-- THE JUDGE: what it gives on every list of words. Assumes nothing.
use mathlib.Core.Path.{◌≡◌, refl, ◌∙◌, ap, ap₂, subst⁻¹}
use mathlib.Core.Logic.{◌⊎◌, inl, inr, ◌↔◌}
use mathlib.Core.Bool.{Bool, true, false, not, true≢false, false≢true, cond}
use mathlib.Core.List.{List, [], ◌∷◌, ◌++◌}
use Prim.Native.Nat.{ℕ, ◌≤◌, ◌<◌}
use native.Mathlib.Omega.{arith}
use lib.Dec.{ltb, eqb}
use lib.ListN.{length, get_or, drop}
use lib.Seq.{drop-append_seam}
use borrow.Author.Tests.{eqb-true, eq-eqb, ne_eqb}
use Rattle.sheet.specs.Sheet.{all, kind_of, in_order, is_charge, body_of, sheet_in, sheet_fault}
use Rattle.labelling.specs.Layout.{is_layout, broken_by, sheet_part, layout_part}
use Rattle.labelling.specs.Promise.{JudgedSo, is_eight, EveryListJudged, LayoutJudged}
use Rattle.lists.proofs.Tests.{by-test, by_equal, and_l, and_r, and_i}
use Rattle.sheet.proofs.Charge.{charge-kind}
use Rattle.sheet.proofs.Accepted.{Unrefused, unrefused, Step, step, fault-seven}
use Rattle.labelling.proofs.Refusals.{judge-chain}
use Rattle.labelling.proofs.Words.{Formed, formed}
use Rattle.labelling.proofs.Verdict.{broken-least, broken-lawful}

-- the sheet part of an accepted sheet before a layout
no-eight : (z : ℕ) (ws bs : List ℕ) → in_order z ws ≡ true → kind_of (get_or bs 0 0) ≡ 8 → 0 < length bs → sheet_part (ws ++ bs) ≡ ws
unfolding sheet_part
no-eight z [] [] h k l = refl
no-eight z [] (b ∷ bs) h k l = rw (eq-eqb (kind_of b) 8 k)
no-eight z (w ∷ ws) bs h k l = go (step z w ws h).1 (λ y i. no-eight y ws bs i k l)
  where
    go : Step z w ws → ((y : ℕ) → in_order y ws ≡ true → sheet_part (ws ++ bs) ≡ ws) → cond (eqb (kind_of w) 8) [] (w ∷ sheet_part (ws ++ bs)) ≡ w ∷ ws
    go (Step.slot e q i) ih = rw (ne_eqb (kind_of w) 8 (λ q. omega arith), ih 0 i)
    go (Step.colour e i) ih = rw (ne_eqb (kind_of w) 8 (λ q. omega arith), ih 1 i)
    go (Step.site e q i) ih = rw (ne_eqb (kind_of w) 8 (λ q. omega arith), ih 1 i)

-- the words after the head: a charge is not of kind 8 either
after-head : (w : ℕ) (ws b : List ℕ) → in_order 0 (body_of (w ∷ ws)) ≡ true → kind_of (get_or b 0 0) ≡ 8 → 0 < length b → sheet_part (ws ++ b) ≡ ws
unfolding sheet_part
after-head w [] b h k l = no-eight 0 [] b (unfold in_order in refl) k l
after-head w (v ∷ ws) b h k l =
    by-test (is_charge v)
    (λ e. rw (ne_eqb (kind_of v) 8 (λ q. omega (arith, charge-kind v e)), no-eight 0 ws b (rw e at h) k l))
    λ e. no-eight 0 (v ∷ ws) b (rw e at h) k l

-- an accepted sheet before a layout is the sheet part
pub sheet-part : (ws b : List ℕ) → sheet_fault ws ≡ 0 → is_layout (sheet_in ws) b ≡ true → sheet_part (ws ++ b) ≡ ws
unfolding sheet_part
sheet-part [] b h l = absurd (false≢true (unrefused [] h).head)
sheet-part (w ∷ ws) b h l =
    let u : Unrefused (w ∷ ws) = unrefused (w ∷ ws) h in
    let f : Formed (sheet_in (w ∷ ws)) b = formed (sheet_in (w ∷ ws)) b l in
    let k : kind_of w ≡ 1 = eqb-true (kind_of w) 1 (and_r (ltb 0 (length (w ∷ ws))) _ (and_l _ _ (and_l _ _ u.head))) in
    rw (ne_eqb (kind_of w) 8 (λ q. omega arith), after-head w ws b u.order f.kind (omega (arith, f.long)))

layout-judged : LayoutJudged
layout-judged ws b aw ab h l =
    let e : sheet_part (ws ++ b) ≡ ws = sheet-part ws b h l in
    let d : layout_part (ws ++ b) ≡ b = ap (λ (v : List ℕ). drop (length v) (ws ++ b)) e ∙ drop-append_seam ws b in (
      judge-chain (ws ++ b) ∙ ap₂ (λ (v c : List ℕ). cond (not (eqb (sheet_fault v) 0)) (sheet_fault v) (cond (is_layout (sheet_in v) c) 0 11)) e d ∙
          fine (sheet_fault ws) (is_layout (sheet_in ws) b) h l,
      ap₂ (λ (v c : List ℕ). broken_by (sheet_in v) c) e d,
    )
  where
    fine : (f : ℕ) (t : Bool) → f ≡ 0 → t ≡ true → ◌≡◌ {A = ℕ} (cond (not (eqb f 0)) f (cond t 0 11)) 0
    fine f t p q = rw (eq-eqb f 0 p, q)

-- the parts of every list
all-before : (ws : List ℕ) → all (λ w. not (is_eight w)) (sheet_part ws) ≡ true
unfolding sheet_part all
all-before [] = refl
all-before (w ∷ ws) = by-test (eqb (kind_of w) 8) (λ e. rw e) λ e. let n : not (eqb (kind_of w) 8) ≡ true = rw e in rw e (and_i n (all-before ws))

parts : (ws : List ℕ) → sheet_part ws ++ layout_part ws ≡ ws
unfolding sheet_part
parts [] = refl
parts (w ∷ ws) = by-test (eqb (kind_of w) 8) (λ e. rw e) λ e. rw e (ap (λ (v : List ℕ). w ∷ v) (parts ws))

begins : (ws : List ℕ) → (layout_part ws ≡ []) ⊎ (is_eight (get_or (layout_part ws) 0 0) ≡ true)
unfolding sheet_part
begins [] = inl refl
begins (w ∷ ws) = by-test (eqb (kind_of w) 8) (λ e. rw e (inr e)) λ e. rw e (begins ws)

-- what is refused, by the refusal of the sheet part and whether a layout follows
abbrev Refusal : (sheet : ℕ) → (follows : Bool) → (judge : ℕ) → Type 0
Refusal f t v =
    ((g : ℕ) → 0 < g → g < 8 → (v ≡ g) ↔ (f ≡ g)) × ((v ≡ 11) ↔ ((f ≡ 0) × (t ≡ false))) × ((v ≡ 0) ↔ ((f ≡ 0) × (t ≡ true))) × ((v < 8) ⊎ (v ≡ 11))

refusal : (f : ℕ) (t : Bool) → f ≤ 7 → Refusal f t (cond (not (eqb f 0)) f (cond t 0 11))
refusal f t h = by_equal f 0 (λ e. rw (eq-eqb f 0 e) (none t e)) λ e. rw (ne_eqb f 0 e) (
  (λ g l u. ((λ q. q), λ q. q)),
  ((λ q. absurd (omega arith)), λ (p, q). absurd (e p)),
  ((λ q. absurd (e q)), λ (p, q). absurd (e p)),
  inl (omega arith),
)
  where
    none : (t : Bool) → f ≡ 0 → Refusal f t (cond t 0 11)
    none true e = (
      (λ g l u. ((λ q. absurd (omega arith)), λ q. absurd (omega arith))),
      ((λ q. absurd (omega arith)), λ (p, q). absurd (true≢false q)),
      ((λ q. (e, refl)), λ (p, q). refl),
      inl (omega arith),
    )
    none false e = (
      (λ g l u. ((λ q. absurd (omega arith)), λ q. absurd (omega arith))),
      ((λ q. (e, refl)), λ (p, q). refl),
      ((λ q. absurd (omega arith)), λ (p, q). absurd (false≢true q)),
      inr refl,
    )

every-list-judged : EveryListJudged
every-list-judged ws =
    let f = sheet_fault (sheet_part ws) in
    let t = is_layout (sheet_in (sheet_part ws)) (layout_part ws) in
    let r = subst⁻¹ (Refusal f t) (judge-chain ws) (refusal f t (fault-seven (sheet_part ws))) in (
      (parts ws, all-before ws, begins ws),
      r.0,
      r.1,
      r.2,
      r.3,
      λ e. (
        broken-least (sheet_in (sheet_part ws)) (layout_part ws) (r.2.0 e).1,
        broken-lawful (sheet_in (sheet_part ws)) (layout_part ws) (r.2.0 e).1,
      ),
    )

pub judged-so : JudgedSo
judged-so = (layout-judged, every-list-judged)
