-- The refusal of a stored sheet, by its causes, and what a stored sheet has of which nothing is refused. Assumes nothing.
use mathlib.Core.Path.{◌≡◌, refl, sym, ◌∙◌, ap}
use mathlib.Core.Bool.{true}
use mathlib.Core.List.{List}
use Prim.Native.Nat.{ℕ, ◌<◌}
use native.Mathlib.Omega.{arith}
use lib.ListN.{length, length-append}
use borrow.Author.Tests.{eq-eqb, ne_eqb}
use Rattle.lists.proofs.Tests.{by_equal}
use Rattle.sheet.specs.Sheet.{sheet_in, sheet_fault}
use Rattle.labelling.specs.Layout.{layout_ties, is_layout, sheet_part, layout_part, judge_fault, judged, stored_fault}
use Rattle.labelling.specs.Lawful.{Ties, Lawful}
use Rattle.labelling.proofs.Refusals.{stored-chain}
use Rattle.labelling.proofs.Judge.{judged-so}
use Rattle.labelling.proofs.Words.{formed, formed-ties}

module _ (ws : List ℕ) where
  -- THE REFUSAL
  pub stored-judge : (judge_fault ws ≡ 0 → ⊥) → stored_fault ws ≡ judge_fault ws
  stored-judge n = stored-chain ws ∙ rw (ne_eqb (judge_fault ws) 0 n) refl

  pub stored-unlawful : judge_fault ws ≡ 0 → (judged ws ≡ 0 → ⊥) → stored_fault ws ≡ 13
  stored-unlawful h n = stored-chain ws ∙ rw (eq-eqb (judge_fault ws) 0 h, ne_eqb (judged ws) 0 n) refl

  pub stored-none : judge_fault ws ≡ 0 → judged ws ≡ 0 → stored_fault ws ≡ 0
  stored-none h v = stored-chain ws ∙ rw (eq-eqb (judge_fault ws) 0 h, eq-eqb (judged ws) 0 v) refl

  -- by the rules themselves
  pub lawful-judged : judge_fault ws ≡ 0 → Lawful (sheet_in (sheet_part ws)) (layout_part ws) → judged ws ≡ 0
  lawful-judged h = ((judged-so.1 ws).5 h).1.1

  pub unlawful-judged : judge_fault ws ≡ 0 → (Lawful (sheet_in (sheet_part ws)) (layout_part ws) → ⊥) → judged ws ≡ 0 → ⊥
  unlawful-judged h n v = n (((judged-so.1 ws).5 h).1.0 v)

  -- NOTHING IS REFUSED
  module _ (z : stored_fault ws ≡ 0) where
    pub stored-judged : judge_fault ws ≡ 0
    stored-judged = by_equal (judge_fault ws) 0 (λ h. h) (λ n. sym (stored-judge n) ∙ z)

    pub stored-verdict : judged ws ≡ 0
    stored-verdict = by_equal (judged ws) 0 (λ v. v) (λ n. absurd (omega (arith, stored-unlawful stored-judged n)))

    pub stored-accepted : sheet_fault (sheet_part ws) ≡ 0
    stored-accepted = ((judged-so.1 ws).3.0 stored-judged).0

    pub stored-layout : is_layout (sheet_in (sheet_part ws)) (layout_part ws) ≡ true
    stored-layout = ((judged-so.1 ws).3.0 stored-judged).1

    pub stored-lawful : Lawful (sheet_in (sheet_part ws)) (layout_part ws)
    stored-lawful = ((judged-so.1 ws).5 stored-judged).1.0 stored-verdict

    -- one tie a site, to a slot below m
    pub stored-ties : Ties (sheet_in (sheet_part ws)) (layout_ties (layout_part ws))
    stored-ties = formed-ties (sheet_in (sheet_part ws)) (layout_part ws) (formed (sheet_in (sheet_part ws)) (layout_part ws) stored-layout)

    -- the layout begins within
    pub stored-within : length (sheet_part ws) < length ws
    stored-within =
        omega (arith, ap length (judged-so.1 ws).0.0, length-append (sheet_part ws) (layout_part ws), (formed (sheet_in (sheet_part ws)) (layout_part ws) stored-layout).long)
