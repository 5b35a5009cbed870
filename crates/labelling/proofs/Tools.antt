-- The refusal of a tool that writes into an area, by its causes, and the area with it and without. Assumes nothing.
use mathlib.Core.Path.{◌≡◌, refl, sym, ◌∙◌}
use mathlib.Core.List.{List, ◌++◌}
use Prim.Native.Nat.{ℕ, ◌≤◌, ◌<◌}
use native.Mathlib.Omega.{arith}
use lib.ListN.{drop}
use borrow.Author.Tests.{eq-eqb, ne_eqb, lt-leb, le-leb}
use Rattle.lists.proofs.Tests.{by_order, by_equal}
use Rattle.labelling.specs.Layout.{judge_fault, judged, stored_fault}
use Rattle.labelling.specs.Tools.{tool_fault, tool_area}
use Rattle.labelling.proofs.Refusals.{tool-chain}
use Rattle.labelling.proofs.Stored.{stored-judge, stored-unlawful, stored-none, stored-judged, stored-verdict}

-- THE REFUSAL
module _ (ws : List ℕ) (size lent : ℕ) where
  pub fault-stored : (stored_fault ws ≡ 0 → ⊥) → tool_fault ws size lent ≡ stored_fault ws
  fault-stored n = tool-chain ws size lent ∙ rw (ne_eqb (stored_fault ws) 0 n) refl

  pub fault-judge : (judge_fault ws ≡ 0 → ⊥) → tool_fault ws size lent ≡ judge_fault ws
  fault-judge n = fault-stored (λ z. n (stored-judged ws z)) ∙ stored-judge ws n

  module _ (h : judge_fault ws ≡ 0) where
    pub fault-unlawful : (judged ws ≡ 0 → ⊥) → tool_fault ws size lent ≡ 13
    fault-unlawful n = fault-stored (λ z. n (stored-verdict ws z)) ∙ stored-unlawful ws h n

    pub fault-short : judged ws ≡ 0 → lent < size → tool_fault ws size lent ≡ 9
    fault-short v l = tool-chain ws size lent ∙ rw (eq-eqb (stored_fault ws) 0 (stored-none ws h v), lt-leb size lent l) refl

    pub fault-none : judged ws ≡ 0 → size ≤ lent → tool_fault ws size lent ≡ 0
    fault-none v l = tool-chain ws size lent ∙ rw (eq-eqb (stored_fault ws) 0 (stored-none ws h v), le-leb size lent l) refl

  -- the four cases
  pub by-cause : {P : Type 0} → ((judge_fault ws ≡ 0 → ⊥) → P) → (judge_fault ws ≡ 0 → (judged ws ≡ 0 → ⊥) → P) →
      (judge_fault ws ≡ 0 → judged ws ≡ 0 → lent < size → P) → (judge_fault ws ≡ 0 → judged ws ≡ 0 → size ≤ lent → P) → P
  by-cause a b c d = by_equal (judge_fault ws) 0 (λ h. by_equal (judged ws) 0 (λ v. by_order size lent (d h v) (c h v)) (b h)) a

  -- nothing is refused: nothing of the stored sheet, and the area is long enough
  pub unrefused : tool_fault ws size lent ≡ 0 → (stored_fault ws ≡ 0) × (size ≤ lent)
  unrefused z =
      by-cause
      (λ n. absurd (n (sym (fault-judge n) ∙ z)))
      (λ h n. absurd (omega (arith, fault-unlawful h n)))
      (λ h v l. absurd (omega (arith, fault-short h v l)))
      (λ h v l. (stored-none ws h v, l))

-- THE AREA
pub area-refused : (f n : ℕ) (t o : List ℕ) → (f ≡ 0 → ⊥) → tool_area f n t o ≡ o
area-refused f n t o e = rw (ne_eqb f 0 e) refl

pub area-written : (f n : ℕ) (t o : List ℕ) → f ≡ 0 → tool_area f n t o ≡ t ++ drop n o
area-written f n t o e = rw (eq-eqb f 0 e) refl
