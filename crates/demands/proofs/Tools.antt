-- What is promised of one call of a tool that writes into an area, whatever it writes. Assumes nothing.
use mathlib.Core.Path.{◌≡◌, refl, sym, ap, subst⁻¹, ◌∙◌}
use mathlib.Core.List.{List, ◌++◌}
use Prim.Native.Nat.{ℕ, ◌≤◌, ◌<◌}
use native.Mathlib.Omega.{arith}
use lib.ListN.{length, take, drop}
use lib.Seq.{take_at, drop_at, length_front, length-take-le}
use borrow.Author.Tests.{ne_eqb}
use Rattle.labelling.specs.Layout.{judge_fault, judged, stored_fault}
use Rattle.labelling.specs.Tools.{tool_fault, tool_area}
use Rattle.labelling.proofs.Stored.{stored-none, lawful-judged, unlawful-judged}
use Rattle.labelling.proofs.Tools.{fault-judge, fault-unlawful, fault-short, fault-none, by-cause, area-refused, area-written}
use Rattle.faults.specs.declared.written.Written.{Written}
use Rattle.faults.specs.Results.{written_post}
use Rattle.demands.specs.Demands.{ServedByTool}

-- a tool writes t, of so many places, and Q holds of it where nothing is refused of the stored sheet
module _ (ws : List ℕ) (size : ℕ) (t : List ℕ) (Q : List ℕ → Type 0) (fine : stored_fault ws ≡ 0 → (length t ≡ size) × Q t) where
  -- ONE CALL
  module _ (o : List ℕ) (r : Written) (o' : List ℕ) (er : r ≡ written_post (tool_fault ws size (length o)) size) (eo : o' ≡ tool_area (tool_fault ws size (length o)) size t o) where
    refused : (f : ℕ) → tool_fault ws size (length o) ≡ f → 0 < f → (r.refusal ≡ f) × (r.written ≡ 0) × (o' ≡ o)
    refused f e l =
        let n : (f ≡ 0 → ⊥) = λ q. omega arith in (
          ap (λ (v : Written). v.refusal) er ∙ e,
          ap (λ (v : Written). v.written) er ∙ rw (e, ne_eqb f 0 n) refl,
          eo ∙ area-refused _ size t o (λ q. n (sym e ∙ q)),
        )

    module _ (h : judge_fault ws ≡ 0) (v : judged ws ≡ 0) (l : size ≤ length o) where
      long : length t ≡ size
      long = (fine (stored-none ws h v)).0

      area-is : o' ≡ t ++ drop size o
      area-is = eo ∙ area-written _ size t o (fault-none ws size (length o) h v l)

      front-is : take size o' ≡ t
      front-is = ap (take size) area-is ∙ take_at t (drop size o) size long

      given : (r.refusal ≡ 0) × (r.written ≡ size) × Q (take size o') × (drop size o' ≡ drop size o)
      given = (
        ap (λ (z : Written). z.refusal) er ∙ fault-none ws size (length o) h v l,
        ap (λ (z : Written). z.written) er ∙ rw (fault-none ws size (length o) h v l) refl,
        subst⁻¹ Q front-is (fine (stored-none ws h v)).1,
        ap (drop size) area-is ∙ drop_at t (drop size o) size long,
      )

      given-long : length o' ≡ length o
      given-long = ap length area-is ∙ length_front o t size (long ∙ sym (length-take-le size o l))

    judge-refuses : (judge_fault ws ≡ 0 → ⊥) → (r.refusal ≡ judge_fault ws) × (r.written ≡ 0) × (o' ≡ o)
    judge-refuses n = refused (judge_fault ws) (fault-judge ws size (length o) n) (omega arith)

    kept-long : length o' ≡ length o
    kept-long =
        by-cause ws size (length o)
        (λ n. ap length (judge-refuses n).2)
        (λ h n. ap length (refused 13 (fault-unlawful ws size (length o) h n) (omega arith)).2)
        (λ h v l. ap length (refused 9 (fault-short ws size (length o) h v l) (omega arith)).2)
        (λ h v l. given-long h v l)

    pub served-by-tool : ServedByTool ws size Q o r o'
    served-by-tool =
        record {
          judge = λ l. judge-refuses (λ e. omega arith);
          unlawful = λ h n. refused 13 (fault-unlawful ws size (length o) h (unlawful-judged ws h n)) (omega arith);
          short = λ h a l. refused 9 (fault-short ws size (length o) h (lawful-judged ws h a) l) (omega arith);
          given = λ h a l. given h (lawful-judged ws h a) l;
          kept = kept-long;
        }
