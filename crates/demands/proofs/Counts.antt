-- What is promised of the judge's count, an end in itself. Assumes nothing.
use mathlib.Core.Path.{◌≡◌, sym, ◌∙◌}
use mathlib.Core.Logic.{◌↔◌}
use mathlib.Core.List.{List}
use Prim.Native.Nat.{ℕ, zero, suc, ◌<◌}
use native.Mathlib.Omega.{arith}
use Rattle.sheet.specs.Sheet.{Sheet}
use Rattle.labelling.specs.Layout.{layout_body, layout_ties, layout_part}
use Rattle.labelling.specs.Lawful.{RuleOne, Rule, LeastBroken}
use Rattle.labelling.specs.Slots.{OverBound}
use Rattle.labelling.proofs.Words.{Formed, formed, formed-long, ties-low}
use Rattle.labelling.proofs.Slots.{over-bound}
use Rattle.layouts.proofs.Counts.{slots-counted}
use Rattle.judge.specs.declared.Verdict.{Verdict}
use Rattle.demands.specs.Demands.{WasJudged, stored_sheet, CountPromised}
use Rattle.demands.proofs.Demands.{demand-two}
use Rattle.demands.proofs.Layouts.{of-layout}

-- rule 2 is the least broken exactly when rule 1 holds and a bound is passed
least-two : (s : Sheet) (b : List ℕ) → Formed s b → LeastBroken 2 s b ↔ (RuleOne s (layout_ties b) × OverBound s (layout_ties b))
unfolding Rule
least-two s b f =
    let o = over-bound s (layout_ties b) (formed-long s b f) (ties-low s (layout_body b) f.ties) in (
      (λ l. (l.lower 1 (omega arith), o.0 l.broken)),
      λ (one, over). record { lower = lower one; broken = o.1 over },
    )
  where
    lower : RuleOne s (layout_ties b) → (j : ℕ) → j < 2 → Rule j s b
    lower h zero l = tt
    lower h (suc zero) l = h
    lower h (suc (suc j)) l = absurd (omega arith)

said : (ws : List ℕ) (r : Verdict) (ws' : List ℕ) → WasJudged ws r ws' → r.refusal ≡ 0 →
    (r.rule ≡ 2) ↔ (RuleOne (stored_sheet ws) (layout_ties (layout_part ws)) × OverBound (stored_sheet ws) (layout_ties (layout_part ws)))
said ws r ws' m z =
    let t = demand-two ws r ws' m in
    let f = formed (stored_sheet ws) (layout_part ws) (of-layout (stored_sheet ws) (layout_part ws) (t.accepted.0 z).1) in
    let u = t.rule z 2 (omega arith) in
    let l = least-two (stored_sheet ws) (layout_part ws) f in
    ((λ e. l.0 (u.0 e)), λ p. u.1 (l.1 p))

pub count-promised : CountPromised
count-promised = record { counted = slots-counted; said = said; kept = λ ws r ws' q ws'' m n. m.0 ∙ sym n.0 }
