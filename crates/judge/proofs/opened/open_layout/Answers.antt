use mathlib.Core.Path.{◌≡◌, ap, ◌∙◌}
use Prim.Native.Nat.{ℕ}
use native.Mathlib.Omega.{arith}
use lib.ListN.{length, take, drop}
use mathlib.Core.List.{List}
use Rattle.labelling.specs.Layout.{sheet_part, layout_part}
use Rattle.judge.proofs.opened.Opening.{judge-parts, judge-opened}
use Rattle.judge.proofs.refusal_11.Parts.{sheet-front, sheet-le}
use Rattle.judge.proofs.opened.open_layout.Goals as goal

pub split_at-requires : goal.split_at-requires
split_at-requires c = omega (arith, sheet-le c.args.stored.now, c.layout_start.ensures)

-- the two parts
module _ (ws front back : List ℕ) (at : ℕ) (e : at ≡ length (sheet_part ws)) (f : front ≡ take at ws) (b : back ≡ drop at ws) where
  front-is : front ≡ sheet_part ws
  front-is = f ∙ ap (λ (i : ℕ). take i ws) e ∙ sheet-front ws

  back-is : back ≡ layout_part ws
  back-is = b ∙ ap (λ (i : ℕ). drop i ws) e

pub returns-clause-refusal : goal.returns-clause-refusal
returns-clause-refusal c =
    let ws = c.args.stored.now in
    let s = c.split_at.ensures in
    judge-parts ws _ _ c.open_parts.ensures.refusal (front-is ws _ _ _ c.layout_start.ensures s.front s.back) (back-is ws _ _ _ c.layout_start.ensures s.front s.back)

pub returns-clause-parts : goal.returns-clause-parts
returns-clause-parts c =
    let ws = c.args.stored.now in
    let s = c.split_at.ensures in
    judge-opened _ c.open_parts.ensures.parts (front-is ws _ _ _ c.layout_start.ensures s.front s.back) (back-is ws _ _ _ c.layout_start.ensures s.front s.back)
