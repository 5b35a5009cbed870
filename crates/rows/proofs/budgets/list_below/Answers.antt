use lib.Seq.{get_or-set_same, get_or-set_other}
use Rattle.search.specs.Radix.{below, mask_of}
use Rattle.search.proofs.Masks.{mask-all, mask_low, mask-half}
use Rattle.sheet.specs.Limits.{most_budgets}
use Rattle.rows.proofs.Lists.{listed-none, listed_next, others-none, others-set}
use mathlib.Core.Path.{ap, sym, ◌∙◌}
use Prim.Native.Nat.{ℕ, ◌+◌, ◌*◌, ◌/◌, ◌<◌}
use native.Mathlib.Omega.{arith}
use lib.ListN.{length-set}
use Rattle.rows.proofs.budgets.list_below.Goals as goal

pub loop-w-init : goal.loop-w-init
unfolding mask_of
loop-w-init c =
    let mask = c.mask_below-mask.ensures ∙ sym (mask-all _ _) in
    (c.requires.1, mask, listed-none _ _ _, others-none _ _ _)

pub loop-w-preserved : goal.loop-w-preserved
loop-w-preserved c =
    let a = c.args in
    let l = c.loop-w in
    let n : l.count < most_budgets = omega (arith, l.invariant.2.few) in
    let x = a.v * most_budgets + l.count in
    let m = l.invariant.1 in
    let may = λ (u : ℕ). below a.radices.list.now u a.v in
    let same = λ (i : ℕ) (h : i < l.count). get_or-set_other l.parts x (a.v * most_budgets + i) l.w 0 (λ e. omega arith) in
    let last = get_or-set_same l.parts x l.w 0 (omega (arith, l.invariant.0)) in (
      simp length-set l.invariant.0,
      ap (λ (z : ℕ). z / 2) m ∙ mask-half may (a.v + 1) l.w (omega arith),
      rw (c.from-count.ensures, m, mask_low may (a.v + 1) l.w (omega arith))
          (listed_next a.radices.list.now a.v l.w l.count _ _ same last l.invariant.2),
      others-set a.parts.now l.parts (a.v * most_budgets) most_budgets l.count l.w n l.invariant.3,
    )
