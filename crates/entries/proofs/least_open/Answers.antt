use Rattle.search.specs.Cost.{plus}
use Rattle.optimum.specs.OneSided.{top_word}
use Rattle.arrays.proofs.Marks.{turn_low}
use Rattle.entries.proofs.Single.{single_more, single-none}
use mathlib.Core.Path.{ap₂}
use mathlib.Core.Path.{◌≡◌, ◌∙◌}
use Prim.Native.Nat.{◌+◌, ◌-◌}
use native.Mathlib.Omega.{arith}
use Rattle.entries.proofs.least_open.Goals as goal

pub loop-k-init : goal.loop-k-init
loop-k-init c =
    let a = c.args in
    let e : a.window.from - a.window.from ≡ 0 = omega arith in
    (rw e (single-none a.old _ (omega (arith, c.ranges.old))))

pub parts_cost-parts-requires : goal.parts_cost-parts-requires
parts_cost-parts-requires c =
    let p = c.requires in
    let v = c.args.filling.now.level in
    record {
      level_fits = (p.within, p.lies);
      c_lt_colours = (v.site_in.colour_low, omega (arith, p.high, c.loop-k-test.true), rw c.turn_at-turn.ensures (turn_low _ _ _));
    }

pub loop-k-preserved : goal.loop-k-preserved
loop-k-preserved c =
    let a = c.args in
    let l = c.loop-k in
    let f : l.k + 1 - a.window.from ≡ l.k - a.window.from + 1 = omega (arith, l.auto.k) in
    let g : a.window.from + (l.k - a.window.from) ≡ l.k = omega (arith, l.auto.k) in
    let p = c.requires in
    let t = ap₂ (plus top_word) (a.filling.now.opening_listed.costs l.k (omega (arith, p.high, p.lies.b_low, c.loop-k-test.true)))
    (rw c.turn_at-turn.ensures at c.parts_cost-parts.ensures) in
    rw f (c.lesser_sum-best.ensures ∙ single_more a.old l.best _ (l.k - a.window.from) _ l.invariant (rw g t))
