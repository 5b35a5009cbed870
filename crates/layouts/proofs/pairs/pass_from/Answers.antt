use mathlib.Core.Bool.{Bool}
use mathlib.Core.Path.{ap, ◌∙◌}
use Prim.Native.Nat.{ℕ}
use native.Mathlib.Omega.{arith}
use lib.ListN.{length}
use Rattle.decoding.specs.Decoding.{site_colours_in, xs_in, ys_in}
use Rattle.labelling.specs.Layout.{ties_in}
use Rattle.layouts.specs.Model.{tied_at}
use Rattle.layouts.proofs.Loops.{from-none, from-more, from-stop}
use Rattle.layouts.proofs.pairs.pass_from.Goals as goal

pub loop-j-init : goal.loop-j-init
loop-j-init g c =
    let s = c.args.sites in
    let f : ℕ → Bool = λ j. g.R.PairRule.kept s.head c.args.t (tied_at s.heights.now (xs_in s.sites.now) (ys_in s.sites.now) (site_colours_in s.sites.now) (ties_in s.ties.now) j) in
    (omega arith, from-none f c.args.from)

pub returns-then-not-passes : goal.returns-then-not-passes
returns-then-not-passes g c =
    let s = c.args.sites in
    let f : ℕ → Bool = λ j. g.R.PairRule.kept s.head c.args.t (tied_at s.heights.now (xs_in s.sites.now) (ys_in s.sites.now) (site_colours_in s.sites.now) (ties_in s.ties.now) j) in
    from-stop f c.args.from (length s.ties.now) c.loop-j.j c.loop-j.invariant.0 (omega (arith, c.loop-j-test.true, c.count-j-end.ensures)) (c.passes.ensures ∙ ap (g.R.PairRule.kept s.head c.args.t) c.tied_at.ensures) c.if-not-passes.true

pub loop-j-preserved : goal.loop-j-preserved
loop-j-preserved g c =
    let s = c.args.sites in
    let f : ℕ → Bool = λ j. g.R.PairRule.kept s.head c.args.t (tied_at s.heights.now (xs_in s.sites.now) (ys_in s.sites.now) (site_colours_in s.sites.now) (ties_in s.ties.now) j) in
    (omega (arith, c.loop-j.invariant.0), from-more f c.args.from c.loop-j.j c.loop-j.invariant.0 (c.passes.ensures ∙ ap (g.R.PairRule.kept s.head c.args.t) c.tied_at.ensures) c.if-not-passes.false c.loop-j.invariant.1)
