use mathlib.Core.Bool.{true}
use mathlib.Core.Path.{◌≡◌}
use Prim.Native.Nat.{◌≤◌}
use Rattle.decoding.specs.Decoding.{site_colours_in, xs_in, ys_in}
use Rattle.labelling.specs.Layout.{ties_in}
use Rattle.layouts.specs.Model.{tied_at, passes_from}
use Rattle.layouts.proofs.pairs.pass_from.Given as goal

abbrev pub invariant-loop-j : goal.invariant-loop-j
invariant-loop-j g l =
    let s = l.sites in
    (l.from ≤ l.j) × (passes_from g.R.PairRule.kept s.head (tied_at s.heights.now (xs_in s.sites.now) (ys_in s.sites.now) (site_colours_in s.sites.now) (ties_in s.ties.now)) l.from l.j l.t ≡ true)
