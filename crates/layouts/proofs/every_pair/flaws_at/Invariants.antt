use Rattle.decoding.specs.Decoding.{site_colours_in, xs_in, ys_in}
use Rattle.labelling.specs.Layout.{ties_in}
use Rattle.labelling.specs.Counted.{sum_before}
use Rattle.layouts.specs.Flaws.{flaw_of}
use Rattle.layouts.specs.Model.{tied_at}
use mathlib.Core.Path.{◌≡◌}
use Prim.Native.Nat.{ℕ, ◌≤◌}
use Rattle.words.specs.declared.tied.TiedSite.{TiedSite}
use Rattle.layouts.proofs.every_pair.flaws_at.Given as goal

abbrev pub invariant-loop-j : goal.invariant-loop-j
invariant-loop-j l =
    let s = l.sites in
    let at : ℕ → TiedSite = tied_at s.heights.now (xs_in s.sites.now) (ys_in s.sites.now) (site_colours_in s.sites.now) (ties_in s.ties.now) in
    (l.n ≤ l.j) × (l.n ≡ sum_before (λ k. flaw_of s.head (at l.i) (at k)) l.j)
