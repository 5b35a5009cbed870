use mathlib.Core.Path.{ap₂, ◌∙◌}
use native.Mathlib.Omega.{arith}
use Rattle.labelling.specs.Layout.{ties_in}
use Rattle.decoding.specs.Decoding.{xs_in, ys_in, site_colours_in}
use Rattle.layouts.specs.Model.{tied_at}
use Rattle.layouts.specs.Flaws.{flaw_of}
use Rattle.layouts.proofs.Loops.{sum-none, sum_more}
use Rattle.layouts.proofs.EveryPair.{flaw-low}
use Rattle.layouts.proofs.every_pair.flaws_at.Goals as goal

pub loop-j-init : goal.loop-j-init
loop-j-init c = (omega arith, sum-none _)

pub overflow_add-n : goal.overflow_add-n
overflow_add-n c = omega (arith, c.loop-j.invariant.0, c.loop-j-test.true, flaw-low _ _ _ c.flaw-n.ensures, c.args.sites.now.fits.few)

pub loop-j-preserved : goal.loop-j-preserved
loop-j-preserved c =
    let s = c.args.sites.now in
    let at = tied_at s.heights.now (xs_in s.sites.now) (ys_in s.sites.now) (site_colours_in s.sites.now) (ties_in s.ties.now) in
    let l = c.loop-j in (
      omega (arith, l.invariant.0, flaw-low _ _ _ c.flaw-n.ensures),
      sum_more (λ k. flaw_of s.head (at c.args.i) (at k)) l.j l.n _ l.invariant.1 (c.flaw-n.ensures ∙ ap₂ (flaw_of s.head) c.tied_at-t.ensures c.tied_at.ensures),
    )
