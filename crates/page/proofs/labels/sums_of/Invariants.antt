use Rattle.decoding.specs.Decoding.{site_colours_in, ys_in}
use Rattle.labelling.specs.Layout.{ties_in}
use Rattle.page.specs.Labels.{sums_on}
use mathlib.Core.Path.{◌≡◌}
use Rattle.page.proofs.labels.sums_of.Given as goal

abbrev pub invariant-loop-i : goal.invariant-loop-i
invariant-loop-i l = let s = l.sites in l.sums ≡ sums_on s.head l.slot s.heights.now (ys_in s.sites.now) (site_colours_in s.sites.now) (ties_in s.ties.now) l.i
