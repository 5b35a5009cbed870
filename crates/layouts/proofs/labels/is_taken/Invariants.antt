use mathlib.Core.Path.{◌≡◌}
use Rattle.decoding.specs.Decoding.{site_colours_in}
use Rattle.labelling.specs.Layout.{ties_in}
use Rattle.labelling.specs.Counted.{is_taken}
use Rattle.layouts.specs.Model.{among_by}
use Rattle.layouts.proofs.labels.is_taken.Given as goal

abbrev pub invariant-loop-j : goal.invariant-loop-j
invariant-loop-j l = l.found ≡ is_taken (among_by l.a (site_colours_in l.sites)) (ties_in l.ties) l.slot l.j
