use mathlib.Core.Path.{◌≡◌}
use Prim.Native.Nat.{◌≤◌}
use lib.ListN.{length}
use Rattle.decoding.specs.Decoding.{site_colours_in, xs_in, ys_in}
use Rattle.labelling.specs.Layout.{ties_in}
use Rattle.labelling.specs.Counted.{sum_before, is_first}
use Rattle.layouts.specs.declared.labels.Among.TheVariants.{All}
use Rattle.layouts.specs.Model.{one_if, among_by, length_at}
use Rattle.layouts.proofs.rule_6.totals_of.Given as goal

abbrev pub invariant-loop-i : goal.invariant-loop-i
invariant-loop-i l =
    let s = l.sites in
    (l.count ≤ l.i) × (l.count ≡ sum_before (λ k. one_if (is_first (among_by All (site_colours_in s.sites.now)) (ties_in s.ties.now) k)) l.i) ×
    (l.length ≡ sum_before (length_at s.head s.heights.now (xs_in s.sites.now) (ys_in s.sites.now) (site_colours_in s.sites.now) (ties_in s.ties.now) (length s.ties.now)) l.i)
