use mathlib.Core.Bool.{Bool}
use mathlib.Core.Path.{◌∙◌}
use lib.ListN.{length}
use borrow.Author.Tests.{tests}
use native.Mathlib.Omega.{arith}
use Prim.Native.Nat.{ℕ}
use Rattle.decoding.specs.Decoding.{site_colours_in}
use Rattle.std.proofs.Common.{rules}
use Rattle.std.proofs.lemmas.Iterator.{YieldsList-from_range}
use Rattle.std.proofs.lemmas.Iterator.Consumers.{YieldsList-from_filter, count_from_yields_List}
use Rattle.std.proofs.lemmas.List.Sums.{length-filter}
use Rattle.labelling.specs.Counted.{is_first}
use Rattle.labelling.specs.Layout.{ties_in}
use Rattle.layouts.specs.Model.{among_by}
use Rattle.layouts.proofs.Loops.{count-range}
use Rattle.layouts.proofs.labels.labels_of.Goals as goal

pub returns : goal.returns
returns c =
    let p : ℕ → Bool = is_first (among_by c.args.a (site_colours_in c.args.sites.now)) (ties_in c.args.ties.now) in
    count_from_yields_List c.filter.result _ c.count.ensures.ran (YieldsList-from_filter _ p (YieldsList-from_range 0 _ (length c.args.ties.now) c.filter.ensures.source (omega arith)) c.filter.ensures.closure (λ x b q k. search (rules, tests))) ∙
    length-filter p _ ∙ count-range p _
