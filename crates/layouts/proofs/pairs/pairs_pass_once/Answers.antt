use mathlib.Core.Bool.{Bool}
use mathlib.Core.Path.{refl, ◌∙◌}
use lib.ListN.{length}
use borrow.Author.Tests.{tests}
use native.Mathlib.Omega.{arith}
use Prim.Native.Nat.{ℕ}
use Rattle.decoding.specs.Decoding.{site_colours_in, xs_in, ys_in}
use Rattle.std.proofs.Common.{rules}
use Rattle.std.proofs.lemmas.Iterator.{YieldsList-from_range}
use Rattle.std.proofs.lemmas.Iterator.Search.{all_from_yields_List}
use Rattle.labelling.specs.Layout.{ties_in}
use Rattle.layouts.specs.Model.{tied_at, passes_from}
use Rattle.layouts.proofs.Loops.{all-range}
use Rattle.layouts.proofs.EveryPair.{pairs-once}
use Rattle.layouts.proofs.pairs.pairs_pass_once.Goals as goal

pub returns : goal.returns
returns g c =
    let s = c.args.sites.now in
    let at = tied_at s.heights.now (xs_in s.sites.now) (ys_in s.sites.now) (site_colours_in s.sites.now) (ties_in s.ties.now) in
    let f : ℕ → Bool = λ i. passes_from g.R.PairRule.kept s.head at i (length s.ties.now) (at i) in
    all_from_yields_List f _ _ _ c.all.ensures.ran (YieldsList-from_range 0 c.count.result (length s.ties.now) refl (omega arith)) (λ x b q k. search (rules, tests)) ∙ all-range f _ ∙ pairs-once g.R.PairRule.kept c.requires s.head at (length s.ties.now)
