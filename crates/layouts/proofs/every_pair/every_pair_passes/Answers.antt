use mathlib.Core.Bool.{Bool}
use mathlib.Core.Path.{refl, ◌∙◌}
use lib.ListN.{length}
use borrow.Author.Tests.{tests}
use native.Mathlib.Omega.{arith}
use Prim.Native.Nat.{ℕ}
use Rattle.decoding.specs.Decoding.{site_colours_in, xs_in, ys_in}
use Rattle.std.proofs.Common.{rules}
use mathlib.Core.Path.{sym}
use lib.Dec.{eqb}
use borrow.Author.Tests.{eqb-true}
use Rattle.std.proofs.lemmas.Iterator.{YieldsList-from_range}
use Rattle.std.proofs.lemmas.Iterator.Search.{all_from_yields_List}
use Rattle.labelling.proofs.Counted.{all-before}
use Rattle.labelling.specs.Layout.{ties_in}
use Rattle.layouts.specs.Model.{tied_at, flaws_at}
use Rattle.layouts.proofs.Loops.{all-range}
use Rattle.layouts.proofs.EveryPair.{every-pair}
use Rattle.layouts.proofs.every_pair.every_pair_passes.Goals as goal

pub returns : goal.returns
returns c =
    let s = c.args.sites.now in
    let n = length s.ties.now in
    let f : ℕ → Bool = λ i. eqb (flaws_at s.head (tied_at s.heights.now (xs_in s.sites.now) (ys_in s.sites.now) (site_colours_in s.sites.now) (ties_in s.ties.now)) i) 0 in
    let found = all_from_yields_List f _ _ c.all.result c.all.ensures.ran (YieldsList-from_range 0 c.count.result n refl (omega arith)) (λ x b q k. search (rules, tests)) ∙ all-range f n in
    λ e. every-pair _ _ _ (λ i l. eqb-true _ 0 (all-before f n (sym found ∙ e) i l))
