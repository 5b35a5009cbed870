use mathlib.Core.Bool.{Bool}
use mathlib.Core.Path.{◌∙◌}
use lib.ListN.{length}
use borrow.Author.Tests.{tests}
use Prim.Native.Nat.{ℕ}
use Rattle.decoding.specs.Decoding.{ColourNumbers, site_colours_in}
use Rattle.std.proofs.Common.{rules}
use Rattle.std.proofs.lemmas.Iterator.{YieldsList-from_slice}
use Rattle.std.proofs.lemmas.Iterator.Consumers.{YieldsList-from_enumerate}
use Rattle.std.proofs.lemmas.Iterator.Search.{all_from_yields_List}
use Rattle.labelling.specs.Layout.{ties_in}
use Rattle.rules.specs.Rules.{bound_kept}
use Rattle.layouts.specs.declared.labels.Among.TheVariants.{Of}
use Rattle.layouts.specs.Model.{count_on}
use Rattle.layouts.proofs.Loops.{all-bounds}
use Rattle.layouts.proofs.rule_2.bounds_pass.Goals as goal

pub returns : goal.returns
returns c =
    let s = c.args.sites.now in
    let f : ℕ → ℕ → Bool = λ k bound. bound_kept (count_on (Of k) (site_colours_in s.sites.now) (ties_in s.ties.now) (length s.ties.now)) bound in
    all_from_yields_List (λ (p : ℕ × ColourNumbers). f p.0 p.1.bound) _ _ _ c.all.ensures.ran (YieldsList-from_enumerate (YieldsList-from_slice c.args.colours.now cc) (cc)) (λ x b q k. search (rules, tests)) ∙ all-bounds f _
