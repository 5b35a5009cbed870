use mathlib.Core.Path.{sym, ◌∙◌}
use borrow.Author.Tests.{tests}
use Rattle.std.proofs.Common.{rules}
use Rattle.std.proofs.lemmas.Iterator.{YieldsList-from_slice}
use Rattle.std.proofs.lemmas.Iterator.Search.{all_from_yields_List}
use Rattle.forms.specs.Forms.{tie_fits}
use Rattle.judge.proofs.refusal_11.Parts.{all-is}
use Rattle.judge.proofs.refusal_11.are_ties.Goals as goal

pub returns : goal.returns
returns c =
    let ws = c.args.words.now in
    all_from_yields_List (tie_fits c.args.m) _ _ _ c.all.ensures.ran (YieldsList-from_slice ws cc) (λ x b q k. search (rules, tests)) ∙ sym (all-is (tie_fits c.args.m) ws)
