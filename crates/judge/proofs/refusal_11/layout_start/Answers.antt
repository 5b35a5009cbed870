use borrow.Author.Tests.{tests}
use lib.Dec.{eqb}
use Rattle.std.proofs.Common.{rules}
use Rattle.std.proofs.lemmas.Iterator.{YieldsList-from_slice}
use Rattle.std.proofs.lemmas.Iterator.Search.{position_from_yields_List}
use Rattle.sheet.specs.Sheet.{kind_of}
use Rattle.judge.proofs.refusal_11.Parts.{found-start}
use Rattle.judge.proofs.refusal_11.layout_start.Goals as goal

pub returns : goal.returns
returns c =
    let ws = c.args.stored.now in
    let p = position_from_yields_List (λ w. eqb (kind_of w) 8) _ _ c.position.result c.position.ensures.ran (YieldsList-from_slice ws cc) (λ x b q k. search (rules, tests)) in
    found-start ws p c.unwrap_or.ensures
