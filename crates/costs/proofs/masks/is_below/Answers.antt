use lib.ListN.{drop_of_length-le}
use Rattle.search.specs.Radix.{below}
use Rattle.costs.proofs.masks.Digits.{below_step}
use mathlib.Core.Path.{sym, ◌∙◌}
use borrow.Author.Tests.{le-leb, lt-leb}
use Rattle.costs.proofs.masks.is_below.Goals as goal

pub returns-then-a-radix : goal.returns-then-a-radix
returns-then-a-radix c =
    let l = c.loop-radix in
    sym (l.invariant ∙ below_step c.args.radices.list.now l.radix-index l.a l.b c.loop-radix-test.true ∙ rw (lt-leb _ _ c.if-a-radix.true))

pub loop-radix-preserved : goal.loop-radix-preserved
loop-radix-preserved c =
    let l = c.loop-radix in
    l.invariant ∙ below_step c.args.radices.list.now l.radix-index l.a l.b c.loop-radix-test.true ∙ rw (le-leb _ _ c.if-a-radix.false)

pub returns : goal.returns
unfolding below
returns c = sym (c.loop-radix.invariant ∙ rw (drop_of_length-le c.args.radices.list.now c.loop-radix-test.false))
