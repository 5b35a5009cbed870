-- `refusals::refusal_3::counts_fit` meets its contract.
use Rattle.std.proofs.Common.{arith}
use Rattle.std.proofs.lemmas.Grind.{common_steps}
use Rattle.sheet.proofs.Counts.{slots-count, colours-count, sites-count}
use Rattle.refusals.proofs.refusal_3.counts_fit.Goals as goal

pub returns-then-count_kind-le-MOST_COLOURS : goal.returns-then-count_kind-le-MOST_COLOURS
returns-then-count_kind-le-MOST_COLOURS c = let s = c.args.body.now in grind (arith, common_steps, slots-count s, colours-count s, sites-count 0 s)

pub returns-else-count_kind-le-MOST_COLOURS : goal.returns-else-count_kind-le-MOST_COLOURS
returns-else-count_kind-le-MOST_COLOURS c = let s = c.args.body.now in grind (arith, common_steps, slots-count s, colours-count s, sites-count 0 s)
