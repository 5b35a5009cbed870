use Rattle.layouts.proofs.EveryPair.{gaps-both}
use Rattle.layouts.proofs.least_broken.broken_by.Goals as goal

pub pairs_pass_once-requires-else-known-2 : goal.pairs_pass_once-requires-else-known-2
pairs_pass_once-requires-else-known-2 c = gaps-both
