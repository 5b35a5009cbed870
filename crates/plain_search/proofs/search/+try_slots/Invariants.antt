use Rattle.std.proofs.Common.{length}
use Rattle.plain_search.proofs.search.+try_slots.Given as goal

abbrev pub decreases-try_slots : goal.decreases-try_slots
decreases-try_slots l = length l.left.now
