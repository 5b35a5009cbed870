use native.Mathlib.Omega.{arith}
use Rattle.labelling.proofs.Distances.{share-le}
use Rattle.costs.proofs.joining_cost.Goals as goal

pub cost_word-requires : goal.cost_word-requires
cost_word-requires c = omega (arith, share-le)
