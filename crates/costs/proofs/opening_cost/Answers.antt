use native.Mathlib.Omega.{arith}
use Rattle.labelling.proofs.Distances.{share-le}
use Rattle.costs.proofs.opening_cost.Goals as goal

pub overflow_add-backbone : goal.overflow_add-backbone
overflow_add-backbone c = omega (arith, share-le)

pub cost_word-requires : goal.cost_word-requires
cost_word-requires c = omega (arith, share-le)
