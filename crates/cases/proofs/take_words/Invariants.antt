use Rattle.std.proofs.Common.{◌≤◌}
use Rattle.arrayvec.specs.ArrayVec.{array_vec_len}
use Rattle.cases.proofs.take_words.Given as goal

abbrev pub invariant-loop-b : goal.invariant-loop-b
invariant-loop-b g l = (array_vec_len l.initial.words ≤ array_vec_len l.words) × (array_vec_len l.words ≤ g.row.N)
