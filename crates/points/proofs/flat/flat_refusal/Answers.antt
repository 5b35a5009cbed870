-- `flat::flat_refusal` meets its contract.
use mathlib.Core.Path.{refl}
use Rattle.points.proofs.Exact.{zero_is}
use Rattle.points.proofs.flat.flat_refusal.Goals as goal

pub returns : goal.returns
returns c = rw zero_is refl
