-- `in_points` meets its contract.
use Rattle.points.proofs.Exact.{can-be-cast, divided}
use Rattle.points.proofs.in_points.Goals as goal

pub int_to_float-units : goal.int_to_float-units
int_to_float-units c = can-be-cast c.args.n c.requires

pub returns : goal.returns
returns c = divided c.args.n c.requires
