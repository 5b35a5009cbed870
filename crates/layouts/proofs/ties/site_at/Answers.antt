use mathlib.Core.Path.{sym}
use Rattle.decoding.proofs.Records.{xs-place, ys-place, site-colours-place}
use Rattle.layouts.proofs.ties.site_at.Goals as goal

pub returns-clause-x : goal.returns-clause-x
returns-clause-x c = sym (xs-place c.args.sites.now c.args.i)

pub returns-clause-y : goal.returns-clause-y
returns-clause-y c = sym (ys-place c.args.sites.now c.args.i)

pub returns-clause-colour : goal.returns-clause-colour
returns-clause-colour c = sym (site-colours-place c.args.sites.now c.args.i)
