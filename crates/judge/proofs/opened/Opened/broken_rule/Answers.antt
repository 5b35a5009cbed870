use mathlib.Core.Path.{refl}
use native.Mathlib.Omega.{arith}
use Rattle.judge.proofs.Ruled.{kinds-few, rule-found}
use Rattle.judge.proofs.opened.Opened.broken_rule.Goals as goal

pub shared_ref_as_front-colours : goal.shared_ref_as_front-colours
shared_ref_as_front-colours c = let o = c.args.self.now in
    omega (arith, kinds-few o.sheet.now o.accepted o.read)

pub returns : goal.returns
returns c =
    let o = c.args.self.now in
    rule-found o.sheet.now o.layout.now o.accepted o.formed _ _ o.read c.sites.ensures refl c.broken_by.ensures
