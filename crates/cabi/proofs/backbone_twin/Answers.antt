use Rattle.demands.specs.Demands.{WasTwinned}
use Rattle.demands.proofs.Twin.{served-by-twin}
use Rattle.cabi.proofs.backbone_twin.Goals as goal

pub returns-clause-served_by_twin : goal.returns-clause-served_by_twin
returns-clause-served_by_twin c =
    let a = c.args in
    let f = c.make_twin in
    let m : WasTwinned a.stored.now a.out.now f.result f.new.out = (f.ensures.value, f.ensures.out_after) in
    served-by-twin a.stored.now a.out.now f.result f.new.out m
