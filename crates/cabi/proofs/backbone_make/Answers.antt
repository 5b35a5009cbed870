use mathlib.Core.Path.{refl}
use Rattle.demands.specs.Demands.{WasMade}
use Rattle.demands.proofs.Demands.{served, contents-apart, demand-three}
use Rattle.cabi.proofs.backbone_make.Goals as goal

pub returns : goal.returns
returns c = let a = c.args in
    let ws = a.sheet.now in
    let k = a.work.now in
    let o = a.out.now in
    let f = c.make_layout in
    let r = f.result in
    let k' = f.new.work in
    let o' = f.new.out in
    let e = f.ensures in
    let m : WasMade ws k o r k' o' = (e.value, e.work_after, e.out_after) in
    record { value = e.value; work_after = e.work_after; out_after = e.out_after; sheet_kept = refl; served = served ws k o r k' o' m; contents_apart = contents-apart ws k o r k' o' m; best_of_lawful = demand-three ws k o r k' o' m }
