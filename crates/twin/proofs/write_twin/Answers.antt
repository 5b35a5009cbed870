use mathlib.Core.Path.{refl, sym}
use native.Mathlib.Omega.{arith}
use lib.ListN.{length}
use Rattle.std.proofs.lemmas.Result.{err_from_is_err_and}
use Rattle.labelling.specs.Twin.{twin_words}
use Rattle.judge.proofs.Tools.{stored-value, stored-area, short-value, short-area, wrote-value, wrote-area}
use Rattle.twin.proofs.Stored.{few}
use Rattle.twin.proofs.write_twin.Goals as goal

pub returns-in_err-opened-clause-value : goal.returns-in_err-opened-clause-value
returns-in_err-opened-clause-value c =
    let ws = c.args.stored.now in
    let p = err_from_is_err_and c.from_residual.result c.from_residual.ensures.1 in
    rw (p.1, p.2) (stored-value ws (length ws) (length c.args.out.now) (twin_words ws) c.args.out.now _ c.in_err-opened.ensures.refusal)

pub returns-in_err-opened-clause-out_after : goal.returns-in_err-opened-clause-out_after
returns-in_err-opened-clause-out_after c =
    let ws = c.args.stored.now in
    stored-area ws (length ws) (length c.args.out.now) (twin_words ws) c.args.out.now _ c.in_err-opened.ensures.refusal

pub returns-in_err-area_fault-clause-value : goal.returns-in_err-area_fault-clause-value
returns-in_err-area_fault-clause-value c =
    let ws = c.args.stored.now in
    let p = err_from_is_err_and c.from_residual-in_err-area_fault.result c.from_residual-in_err-area_fault.ensures.1 in
    rw (p.1, p.2) (short-value ws (length ws) (length c.args.out.now) (twin_words ws) c.args.out.now c.in_ok-opened.ensures.refusal _ c.in_err-area_fault.ensures)

pub returns-in_err-area_fault-clause-out_after : goal.returns-in_err-area_fault-clause-out_after
returns-in_err-area_fault-clause-out_after c =
    let ws = c.args.stored.now in
    short-area ws (length ws) (length c.args.out.now) (twin_words ws) c.args.out.now c.in_ok-opened.ensures.refusal _ c.in_err-area_fault.ensures

pub overflow_cast-result : goal.overflow_cast-result
overflow_cast-result c = omega (arith, few c.args.stored.now (sym c.in_ok-opened.ensures.refusal))

pub returns-clause-value : goal.returns-clause-value
returns-clause-value c =
    let ws = c.args.stored.now in
    wrote-value ws (length ws) (length c.args.out.now) (twin_words ws) c.args.out.now c.in_ok-opened.ensures.refusal c.in_ok-area_fault.ensures _ refl

pub returns-clause-out_after : goal.returns-clause-out_after
returns-clause-out_after c =
    let ws = c.args.stored.now in
    wrote-area ws (length ws) (length c.args.out.now) (twin_words ws) c.args.out.now c.in_ok-opened.ensures.refusal c.in_ok-area_fault.ensures c.write_words.ensures
