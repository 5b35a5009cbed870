use Rattle.std.proofs.lemmas.Result.{err_from_is_err_and}
use Rattle.judge.proofs.opened.Opening.{stored-refused, unlawful, lawful}
use Rattle.judge.proofs.opened.open_stored.Goals as goal

pub returns-in_err-opened-clause-refusal : goal.returns-in_err-opened-clause-refusal
returns-in_err-opened-clause-refusal c =
    let p = err_from_is_err_and c.from_residual.result c.from_residual.ensures.1 in
    rw (p.1, p.2) (stored-refused c.args.stored.now _ c.in_err-opened.ensures.refusal)

pub returns-in_err-rule_fault-clause-refusal : goal.returns-in_err-rule_fault-clause-refusal
returns-in_err-rule_fault-clause-refusal c =
    let p = err_from_is_err_and c.from_residual-in_err-rule_fault.result c.from_residual-in_err-rule_fault.ensures.1 in
    let o = c.in_ok-opened.ensures in
    rw (p.1, p.2) (unlawful c.args.stored.now _ _ _ _ o.refusal c.broken_rule.ensures o.parts.0 o.parts.1 c.is_none.ensures _ c.in_err-rule_fault.ensures)

pub returns-clause-refusal : goal.returns-clause-refusal
returns-clause-refusal c =
    let o = c.in_ok-opened.ensures in
    lawful c.args.stored.now _ _ _ _ o.refusal c.broken_rule.ensures o.parts.0 o.parts.1 c.is_none.ensures c.in_ok-rule_fault.ensures
