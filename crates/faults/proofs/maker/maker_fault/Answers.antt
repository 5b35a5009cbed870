-- `maker::maker_fault` meets its contract.
use mathlib.Core.Path.{refl, sym}
use native.Mathlib.Omega.{arith}
use Rattle.faults.proofs.Faults.{fault-side, fault-work, fault-out, fault-none}
use Rattle.faults.proofs.maker.maker_fault.Goals as goal

pub returns-then-two_sided : goal.returns-then-two_sided
returns-then-two_sided c = let a = c.args in
    sym (fault-side 0 a.two_sided a.needed a.sites a.work a.out refl c.if-two_sided.true)

pub returns-then-work-needed : goal.returns-then-work-needed
returns-then-work-needed c = let a = c.args in
    sym (fault-work 0 a.two_sided a.needed a.sites a.work a.out refl c.if-two_sided.false (omega (arith, c.if-work-needed.true)))

pub returns-then-out-sites : goal.returns-then-out-sites
returns-then-out-sites c = let a = c.args in
    sym (fault-out 0 a.two_sided a.needed a.sites a.work a.out refl c.if-two_sided.false (omega (arith, c.if-work-needed.false)) (omega (arith, c.if-out-sites.true)))

pub returns : goal.returns
returns c = let a = c.args in
    sym (fault-none 0 a.two_sided a.needed a.sites a.work a.out refl c.if-two_sided.false (omega (arith, c.if-work-needed.false)) (omega (arith, c.if-out-sites.false)))
