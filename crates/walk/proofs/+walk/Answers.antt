use Rattle.walk.proofs.Tying.{ended, long, walk-in}
use native.Mathlib.Omega.{arith}
use Rattle.walk.proofs.+walk.Goals as goal

pub returns-then-j-sheet : goal.returns-then-j-sheet
returns-then-j-sheet t c =
    let a = c.args in
    ended (walk-in a.sheet.now c.requires.0) a.j a.labels.now a.marks.now a.out.now a.left.budget c.if-j-sheet.true

pub tie_site-after-requires : goal.tie_site-after-requires
tie_site-after-requires t c =
    let p = c.requires in
    record { levels_fit = p.0; standing = (p.1, omega (arith, p.1.tied, long (walk-in c.args.sheet.now p.0), c.if-j-sheet.false)) }

pub walk-requires : goal.walk-requires
walk-requires t c =
    let p = c.requires in
    (omega (arith, p.1.tied, long (walk-in c.args.sheet.now p.0), c.if-j-sheet.false), (p.0, c.tie_site-after.ensures.stands))
