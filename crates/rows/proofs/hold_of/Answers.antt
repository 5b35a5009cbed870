use mathlib.Core.Path.{◌≡◌}
use native.Mathlib.Omega.{arith}
use lib.ListN.{length}
use Rattle.rows.proofs.Holding.{looking-none, looking-skip, looking-past, looking-here, looking-end}
use Rattle.rows.proofs.hold_of.Goals as goal
use Rattle.rows.proofs.hold_of.Goals.{then-cb-ne0+else-y-sheet, else-cb-ne0}

pub loop-i-init : goal.loop-i-init
loop-i-init c = λ q bs rs ds. looking-none _ _ _ _

pub returns-then-y-sheet : goal.returns-then-y-sheet
returns-then-y-sheet c =
    rw c.get-d.ensures (λ q bs rs ds. looking-here (c.loop-i.invariant q bs rs ds) (omega (arith, c.requires)) c.if-cb-ne0.true c.if-y-sheet.true)

pub loop-i-preserved : goal.loop-i-preserved
loop-i-preserved c =
    let f = c.loop-i.invariant in
    elim c.if-cb-ne0.branch [
      | then-cb-ne0+else-y-sheet w ↦
          rw (w.a-is, w.ca-is) (λ q bs rs ds. looking-past (f q bs rs ds) (omega (arith, c.requires)) w.if-cb-ne0.true w.if-y-sheet.false)
      | else-cb-ne0 w ↦ rw (w.a-is, w.ca-is) (λ q bs rs ds. looking-skip (f q bs rs ds) (omega (arith, c.requires)) w.if-cb-ne0.false)
    ]

pub returns : goal.returns
returns c =
    let end : c.loop-i.i ≡ length c.args.sheet.now.heights.now = omega (arith, c.requires) in
    rw (c.get-d-2.ensures, c.requires) (λ q bs rs ds. looking-end (c.loop-i.invariant q bs rs ds) end)
