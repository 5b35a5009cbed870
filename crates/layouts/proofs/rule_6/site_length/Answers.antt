use Rattle.decoding.specs.Decoding.{xs_in, ys_in}
use Rattle.labelling.specs.Layout.{ties_in}
use Rattle.layouts.proofs.Loops.{share-low}
use native.Mathlib.Omega.{arith}
use lib.ListN.{length}
use Rattle.layouts.proofs.rule_6.site_length.Goals as goal

pub overflow_add-result : goal.overflow_add-result
overflow_add-result c =
    let s = c.args.sites.now in
    omega (arith, share-low s.head s.heights.now (xs_in s.sites.now) (ys_in s.sites.now) (ties_in s.ties.now) (length s.ties.now) c.args.i c.slot_at-slot.ensures c.get.ensures (rw c.site_at.ensures.y at c.site_share-share.ensures) s.low, s.low.width, c.saturating_sub.ensures)
