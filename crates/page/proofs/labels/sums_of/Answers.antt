use mathlib.Core.Path.{refl, ◌∙◌}
use native.Mathlib.Omega.{arith}
use Rattle.decoding.specs.Decoding.{site_colours_in, ys_in}
use Rattle.labelling.specs.Layout.{ties_in}
use Rattle.page.proofs.Counting.{sums_none, sums-more, room}
use Rattle.page.proofs.labels.sums_of.Goals as goal

pub loop-i-init : goal.loop-i-init
loop-i-init c =
    let s = c.args.sites.now in
    sums_none s.head c.args.slot s.heights.now (ys_in s.sites.now) (site_colours_in s.sites.now) (ties_in s.ties.now)

pub with_site-sums-requires : goal.with_site-sums-requires
with_site-sums-requires c =
    let s = c.args.sites.now in
    let l = c.loop-i in
    room s.head c.args.slot s.heights.now (ys_in s.sites.now) (site_colours_in s.sites.now) (ties_in s.ties.now) s.low l.i
    (omega (arith, c.loop-i-test.true, s.fits.few)) l.invariant
    c.slot_at-at.ensures c.get.ensures (rw c.site_at-site.ensures.y at c.site_share-share.ensures)

pub loop-i-preserved : goal.loop-i-preserved
loop-i-preserved c =
    let s = c.args.sites.now in
    let l = c.loop-i in
    (rw c.site_at-site.ensures.colour at c.with_site-sums.ensures) ∙ sums-more s.head c.args.slot s.heights.now (ys_in s.sites.now) (site_colours_in s.sites.now) (ties_in s.ties.now) l.i l.invariant
    c.slot_at-at.ensures refl c.get.ensures (rw c.site_at-site.ensures.y at c.site_share-share.ensures)
