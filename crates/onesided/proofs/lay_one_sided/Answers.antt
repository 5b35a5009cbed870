use Rattle.decoding.proofs.Fronts.{xs, ys, colours, stands}
use Rattle.onesided.proofs.Parts.{ranks, order-by, ranked-by, by-numbers}
use Rattle.onesided.proofs.lay_one_sided.Goals as goal

pub slice_bounds-xs-end : goal.slice_bounds-xs-end
slice_bounds-xs-end c = rw c.xs-xs.ensures (stands _ _ (xs c.requires.read).1)

pub slice_bounds-xs-end-2 : goal.slice_bounds-xs-end-2
slice_bounds-xs-end-2 c = rw c.xs-xs.ensures (xs c.requires.read).1

pub slice_bounds-ys-end : goal.slice_bounds-ys-end
slice_bounds-ys-end c = rw c.ys-ys.ensures (stands _ _ (ys c.requires.read).1)

pub slice_bounds-ys-end-2 : goal.slice_bounds-ys-end-2
slice_bounds-ys-end-2 c = rw c.ys-ys.ensures (ys c.requires.read).1

pub slice_bounds-ranks-end : goal.slice_bounds-ranks-end
slice_bounds-ranks-end c = stands _ _ (ranks c.requires.read (rw (c.xs-xs.ensures, c.ys-ys.ensures) at c.ranks_of-ranks.ensures)).1

pub slice_bounds-order_of-end : goal.slice_bounds-order_of-end
slice_bounds-order_of-end c = (ranks c.requires.read (rw (c.xs-xs.ensures, c.ys-ys.ensures) at c.ranks_of-ranks.ensures)).1

pub slice_bounds-order-end : goal.slice_bounds-order-end
slice_bounds-order-end c = stands _ _ (order-by c.requires.read (rw (c.xs-xs.ensures, c.ys-ys.ensures) at c.ranks_of-ranks.ensures) c.order_of-order.ensures).1

pub slice_bounds-order-end-2 : goal.slice_bounds-order-end-2
slice_bounds-order-end-2 c = (order-by c.requires.read (rw (c.xs-xs.ensures, c.ys-ys.ensures) at c.ranks_of-ranks.ensures) c.order_of-order.ensures).1

pub slice_bounds-site_colours-end : goal.slice_bounds-site_colours-end
slice_bounds-site_colours-end c = rw c.site_colours-site_colours.ensures (stands _ _ (colours c.requires.read).1)

pub slice_bounds-gathered_of-end : goal.slice_bounds-gathered_of-end
slice_bounds-gathered_of-end c = rw c.site_colours-site_colours.ensures (colours c.requires.read).1

pub slice_bounds-ranked_xs-end : goal.slice_bounds-ranked_xs-end
slice_bounds-ranked_xs-end c =
    let r = c.requires.read in
    stands _ _ (ranked-by r (rw (c.xs-xs.ensures, c.ys-ys.ensures) at c.ranks_of-ranks.ensures) c.order_of-order.ensures _ (xs r) (rw c.xs-xs.ensures at c.gathered_of-ranked_xs.ensures)).1

pub slice_bounds-lay_sites-end : goal.slice_bounds-lay_sites-end
slice_bounds-lay_sites-end c =
    let r = c.requires.read in
    (ranked-by r (rw (c.xs-xs.ensures, c.ys-ys.ensures) at c.ranks_of-ranks.ensures) c.order_of-order.ensures _ (xs r) (rw c.xs-xs.ensures at c.gathered_of-ranked_xs.ensures)).1

pub slice_bounds-ranked_ys-end : goal.slice_bounds-ranked_ys-end
slice_bounds-ranked_ys-end c =
    let r = c.requires.read in
    stands _ _ (ranked-by r (rw (c.xs-xs.ensures, c.ys-ys.ensures) at c.ranks_of-ranks.ensures) c.order_of-order.ensures _ (ys r) (rw c.ys-ys.ensures at c.gathered_of-ranked_ys.ensures)).1

pub slice_bounds-lay_sites-end-2 : goal.slice_bounds-lay_sites-end-2
slice_bounds-lay_sites-end-2 c =
    let r = c.requires.read in
    (ranked-by r (rw (c.xs-xs.ensures, c.ys-ys.ensures) at c.ranks_of-ranks.ensures) c.order_of-order.ensures _ (ys r) (rw c.ys-ys.ensures at c.gathered_of-ranked_ys.ensures)).1

pub slice_bounds-ranked_colours-end : goal.slice_bounds-ranked_colours-end
slice_bounds-ranked_colours-end c =
    let r = c.requires.read in
    stands _ _ (ranked-by r (rw (c.xs-xs.ensures, c.ys-ys.ensures) at c.ranks_of-ranks.ensures) c.order_of-order.ensures _ (colours r) (rw c.site_colours-site_colours.ensures at c.gathered_of-ranked_colours.ensures)).1

pub slice_bounds-lay_sites-end-3 : goal.slice_bounds-lay_sites-end-3
slice_bounds-lay_sites-end-3 c =
    let r = c.requires.read in
    (ranked-by r (rw (c.xs-xs.ensures, c.ys-ys.ensures) at c.ranks_of-ranks.ensures) c.order_of-order.ensures _ (colours r) (rw c.site_colours-site_colours.ensures at c.gathered_of-ranked_colours.ensures)).1

pub lay_sites-requires : goal.lay_sites-requires
lay_sites-requires c =
    let r = c.requires.read in
    let x = rw (c.xs-xs.ensures, c.ys-ys.ensures) at c.ranks_of-ranks.ensures in
    let y = c.order_of-order.ensures in
    record {
      takes_one_sided = c.requires;
      ranked_sites = by-numbers r
          (record {
            xs_is = (ranked-by r x y _ (xs r) (rw c.xs-xs.ensures at c.gathered_of-ranked_xs.ensures)).0;
            ys_is = (ranked-by r x y _ (ys r) (rw c.ys-ys.ensures at c.gathered_of-ranked_ys.ensures)).0;
            colours_is = (ranked-by r x y _ (colours r) (rw c.site_colours-site_colours.ensures at c.gathered_of-ranked_colours.ensures)).0;
            order_is = (order-by r x y).0;
          });
    }
