use mathlib.Core.Path.{refl}
use Rattle.lists.proofs.Arrays.{padded-of}
use Rattle.sheet.specs.Limits.{most_slots}
use Rattle.sheet.specs.Sheet.{slots_in, colours_in, sites_in}
use Rattle.decoding.proofs.Fits.{slots-fit, colours-fit, sites-fit}
use Rattle.decoding.proofs.Records.{colour-end, site-end}
use Rattle.decoding.proofs.numbers_of.Goals as goal

pub take_heights-slots-requires : goal.take_heights-slots-requires
take_heights-slots-requires c = rw c.body_of-body.ensures (slots-fit c.args.sheet.now c.requires)

pub take_colours-kinds-requires : goal.take_colours-kinds-requires
take_colours-kinds-requires c =
    let ws = c.args.sheet.now in
    record { fit = rw c.body_of-body.ensures (colours-fit ws c.requires); few_sites = rw c.body_of-body.ensures (sites-fit ws c.requires) }

pub take_sites-sites-requires : goal.take_sites-sites-requires
take_sites-sites-requires c =
    let ws = c.args.sheet.now in
    record { fit = rw c.body_of-body.ensures (sites-fit ws c.requires); few_colours = rw c.body_of-body.ensures (colours-fit ws c.requires) }

pub returns : goal.returns
returns c =
    let b = c.body_of-body.result.now in
    let h = c.take_heights-slots.ensures in
    let k = c.take_colours-kinds.ensures in
    let s = c.take_sites-sites.ensures in
    rw (h.count, k.count, s.count, c.head_of.ensures, h.filled, k.filled, s.filled, padded-of (slots_in b) (slots_in b) most_slots _ refl refl, colour-end (colours_in b), site-end (sites_in 0 b), c.body_of-body.ensures) refl
