use Rattle.rows.specs.Rows.{strip_of, point_of}
use Rattle.rows.proofs.Levels.{level-fits}
use Rattle.parts.proofs.Marking.{parts-cost}
use Rattle.parts.proofs.parts_cost.Goals as goal

pub returns : goal.returns
returns c =
    let a = c.args in
    let e = c.part_places-upper.ensures.places in
    let r = c.requires.level_fits in
    let l = c.requires.c_lt_colours in
    parts-cost (level-fits a.sheet.now.of_sheet r.0) (strip_of a.p) (point_of a.s) a.k a.d r.1 l.0 l.1 l.2 _ _ e.0 e.1 a.work.now _ c.plus_of.ensures
