use Rattle.rows.specs.Rows.{strip_of, point_of}
use Rattle.strips.proofs.Windows.{window-of}
use Rattle.strips.proofs.open_window.Goals as goal

pub returns : goal.returns
returns c = let s = c.args.sheet.now in
    window-of s.measures s.heights.now s.of_sheet.rising (strip_of c.args.p) (point_of c.args.s) _ c.requires.1 c.first_far-from.ensures c.far_end-to.ensures
