use Rattle.lists.proofs.Places.{part-from}
use Rattle.labelling.specs.Layout.{ties_at}
use Rattle.layouts.proofs.Fitting.{fits_read, low_read}
use Rattle.judge.proofs.opened.Opening.{layout-read}
use Rattle.judge.proofs.opened.Opened.sites.Goals as goal

pub invariant_of-result : goal.invariant_of-result
invariant_of-result c =
    let o = c.args.self.now in
    let p = layout-read o.sheet.now o.layout.now o.accepted o.read o.formed in
    record { fits = fits_read p _ (part-from o.layout.now ties_at); low = low_read p }
