use Rattle.judge.proofs.opened.Opening.{layout-read}
use Rattle.judge.proofs.Found.{left-found}
use Rattle.judge.proofs.opened.Opened.left_end.Goals as goal

pub returns : goal.returns
returns c =
    let o = c.args.self.now in
    left-found (layout-read o.sheet.now o.layout.now o.accepted o.read o.formed) c.sites.ensures c.args.slot c.left_end.ensures
