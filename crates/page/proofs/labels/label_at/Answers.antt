use Rattle.judge.proofs.opened.Opening.{layout-read}
use Rattle.page.proofs.Counting.{length-room}
use Rattle.page.proofs.labels.label_at.Goals as goal

pub own_length-requires : goal.own_length-requires
own_length-requires c =
    let o = c.args.opened.now in
    length-room (layout-read o.sheet.now o.layout.now o.accepted o.read o.formed) c.args.slot c.sums_at-sums.ensures
