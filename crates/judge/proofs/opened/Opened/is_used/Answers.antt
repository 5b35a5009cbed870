use Rattle.judge.proofs.Found.{used-found}
use Rattle.judge.proofs.opened.Opened.is_used.Goals as goal

pub returns : goal.returns
returns c = used-found c.args.self.now.layout.now c.args.slot c.sites-sites.ensures.ties c.is_taken.ensures c.count.ensures
