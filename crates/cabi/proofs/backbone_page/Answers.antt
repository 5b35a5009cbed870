use Rattle.demands.specs.Demands.{WasPaged}
use Rattle.demands.proofs.Page.{served-by-page}
use Rattle.cabi.proofs.backbone_page.Goals as goal

pub returns-clause-served_by_page : goal.returns-clause-served_by_page
returns-clause-served_by_page c =
    let a = c.args in
    let f = c.write_page in
    let m : WasPaged a.stored.now a.page.now f.result f.new.page = (f.ensures.value, f.ensures.page_after) in
    served-by-page a.stored.now a.page.now f.result f.new.page m
