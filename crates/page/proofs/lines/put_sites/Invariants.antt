use Rattle.labelling.specs.Layout.{layout_ties}
use Rattle.decoding.specs.Decoding.{sheet_by}
use Rattle.text.proofs.Puts.{Left}
use Rattle.page.specs.Page.{site_line_of}
use Rattle.page.proofs.Texts.{sites_from}
use Rattle.page.proofs.lines.put_sites.Given as goal

abbrev pub invariant-loop-i : goal.invariant-loop-i
invariant-loop-i l =
    let o = l.opened in
    let f = site_line_of (sheet_by o.numbers) (layout_ties o.layout.now) in
    Left l.initial.page (sites_from f o.numbers.sites 0) l.page (sites_from f o.numbers.sites l.i)
