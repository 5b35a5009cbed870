use mathlib.Core.Path.{sym, ◌∙◌}
use Rattle.std.proofs.Common.{rules}
use Rattle.text.proofs.Puts.{filled}
use native.Mathlib.Omega.{arith}
use lib.ListN.{length}
use Rattle.std.proofs.lemmas.Result.{err_from_is_err_and}
use Rattle.judge.proofs.Tools.{stored-value, stored-area, short-value, short-area, fits-in, wrote-value, wrote-area}
use Rattle.page.specs.Page.{page_in, page_size}
use Rattle.page.proofs.Promise.{size_fits}
use Rattle.page.proofs.Writing.{states, area-found, page-put}
use Rattle.page.proofs.put_stored.Goals as goal

pub returns-in_err-opened-clause-value : goal.returns-in_err-opened-clause-value
returns-in_err-opened-clause-value c =
    let ws = c.args.stored.now in
    let p = err_from_is_err_and c.from_residual.result c.from_residual.ensures.1 in
    rw (p.1, p.2) (stored-value ws (page_size ws) (length c.args.page.now) (page_in ws) c.args.page.now _ c.in_err-opened.ensures.refusal)

pub returns-in_err-opened-clause-page_after : goal.returns-in_err-opened-clause-page_after
returns-in_err-opened-clause-page_after c =
    let ws = c.args.stored.now in
    stored-area ws (page_size ws) (length c.args.page.now) (page_in ws) c.args.page.now _ c.in_err-opened.ensures.refusal

pub page_size-requires : goal.page_size-requires
page_size-requires c =
    let o = c.in_ok-opened.opened in
    let e = c.in_ok-opened.ensures in
    states c.args.stored.now e.refusal o.numbers o.sheet.now o.layout.now o.read e.parts.0 e.parts.1

pub returns-in_err-area_fault-clause-value : goal.returns-in_err-area_fault-clause-value
returns-in_err-area_fault-clause-value c =
    let ws = c.args.stored.now in
    let o = c.in_ok-opened.opened in
    let e = c.in_ok-opened.ensures in
    let p = err_from_is_err_and c.from_residual-in_err-area_fault.result c.from_residual-in_err-area_fault.ensures.1 in
    rw (p.1, p.2) (short-value ws (page_size ws) (length c.args.page.now) (page_in ws) c.args.page.now e.refusal _ (area-found ws e.refusal o.numbers o.sheet.now o.layout.now o.read e.parts.0 e.parts.1 _ c.page_size.ensures c.in_err-area_fault.ensures))

pub returns-in_err-area_fault-clause-page_after : goal.returns-in_err-area_fault-clause-page_after
returns-in_err-area_fault-clause-page_after c =
    let ws = c.args.stored.now in
    let o = c.in_ok-opened.opened in
    let e = c.in_ok-opened.ensures in
    short-area ws (page_size ws) (length c.args.page.now) (page_in ws) c.args.page.now e.refusal _ (area-found ws e.refusal o.numbers o.sheet.now o.layout.now o.read e.parts.0 e.parts.1 _ c.page_size.ensures c.in_err-area_fault.ensures)

pub put_page-requires : goal.put_page-requires
put_page-requires c =
    let o = c.in_ok-opened.opened in
    let e = c.in_ok-opened.ensures in
    states c.args.stored.now e.refusal o.numbers o.sheet.now o.layout.now o.read e.parts.0 e.parts.1

pub overflow_cast-result : goal.overflow_cast-result
overflow_cast-result c =
    let ws = c.args.stored.now in
    let o = c.in_ok-opened.opened in
    let e = c.in_ok-opened.ensures in
    let text = filled c.new-text.ensures c.put_page.ensures in
    let lent = area-found ws e.refusal o.numbers o.sheet.now o.layout.now o.read e.parts.0 e.parts.1 _ c.page_size.ensures c.in_ok-area_fault.ensures in
    let t = page-put ws e.refusal o.numbers o.sheet.now o.layout.now o.read e.parts.0 e.parts.1 c.args.page.now (fits-in ws (page_size ws) (length c.args.page.now) (page_in ws) c.args.page.now e.refusal lent) (text.past, text.after) in
    omega (arith, c.past.ensures, t.0, size_fits ws (sym e.refusal))

pub returns-clause-value : goal.returns-clause-value
returns-clause-value c =
    let ws = c.args.stored.now in
    let o = c.in_ok-opened.opened in
    let e = c.in_ok-opened.ensures in
    let text = filled c.new-text.ensures c.put_page.ensures in
    let lent = area-found ws e.refusal o.numbers o.sheet.now o.layout.now o.read e.parts.0 e.parts.1 _ c.page_size.ensures c.in_ok-area_fault.ensures in
    let t = page-put ws e.refusal o.numbers o.sheet.now o.layout.now o.read e.parts.0 e.parts.1 c.args.page.now (fits-in ws (page_size ws) (length c.args.page.now) (page_in ws) c.args.page.now e.refusal lent) (text.past, text.after) in
    wrote-value ws (page_size ws) (length c.args.page.now) (page_in ws) c.args.page.now e.refusal lent _ (c.past.ensures ∙ t.0)

pub returns-clause-page_after : goal.returns-clause-page_after
returns-clause-page_after c =
    let ws = c.args.stored.now in
    let o = c.in_ok-opened.opened in
    let e = c.in_ok-opened.ensures in
    let text = filled c.new-text.ensures c.put_page.ensures in
    let same = text.same in
    let lent = area-found ws e.refusal o.numbers o.sheet.now o.layout.now o.read e.parts.0 e.parts.1 _ c.page_size.ensures c.in_ok-area_fault.ensures in
    let t = page-put ws e.refusal o.numbers o.sheet.now o.layout.now o.read e.parts.0 e.parts.1 c.args.page.now (fits-in ws (page_size ws) (length c.args.page.now) (page_in ws) c.args.page.now e.refusal lent) (text.past, text.after) in
    wrote-area ws (page_size ws) (length c.args.page.now) (page_in ws) c.args.page.now e.refusal lent (search rules ∙ t.1)
