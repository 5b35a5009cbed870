use mathlib.Core.List.{List}
use mathlib.Core.Path.{◌≡◌, ap, sym, ◌∙◌}
use Prim.Native.Nat.{ℕ}
use lib.ListN.{length}
use Rattle.sheet.specs.Limits.{most_sites}
use Rattle.sheet.specs.Sheet.{Sheet, sheet_in}
use Rattle.decoding.specs.Decoding.{numbers_by, colours_of, site_colours_in}
use Rattle.decoding.specs.declared.Numbers.{Numbers}
use Rattle.decoding.proofs.Fields.{colours-long}
use Rattle.decoding.proofs.Records.{site-colours-array}
use Rattle.decoding.proofs.Fronts.{IsFront, part, stands}
use Rattle.report.specs.Lines.{layout_text_by}
use Rattle.report.proofs.LinesPut.{text-by}
use Rattle.backbones.proofs.put_answer.Goals as goal

-- the colours of a sheet's sites, as its numbers have them
shown : (s : Sheet) {d : Numbers} → d ≡ numbers_by s → IsFront (site_colours_in d.site_list) d.sites (colours_of s.sites)
shown s {d} e =
    let n : d.sites ≡ length (colours_of s.sites) = ap (λ (z : Numbers). z.sites) e ∙ sym (colours-long s.sites) in
    part most_sites (colours_of s.sites) (site_colours_in d.site_list) d.sites (ap (λ (z : Numbers). site_colours_in z.site_list) e ∙ site-colours-array s.sites) n

pub slice_bounds-colours-end : goal.slice_bounds-colours-end
slice_bounds-colours-end c = rw c.site_colours-colours.ensures (stands _ _ (shown (sheet_in c.args.sheet.now) c.numbers_of-numbers.ensures).1)

pub slice_bounds-put_layout-end : goal.slice_bounds-put_layout-end
slice_bounds-put_layout-end c = rw c.site_colours-colours.ensures (shown (sheet_in c.args.sheet.now) c.numbers_of-numbers.ensures).1

pub returns : goal.returns
returns c =
    let s = sheet_in c.args.sheet.now in
    let e = ap (λ (cs : List ℕ). layout_text_by cs c.args.answer.now) (shown s c.numbers_of-numbers.ensures).0 ∙ text-by s c.args.answer.now in
    rw (← e) (rw c.site_colours-colours.ensures at c.put_layout.ensures)
