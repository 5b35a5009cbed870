use mathlib.Core.List.{List}
use mathlib.Core.Path.{ap, ap₂, refl, sym, ◌∙◌}
use Prim.Native.Nat.{ℕ}
use lib.ListN.{length}
use Rattle.sheet.specs.Sheet.{Sheet, sheet_in}
use Rattle.labelling.specs.Layout.{length_of, first_word, stated_count, layout_ties}
use Rattle.labelling.specs.Twin.{as_one_sided}
use Rattle.decoding.specs.declared.Numbers.{Numbers}
use Rattle.judge.proofs.Found.{sheet-found}
use Rattle.twin.proofs.Stored.{two-words}
use Rattle.twin.proofs.writing.write_words.Goals as goal

pub returns : goal.returns
returns c =
    let ws = c.args.stored.now in
    let o = c.args.opened.now in
    let p = c.requires.parts in
    two-words ws c.requires.lawful _ _ _ c.args.out.now _ _
    (sym (ap (λ (d : Numbers). d.head.twosided) o.read ∙ ap (λ (l : List ℕ). (sheet_in l).is_two_sided) p.0) ∙ c.if-not-opened.false)
    c.twin_head.ensures
    (c.twin_first-first.ensures ∙ ap₂ (λ (t : Sheet) (l : List ℕ). first_word (stated_count l) (length_of (as_one_sided t) (layout_ties l))) (sheet-found o.sheet.now ws o.read p.0) p.1)
    (ap length p.0) c.copy.ensures refl
