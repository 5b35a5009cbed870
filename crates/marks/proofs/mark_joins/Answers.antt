use mathlib.Core.Path.{ap, ◌∙◌, subst}
use Prim.Native.Nat.{ℕ}
use lib.Dec.{ltb}
use lib.ListN.{length}
use borrow.Author.Tests.{lt-ltb}
use Rattle.optimum.specs.OneSided.{top_word}
use Rattle.rows.specs.Rows.{strip_of}
use Rattle.rows.proofs.Places.{marked-lies}
use Rattle.arrays.proofs.Marks.{turn_low}
use Rattle.parts.specs.Parts.{Marked}
use Rattle.parts.proofs.Marking.{marking-join}
use Rattle.marks.proofs.mark_joins.Goals as goal

pub rise_cost-rises-requires : goal.rise_cost-rises-requires
rise_cost-rises-requires c =
    let v = c.args.level.now in (v.site_in, c.requires.1)

pub mark_own-requires : goal.mark_own-requires
mark_own-requires c =
    let p = c.requires in (p.0, rw c.risen_of-up.ensures (marked-lies _ _ _ (strip_of c.args.p) p.1 (turn_low _ _ _)))

pub fall_cost-falls-requires : goal.fall_cost-falls-requires
fall_cost-falls-requires c =
    let v = c.args.level.now in (v.site_in, c.requires.1)

pub mark_own-requires-2 : goal.mark_own-requires-2
mark_own-requires-2 c =
    let p = c.requires in
    (rw c.mark_own.auto.work p.0, rw c.fallen_of-down.ensures (marked-lies _ _ _ (strip_of c.args.p) p.1 (turn_low _ _ _)))

pub shape_of-work : goal.shape_of-work
shape_of-work c = c.mark_own-2.auto.work ∙ c.mark_own.auto.work

pub returns : goal.returns
returns c =
    let v = c.args.level.now in
    let g = v.sheet.now in
    let o = c.mark_own.ensures in
    let t = c.mark_own-2.ensures in (
      marking-join _ _ _ _ _ o.0 t.0,
      λ bs h. subst (Marked c.mark_own-2.new.work v.low (length g.heights.now) g.measures.colours g.measures.budgets) c.risen_of-up.ensures
          (t.0.kept _ (o.1 (ap (λ (z : ℕ). ltb z top_word) (c.rise_cost-rises.ensures bs) ∙ lt-ltb _ _ h))),
      λ bs h. subst (Marked c.mark_own-2.new.work v.low (length g.heights.now) g.measures.colours g.measures.budgets) c.fallen_of-down.ensures
          (t.1 (ap (λ (z : ℕ). ltb z top_word) (c.fall_cost-falls.ensures bs) ∙ lt-ltb _ _ h)),
    )
