use Rattle.lists.proofs.Tests.{clash}
use Rattle.rows.proofs.Levels.{level-fits}
use Rattle.parts.proofs.Marking.{marking-none, own-within, own-marking, own-marked}
use mathlib.Core.Path.{refl, ap}
use Prim.Native.Nat.{ℕ, ◌+◌}
use native.Mathlib.Omega.{arith}
use Rattle.marks.proofs.mark_own.Goals as goal

pub returns-then-not-stays : goal.returns-then-not-stays
returns-then-not-stays c = (marking-none _ _ _, λ e. clash e c.if-not-stays.true)

pub row_place-requires : goal.row_place-requires
row_place-requires c =
    c.requires.1

pub overflow_add-at : goal.overflow_add-at
overflow_add-at c =
    let p = c.requires in
    omega (arith, c.row_place.ensures, own-within (level-fits c.args.sheet.now.of_sheet p.0) _ p.1)

pub offset_bounds-work-at : goal.offset_bounds-work-at
offset_bounds-work-at c =
    let p = c.requires in
    omega (arith, c.row_place.ensures, own-within (level-fits c.args.sheet.now.of_sheet p.0) _ p.1)

pub bounds-work-at : goal.bounds-work-at
bounds-work-at c =
    let p = c.requires in
    omega (arith, c.row_place.ensures, own-within (level-fits c.args.sheet.now.of_sheet p.0) _ p.1)

pub returns : goal.returns
returns c =
    let p = c.requires in
    let e = ap (λ (z : ℕ). c.args.low + z) c.row_place.ensures in
    let w = c.args.work.now in
    let f = level-fits c.args.sheet.now.of_sheet p.0 in
    (own-marking f _ p.1 w _ refl e, λ s. own-marked f _ p.1 w _ refl e)
