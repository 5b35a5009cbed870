use mathlib.Core.Path.{ap, ◌∙◌}
use mathlib.Core.List.{List}
use Prim.Native.Nat.{ℕ, ◌+◌}
use native.Mathlib.Omega.{arith}
use lib.ListN.{length, get_or}
use Rattle.rows.proofs.Folding.{strip_lies, row_inside, folding-skip, folding-join, folding-all}
use Rattle.rows.proofs.rest.fold_rows.Goals as goal
use Rattle.rows.proofs.rest.fold_rows.Goals.{then-cb-ne0, else-cb-ne0}

pub place_of-requires : goal.place_of-requires
place_of-requires c =
    let p = c.requires.level_in in
    let l = c.loop-i in
    let lies = strip_lies p l.invariant (l.i + 1) (get_or c.args.labels.now l.i 0) (omega arith) (omega (arith, p.coloured l.i)) c.get-d.ensures in
    record { few = (p.few_slots, p.few_colours, c.args.splits.within.few); lies = lies }

pub overflow_add-row : goal.overflow_add-row
overflow_add-row c =
    let p = c.requires.level_in in
    let l = c.loop-i in
    omega (arith, row_inside p l.invariant (l.i + 1) (get_or c.args.labels.now l.i 0) (omega arith) (omega (arith, p.coloured l.i)) c.get-d.ensures c.place_of.ensures)

pub join_row-requires : goal.join_row-requires
join_row-requires c =
    let p = c.requires.level_in in
    let l = c.loop-i in
    let inside = row_inside p l.invariant (l.i + 1) (get_or c.args.labels.now l.i 0) (omega arith) (omega (arith, p.coloured l.i)) c.get-d.ensures c.place_of.ensures in
    (omega (arith, l.invariant.long), omega (arith, l.invariant.long, inside))

pub loop-i-preserved : goal.loop-i-preserved
loop-i-preserved c =
    let f = c.loop-i.invariant in
    let p = c.requires.level_in in
    elim c.if-cb-ne0.branch [
      | then-cb-ne0 w ↦
          rw (w.acc-is, w.a-is, w.ca-is, w.join_row.ensures, w.place_of.ensures, w.get-d.ensures)
          (folding-join f c.loop-i-test.true w.if-cb-ne0.true (omega (arith, p.coloured c.loop-i.i)))
      | else-cb-ne0 w ↦ rw (w.acc-is, w.a-is, w.ca-is) (folding-skip f c.loop-i-test.true w.if-cb-ne0.false)
    ]

pub place_of-requires-2 : goal.place_of-requires-2
place_of-requires-2 c =
    let p = c.requires.level_in in
    let lies = strip_lies p c.loop-i.invariant (length c.args.labels.now + 1) 0 (omega arith) (omega arith) c.get-d-2.ensures in
    record { few = (p.few_slots, p.few_colours, c.args.splits.within.few); lies = lies }

pub overflow_add-row-2 : goal.overflow_add-row-2
overflow_add-row-2 c =
    omega (arith, row_inside c.requires.level_in c.loop-i.invariant (length c.args.labels.now + 1) 0 (omega arith) (omega arith) c.get-d-2.ensures c.place_of-2.ensures)

pub join_row-requires-2 : goal.join_row-requires-2
join_row-requires-2 c =
    let l = c.loop-i in
    let inside = row_inside c.requires.level_in l.invariant (length c.args.labels.now + 1) 0 (omega arith) (omega arith) c.get-d-2.ensures c.place_of-2.ensures in
    (omega (arith, l.invariant.long), omega (arith, l.invariant.long, inside))

pub returns : goal.returns
returns c =
    let e = rw (c.place_of-2.ensures, c.get-d-2.ensures) at c.join_row-2.ensures in
    ap (λ (l : List ℕ). get_or l c.args.v 0) (e ∙ folding-all c.loop-i.invariant c.loop-i-test.false)
