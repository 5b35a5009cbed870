use mathlib.Core.List.{[]}
use mathlib.Core.Path.{◌≡◌, ap, refl, ◌∙◌}
use native.Mathlib.Omega.{arith}
use lib.ListN.{drop, drop_of_length-le, get_or}
use Rattle.lists.proofs.Grown.{grown-more, grown-end, grown-length}
use Rattle.sheet.specs.Sheet.{slots_in}
use Rattle.sheet.proofs.Counts.{slots-count}
use Rattle.decoding.proofs.Fields.{grown-within, slot-next, slot-none, kind-is, kind-not}
use Rattle.decoding.proofs.take_heights.Goals as goal
use Rattle.decoding.proofs.take_heights.Goals.{then-is_kind, else-is_kind}

pub bounds-heights-slots : goal.bounds-heights-slots
bounds-heights-slots c = let s = c.args.body.now in
    let l = c.loop-w in
    let next = slot-next s l.w-index 0 c.loop-w-test.true (kind-is (get_or s l.w-index 0) 2 c.is_kind.ensures c.if-is_kind.true) in
    omega (arith, l.invariant.long, grown-within _ _ _ _ _ _ _ l.invariant (omega (arith, slots-count s, c.requires)) next)

pub loop-w-preserved : goal.loop-w-preserved
loop-w-preserved c = let s = c.args.body.now in
    let l = c.loop-w in
    let t = c.loop-w-test.true in
    let word = get_or s l.w-index 0 in
    elim c.if-is_kind.branch [
      | then-is_kind w ↦
          let next = slot-next s l.w-index 0 t (kind-is word 2 c.is_kind.ensures w.if-is_kind.true) in
          rw (w.heights-is, w.slots-is, w.low_field.ensures) (grown-more _ _ _ _ _ _ _ (grown-within _ _ _ _ _ _ _ l.invariant (omega (arith, slots-count s, c.requires)) next) next l.invariant)
      | else-is_kind w ↦
          let none = slot-none s l.w-index 0 t (kind-not word 2 c.is_kind.ensures w.if-is_kind.false) in
          rw (w.heights-is, w.slots-is) (rw none at l.invariant)
    ]

pub returns : goal.returns
returns c = let s = c.args.body.now in
    let l = c.loop-w in
    let none : slots_in (drop l.w-index s) ≡ [] = ap slots_in (drop_of_length-le s c.loop-w-test.false) ∙ unfold slots_in in refl in
    record { count = grown-length _ _ _ _ _ none l.invariant; filled = grown-end _ _ _ _ _ none l.invariant }
