use mathlib.Core.List.{List, [], map}
use mathlib.Core.Path.{◌≡◌, ap, refl, ◌∙◌}
use Prim.Native.Nat.{ℕ, ◌+◌}
use native.Mathlib.Omega.{arith}
use lib.ListN.{drop, length-map, drop_of_length-le, get_or}
use Rattle.lists.proofs.Grown.{grown-more, grown-end, grown-length}
use Rattle.sheet.specs.Sheet.{colours_in}
use Rattle.sheet.proofs.Counts.{run_at, colours-count}
use Rattle.decoding.specs.Decoding.{colour_numbers}
use Rattle.decoding.proofs.Fields.{grown-within, colour-next, colour-put, colour-none, kind-is, kind-not}
use Rattle.decoding.proofs.take_colours.Goals as goal
use Rattle.decoding.proofs.take_colours.Goals.{then-is_kind, else-is_kind}

pub overflow_cast-colours : goal.overflow_cast-colours
overflow_cast-colours c = omega (arith, c.sites_run.ensures, run_at c.args.body.now (c.loop-place.place + 1), c.requires.few_sites)

pub bounds-colours-kinds : goal.bounds-colours-kinds
bounds-colours-kinds c = let s = c.args.body.now in
    let l = c.loop-place in
    let next = colour-next s l.place 0 c.loop-place-test.true (kind-is (get_or s l.place 0) 3 c.is_kind.ensures c.if-is_kind.true) in
    omega (arith, l.invariant.long, grown-within _ _ _ _ _ _ _ l.invariant (omega (arith, length-map (colours_in s) colour_numbers, colours-count s, c.requires.fit)) (ap (map colour_numbers) next))

pub loop-place-preserved : goal.loop-place-preserved
loop-place-preserved c = let s = c.args.body.now in
    let l = c.loop-place in
    let t = c.loop-place-test.true in
    let word = get_or s l.place 0 in
    elim c.if-is_kind.branch [
      | then-is_kind w ↦
          let k = kind-is word 3 c.is_kind.ensures w.if-is_kind.true in
          let room = grown-within _ _ _ _ _ _ _ l.invariant (omega (arith, length-map (colours_in s) colour_numbers, colours-count s, c.requires.fit)) (ap (map colour_numbers) (colour-next s l.place 0 t k)) in
          rw (w.colours-is, w.kinds-is) (grown-more _ _ _ _ _ _ _ room (colour-put s l.place 0 t k _ _ (omega (arith, w.byte_field.ensures)) w.sites_run.ensures) l.invariant)
      | else-is_kind w ↦
          let none = ap (map colour_numbers) (colour-none s l.place 0 t (kind-not word 3 c.is_kind.ensures w.if-is_kind.false)) in
          rw (w.colours-is, w.kinds-is) (rw none at l.invariant)
    ]

pub returns : goal.returns
returns c = let s = c.args.body.now in
    let l = c.loop-place in
    let none : map colour_numbers (colours_in (drop l.place s)) ≡ [] = ap (λ (r : List ℕ). map colour_numbers (colours_in r)) (drop_of_length-le s c.loop-place-test.false) ∙ unfold colours_in in refl in
    let long = length-map (colours_in s) colour_numbers in
    record { count = grown-length _ _ _ _ _ none l.invariant ∙ long; filled = rw long at (grown-end _ _ _ _ _ none l.invariant) }
