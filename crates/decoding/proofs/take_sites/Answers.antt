use mathlib.Core.List.{List, [], map}
use mathlib.Core.Path.{◌≡◌, ap, refl, ◌∙◌}
use Prim.Native.Nat.{ℕ}
use native.Mathlib.Omega.{arith}
use lib.ListN.{drop, length-map, drop_of_length-le, get_or}
use Rattle.lists.proofs.Grown.{grown-more, grown-end, grown-length}
use Rattle.sheet.specs.Sheet.{sites_in}
use Rattle.sheet.proofs.Counts.{sites-count}
use Rattle.decoding.specs.Decoding.{site_numbers}
use Rattle.decoding.proofs.Fields.{grown-within, colour-came, site-came, other-came, kind-is, kind-not}
use Rattle.decoding.proofs.take_sites.Goals as goal
use Rattle.decoding.proofs.take_sites.Goals.{then-is_kind, else-is_kind+then-is_kind-2, else-is_kind+else-is_kind-2}

pub bounds-list-sites : goal.bounds-list-sites
bounds-list-sites c = let s = c.args.body.now in
    let l = c.loop-w in
    let came = site-came s l.w-index l.colours c.loop-w-test.true (kind-is (get_or s l.w-index 0) 4 c.is_kind-else-is_kind.ensures c.if-is_kind-2.true) in
    omega (arith, l.invariant.1.long, grown-within _ _ _ _ _ _ _ l.invariant.1 (omega (arith, length-map (sites_in 0 s) site_numbers, sites-count 0 s, c.requires.fit)) (ap (map site_numbers) came.0))

pub loop-w-preserved : goal.loop-w-preserved
loop-w-preserved c = let s = c.args.body.now in
    let l = c.loop-w in
    let t = c.loop-w-test.true in
    let word = get_or s l.w-index 0 in
    elim c.if-is_kind.branch [
      | then-is_kind w ↦
          let came = colour-came s l.w-index l.colours t (kind-is word 3 c.is_kind.ensures w.if-is_kind.true) in
          (omega (arith, came.1), rw (w.list-is, w.colours-is, w.sites-is) (rw came.0 at l.invariant.1))
      | else-is_kind+then-is_kind-2 w ↦
          let came = site-came s l.w-index l.colours t (kind-is word 4 w.is_kind-else-is_kind.ensures w.if-is_kind-2.true) in
          let next = ap (map site_numbers) came.0 in (
            omega (arith, came.1),
            rw (w.list-is, w.colours-is, w.sites-is, w.high_field.ensures, w.low_field.ensures, w.saturating_sub.ensures)
                (grown-more _ _ _ _ _ _ _ (grown-within _ _ _ _ _ _ _ l.invariant.1 (omega (arith, length-map (sites_in 0 s) site_numbers, sites-count 0 s, c.requires.fit)) next) next l.invariant.1),
          )
      | else-is_kind+else-is_kind-2 w ↦
          let came = other-came s l.w-index l.colours t (kind-not word 3 c.is_kind.ensures w.if-is_kind.false) (kind-not word 4 w.is_kind-else-is_kind.ensures w.if-is_kind-2.false) in
          (omega (arith, came.1), rw (w.list-is, w.colours-is, w.sites-is) (rw came.0 at l.invariant.1))
    ]

pub returns : goal.returns
returns c = let s = c.args.body.now in
    let l = c.loop-w in
    let none : map site_numbers (sites_in l.colours (drop l.w-index s)) ≡ [] = ap (λ (r : List ℕ). map site_numbers (sites_in l.colours r)) (drop_of_length-le s c.loop-w-test.false) ∙ unfold sites_in in refl in
    let long = length-map (sites_in 0 s) site_numbers in
    record { count = grown-length _ _ _ _ _ none l.invariant.1 ∙ long; filled = rw long at (grown-end _ _ _ _ _ none l.invariant.1) }
