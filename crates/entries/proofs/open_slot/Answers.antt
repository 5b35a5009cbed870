use mathlib.Core.Path.{◌≡◌, refl, ap, sym, ◌∙◌}
use Prim.Native.Nat.{ℕ, ◌+◌, ◌*◌, min}
use native.Mathlib.Omega.{arith}
use lib.ListN.{length, get_or}
use Rattle.optimum.specs.Strips.{Strip}
use Rattle.arrays.specs.Arrays.{turn_by}
use Rattle.arrays.proofs.Marks.{turn_low}
use Rattle.rows.specs.Rows.{strip_of, point_of, row_of, row_in, upper_part, lower_part}
use Rattle.rows.specs.Level.{slots_in, colours_in, budgets_in}
use Rattle.strips.specs.Strips.{open_cost}
use Rattle.entries.specs.declared.filling.Filling.{Filling}
use Rattle.entries.specs.Entries.{RowFits, LeavesGap, PartsFit}
use Rattle.entries.specs.Filled.{filled_at}
use Rattle.entries.proofs.Places.{parts-fit, last-in, filled-ready}
use Rattle.entries.proofs.Terms.{slot-none, slot-barred, slot-open}
use Rattle.entries.proofs.open_slot.Goals as goal

module _ (f : Filling) (base : ℕ) {p : Strip} {area : ℕ} (r : RowFits (filled_at f base) p area) (k : ℕ) (gap : LeavesGap (filled_at f base) p k) where
  -- what the list says of the slot is what a label costs there
  cost-at : get_or f.opening.now k 0 ≡ open_cost f.level.sheet.now.measures f.level.sheet.now.heights.now (point_of f.level.site) k
  cost-at = f.opening_listed.costs k (omega (arith, r.lies.b_low, gap.0))

  -- the rows of both parts stand in the area, where d is the mark of the upper
  places-fit : {d upper lower : ℕ} → d ≡ turn_by f.level.sheet.now.heights.now (point_of f.level.site) k
      → (upper ≡ f.level.low + row_of (slots_in (filled_at f base)) (colours_in (filled_at f base)) (upper_part d p (point_of f.level.site) k) * budgets_in (filled_at f base))
      × (lower ≡ f.level.low + row_of (slots_in (filled_at f base)) (colours_in (filled_at f base)) (lower_part p (point_of f.level.site) k) * budgets_in (filled_at f base))
      → PartsFit (budgets_in (filled_at f base)) base area upper lower
  places-fit {d} e at = parts-fit (filled-ready f r) p k d r.lies gap.0 (rw e (turn_low _ _ _)) _ _ at.0 at.1

pub returns-then-cost : goal.returns-then-cost
returns-then-cost c =
    let a = c.args in
    let f = a.filling.now in
    let g = f.level.sheet.now in
    let e = cost-at f a.base c.requires.0 a.k c.requires.1 in
    let row = row_in a.work.now f.level.low (length g.heights.now) g.measures.colours g.measures.budgets in (
      record { before = λ i h. refl; after = λ i h. refl },
      λ v h. omega (
        arith,
        slot-barred g.measures g.heights.now g.splits.parts.now g.splits.counts.now f.left.now row (strip_of a.p) (point_of f.level.site) a.k v
            (sym e ∙ c.if-cost.true),
        c.slice_known-1.given (a.base + v),
      ),
    )

pub part_places-at-requires : goal.part_places-at-requires
part_places-at-requires c =
    let p = c.requires in
    let f = c.args.filling.now in
    record {
      level_fits = omega (arith, p.0.within, c.ranges);
      lies = (p.0.lies, f.level.site_in.colour_low, p.1.0, rw c.turn_at-turn.ensures (turn_low _ _ _));
    }

pub overflow_add-upper : goal.overflow_add-upper
overflow_add-upper c =
    omega (arith, (places-fit c.args.filling.now c.args.base c.requires.0 _ c.requires.1 c.turn_at-turn.ensures c.part_places-at.ensures.places).upper_in)

pub offset_bounds-work-upper : goal.offset_bounds-work-upper
offset_bounds-work-upper c =
    omega (arith, (places-fit c.args.filling.now c.args.base c.requires.0 _ c.requires.1 c.turn_at-turn.ensures c.part_places-at.ensures.places).upper_in)

pub bounds-work-upper : goal.bounds-work-upper
bounds-work-upper c =
    let f = places-fit c.args.filling.now c.args.base c.requires.0 _ c.requires.1 c.turn_at-turn.ensures c.part_places-at.ensures.places in
    last-in _ _ _ f.some f.upper_in

pub overflow_add-lower : goal.overflow_add-lower
overflow_add-lower c =
    omega (arith, (places-fit c.args.filling.now c.args.base c.requires.0 _ c.requires.1 c.turn_at-turn.ensures c.part_places-at.ensures.places).lower_in)

pub offset_bounds-work-lower : goal.offset_bounds-work-lower
offset_bounds-work-lower c =
    omega (arith, (places-fit c.args.filling.now c.args.base c.requires.0 _ c.requires.1 c.turn_at-turn.ensures c.part_places-at.ensures.places).lower_in)

pub bounds-work-lower : goal.bounds-work-lower
bounds-work-lower c =
    let f = places-fit c.args.filling.now c.args.base c.requires.0 _ c.requires.1 c.turn_at-turn.ensures c.part_places-at.ensures.places in
    last-in _ _ _ f.some f.lower_in

pub returns-then-work-upper : goal.returns-then-work-upper
returns-then-work-upper c =
    let a = c.args in
    let f = a.filling.now in
    let g = f.level.sheet.now in
    let at = rw c.turn_at-turn.ensures at c.part_places-at.ensures.places in (
      record { before = λ i h. refl; after = λ i h. refl },
      λ v h. slot-none g.measures g.heights.now g.splits.parts.now g.splits.counts.now f.left.now a.work.now f.level.low
          (strip_of a.p) (point_of f.level.site) a.k v _ _ _
          (omega (arith, c.slice_known-1.given (a.base + v))) c.requires.1.1 at.0 at.1
          c.if-work-upper.true,
    )

pub open_row-requires : goal.open_row-requires
open_row-requires c =
    let f = c.args.filling.now in
    (omega (arith, f.level.sheet.now.all_listed), places-fit f c.args.base c.requires.0 _ c.requires.1 c.turn_at-turn.ensures c.part_places-at.ensures.places, f.left_long)

pub returns : goal.returns
returns c =
    let a = c.args in
    let f = a.filling.now in
    let g = f.level.sheet.now in
    let o = c.open_row.ensures in
    let e = cost-at f a.base c.requires.0 a.k c.requires.1 in
    let at = rw c.turn_at-turn.ensures at c.part_places-at.ensures.places in (
      o.0,
      λ v h. o.1 v h ∙ ap (min (get_or a.work.now (a.base + v) 0))
          (slot-open g.measures g.heights.now g.splits.parts.now g.splits.counts.now f.left.now a.work.now f.level.low
          (strip_of a.p) (point_of f.level.site) a.k v _ _ _
          c.requires.1.1 e at.0 at.1 c.if-work-upper.false),
    )
