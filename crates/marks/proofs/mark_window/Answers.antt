use mathlib.Core.Path.{refl, sym, ap, ◌∙◌}
use native.Mathlib.Omega.{arith}
use Rattle.lists.proofs.Tests.{by_equal, clash}
use Rattle.optimum.specs.OneSided.{has_slot}
use Rattle.arrays.proofs.Marks.{turn_low}
use Rattle.parts.proofs.Marking.{marking-none, marking-join, parts-kept}
use Rattle.marks.proofs.mark_window.Goals as goal

pub loop-k-init : goal.loop-k-init
loop-k-init c = (marking-none _ _ _, refl, λ i a b e. absurd (omega arith))

pub is_barred-requires : goal.is_barred-requires
is_barred-requires c =
    let p = c.requires in
    omega (arith, c.loop-k-test.true, c.loop-k.auto.k, p.window_low (omega (arith, c.loop-k-test.true, c.loop-k.auto.k)), c.args.level.now.sheet.now.of_sheet.few_slots, p.strip_fits.1.b_low)

-- a slot that is barred is passed over
pub loop-k-preserved-then-is_barred : goal.loop-k-preserved-then-is_barred
loop-k-preserved-then-is_barred c =
    let l = c.loop-k in (
      l.invariant.0,
      l.invariant.1,
      λ i a b e. by_equal i l.k
          (λ q. clash (sym c.is_barred.ensures ∙ c.if-is_barred.true) (ap (has_slot c.args.level.now.site.barred) (sym q) ∙ e))
          (λ n. l.invariant.2 i a (omega arith) e),
    )

pub mark_parts-requires : goal.mark_parts-requires
mark_parts-requires c =
    let p = c.requires in
    let l = c.loop-k in
    let t = c.loop-k-test.true in
    record { level_fits = (rw l.invariant.1 p.strip_fits.0, p.strip_fits.1); c_lt_colours = (c.args.level.now.site_in.colour_low, omega (arith, t, p.window_low (omega (arith, t, l.auto.k))), rw c.turn_at-turn.ensures (turn_low _ _ _)) }

pub loop-k-preserved : goal.loop-k-preserved
loop-k-preserved c =
    let l = c.loop-k in
    let f = c.mark_parts in (
      marking-join _ _ _ _ _ l.invariant.0 f.ensures.marking,
      f.auto.work ∙ l.invariant.1,
      λ i a b e. by_equal i l.k (λ q. rw q (rw c.turn_at-turn.ensures at f.ensures.parts_marked)) (λ n. parts-kept _ _ _ _ _ _ _ _ f.ensures.marking (l.invariant.2 i a (omega arith) e)),
    )

pub returns : goal.returns
returns c =
    let l = c.loop-k in
    (l.invariant.0, λ k a b e. l.invariant.2 k a (omega (arith, c.loop-k-test.false)) e)
