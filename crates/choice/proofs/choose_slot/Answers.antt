use mathlib.Core.Path.{sym, ap, ◌∙◌}
use native.Mathlib.Omega.{arith}
use borrow.Author.Rules.{rules}
use borrow.Author.Count.{below_more}
use lib.ListN.{length}
use Rattle.arrays.proofs.Marks.{turn_low}
use Rattle.optimum.proofs.Loops.{first-at, first-none}
use Rattle.choice.proofs.Chosen.{level-same}
use Rattle.choice.proofs.choose_slot.Goals as goal

pub keeps_cost-requires : goal.keeps_cost-requires
keeps_cost-requires c =
    let p = c.requires in
    let l = c.loop-k in
    let s = c.args.sheet.now in
    record {
      level = level-same s.all_listed l.invariant.0 l.invariant.1 p.level;
      places = record {
        slot_low = omega (arith, ap length l.invariant.0, p.labels_long, c.loop-k-test.true);
        few = omega (arith, ap length l.invariant.0, p.labels_long, s.of_sheet.few_slots);
        marks_long = omega (arith, ap length l.invariant.0, ap length l.invariant.1, p.labels_long, p.marks_long);
        place_low = omega (arith, ap length l.invariant.1, p.place_low);
      };
      mark_low = rw c.turn_at.ensures (turn_low _ _ _);
      colour_low = omega (arith, p.site.colour_low);
      budget = omega (arith, c.step_of-step.ensures.left_value, p.budget, s.all_listed);
      low = p.low;
    }

pub returns-then-keeps_cost-clause-value : goal.returns-then-keeps_cost-clause-value
returns-then-keeps_cost-clause-value c = sym (first-at _ _ _ (omega arith) c.loop-k.invariant.2 (search rules))

pub loop-k-preserved : goal.loop-k-preserved
loop-k-preserved c =
    let l = c.loop-k in
    let k = c.keeps_cost.ensures in (
      k.labels_unchanged ∙ l.invariant.0,
      k.marks_unchanged ∙ l.invariant.1,
      below_more _ _ l.invariant.2 (search rules),
    )

pub returns-clause-value : goal.returns-clause-value
returns-clause-value c = sym (first-none _ _ (λ j h. c.loop-k.invariant.2 j (omega arith)))
