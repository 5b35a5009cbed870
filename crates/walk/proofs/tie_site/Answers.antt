use mathlib.Core.Path.{subst⁻¹, ap}
use native.Mathlib.Omega.{arith}
use lib.ListN.{length}
use Rattle.arrays.specs.Given.{SiteIn}
use Rattle.rows.specs.Rows.{strip_of}
use Rattle.walk.proofs.Tying.{walk-in, long, site-in, level-of, place_in, tied, step_by}
use Rattle.walk.proofs.tie_site.Goals as goal

pub choose_slot-k-requires : goal.choose_slot-k-requires
choose_slot-k-requires c =
    let p = c.requires in
    let a = c.args in
    let g = a.sheet.now in
    let w = walk-in g p.levels_fit in
    let held = c.hold_of-p.ensures g.measures g.bounds.now g.radices.list.now g.draws.now in
    record {
      level = rw c.level_size-size.ensures (level-of w a.j _ _ _ _ _ p.standing.1 p.standing.0);
      site = subst⁻¹ (SiteIn a.sheet.now.measures) c.site_at-s.ensures (site-in w a.j p.standing.1);
      labels_long = p.standing.0.labels_long;
      marks_long = p.standing.0.marks_long;
      place_low = place_in w a.labels.now a.marks.now a.j p.standing.0 (strip_of c.hold_of-p.result) _ held;
      budget = p.standing.0.budget;
      low = p.standing.0.low;
    }

pub step_of-step-requires : goal.step_of-step-requires
step_of-step-requires c =
    let a = c.args in
    let g = a.sheet.now in
    let w = walk-in g c.requires.levels_fit in
    let held = c.hold_of-p.ensures g.measures g.bounds.now g.radices.list.now g.draws.now in
    let mid = tied w c.requires.standing c.site_at-s.ensures held
    c.level_size-size.ensures c.choose_slot-k.ensures.value in
    let p = c.requires in
    (subst⁻¹ (SiteIn a.sheet.now.measures) c.site_at-s.ensures (site-in w a.j p.standing.1), omega (arith, mid.slot_low, a.sheet.now.of_sheet.few_slots))

pub write_tie-requires : goal.write_tie-requires
write_tie-requires c =
    let a = c.args in
    let g = a.sheet.now in
    let w = walk-in g c.requires.levels_fit in
    let held = c.hold_of-p.ensures g.measures g.bounds.now g.radices.list.now g.draws.now in
    let mid = tied w c.requires.standing c.site_at-s.ensures held
    c.level_size-size.ensures c.choose_slot-k.ensures.value in
    let p = c.requires in
    record {
      ranked = p.standing.1;
      within = omega (arith, a.sheet.now.of_sheet.order_low _ p.standing.1, a.sheet.now.ranked, p.standing.0.answer_fits, long w);
      slot_low = omega (arith, mid.slot_low, a.sheet.now.of_sheet.few_slots);
    }

pub write_marks-requires : goal.write_marks-requires
write_marks-requires c =
    let a = c.args in
    let g = a.sheet.now in
    let w = walk-in g c.requires.levels_fit in
    let held = c.hold_of-p.ensures g.measures g.bounds.now g.radices.list.now g.draws.now in
    let mid = tied w c.requires.standing c.site_at-s.ensures held
    c.level_size-size.ensures c.choose_slot-k.ensures.value in
    rw (c.choose_slot-k.ensures.labels_unchanged, c.choose_slot-k.ensures.marks_unchanged) mid.marks_in

pub bounds-labels-slot : goal.bounds-labels-slot
bounds-labels-slot c =
    let a = c.args in
    let g = a.sheet.now in
    let w = walk-in g c.requires.levels_fit in
    let held = c.hold_of-p.ensures g.measures g.bounds.now g.radices.list.now g.draws.now in
    let mid = tied w c.requires.standing c.site_at-s.ensures held
    c.level_size-size.ensures c.choose_slot-k.ensures.value in
    let p = c.requires in
    omega (arith, mid.slot_low, p.standing.0.labels_long, ap length c.choose_slot-k.ensures.labels_unchanged)

pub returns : goal.returns
returns c =
    let a = c.args in
    let g = a.sheet.now in
    let w = walk-in g c.requires.levels_fit in
    let held = c.hold_of-p.ensures g.measures g.bounds.now g.radices.list.now g.draws.now in
    let mid = tied w c.requires.standing c.site_at-s.ensures held
    c.level_size-size.ensures c.choose_slot-k.ensures.value in
    let f = c.step_of-step.ensures in
    let o = c.choose_slot-k.ensures in
    let facts = step_by w mid _ _ _ _ _ _ _ _ o.labels_unchanged o.marks_unchanged c.turn_at.ensures c.write_marks.ensures
    c.write_tie.ensures f.left_value f.price_value c.saturating_sub.ensures in
    record { stands = facts.0; budget_value = facts.1 }
