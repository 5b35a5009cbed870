use Rattle.arrays.specs.Ranked.{given_of}
use Rattle.rows.specs.Rows.{strip_of, point_of}
use Rattle.strips.proofs.Steps.{step-opens, step-joins}
use mathlib.Core.Path.{refl, sym, ap₂, ◌∙◌}
use mathlib.Core.Bool.{true, false, ◌||◌}
use Rattle.strips.proofs.step_of.Goals as goal

pub returns-then-is_below : goal.returns-then-is_below
returns-then-is_below c = let a = c.args in
    let r = step-opens (given_of a.sheet.now) (strip_of a.p) (point_of a.s) a.k a.v true (sym c.opens.ensures ∙ c.if-opens.true) c.get-draw.ensures (sym c.if-is_below.true ∙ c.is_below.ensures) c.open_cost-price.ensures in
    record { left_value = c.saturating_sub-left.ensures ∙ r.0; price_value = r.1 }

pub returns-else-is_below : goal.returns-else-is_below
returns-else-is_below c = let a = c.args in
    let r = step-opens (given_of a.sheet.now) (strip_of a.p) (point_of a.s) a.k a.v false (sym c.opens.ensures ∙ c.if-opens.true) c.get-draw.ensures (sym c.if-is_below.false ∙ c.is_below.ensures) refl in
    record { left_value = c.saturating_sub-left.ensures ∙ r.0; price_value = r.1 }

pub returns-then-joins : goal.returns-then-joins
returns-then-joins c = let a = c.args in
    let r = step-joins (given_of a.sheet.now) (strip_of a.p) (point_of a.s) a.k a.v true (sym c.opens.ensures ∙ c.if-opens.false) (sym c.if-joins.true ∙ ap₂ ◌||◌ (c.joins_up.ensures a.sheet.now.bounds.now) (c.joins_down.ensures a.sheet.now.bounds.now)) c.join_cost-price.ensures in
    record { left_value = r.0; price_value = r.1 }

pub returns-else-joins : goal.returns-else-joins
returns-else-joins c = let a = c.args in
    let r = step-joins (given_of a.sheet.now) (strip_of a.p) (point_of a.s) a.k a.v false (sym c.opens.ensures ∙ c.if-opens.false) (sym c.if-joins.false ∙ ap₂ ◌||◌ (c.joins_up.ensures a.sheet.now.bounds.now) (c.joins_down.ensures a.sheet.now.bounds.now)) refl in
    record { left_value = r.0; price_value = r.1 }
