use mathlib.Core.Path.{sym, ◌∙◌}
use Rattle.strokes.proofs.Sought.{turn-here, turn-next, turn-by, turn-none}
use Rattle.strokes.proofs.seeking.seek.Goals as goal
use Rattle.strokes.proofs.seeking.seek.Goals.{then-is_listed+else-left-eq0, else-is_listed}

pub returns-then-left-eq0 : goal.returns-then-left-eq0
returns-then-left-eq0 g c =
    let l = c.loop-i in
    λ t h. turn-here t l.i _ l.left (l.invariant t h) c.loop-i-test.true (sym (h l.i _ c.loop-i-test.true c.is_listed.ensures) ∙ c.if-is_listed.true) c.if-left-eq0.true

pub loop-i-preserved : goal.loop-i-preserved
loop-i-preserved g c =
    let l = c.loop-i in
    elim c.if-is_listed.branch [
      | then-is_listed+else-left-eq0 w ↦ λ t h. rw w.left-is (turn-next t l.i _ l.left (l.invariant t h) c.loop-i-test.true (sym (h l.i _ c.loop-i-test.true c.is_listed.ensures) ∙ w.if-is_listed.true) w.if-left-eq0.false)
      | else-is_listed w ↦ λ t h. rw w.left-is (turn-by t l.i _ l.left (l.invariant t h) c.loop-i-test.true (sym (h l.i _ c.loop-i-test.true c.is_listed.ensures) ∙ w.if-is_listed.false))
    ]

pub returns : goal.returns
returns g c = λ t h. turn-none t _ _ _ (c.loop-i.invariant t h) c.loop-i-test.false
