use mathlib.Core.Path.{◌≡◌, ◌∙◌}
use mathlib.Core.Bool.{not}
use native.Mathlib.Omega.{arith}
use Rattle.search.proofs.Masks.{bit-of, bit-small, mask-none, mask-all, mask-down, mask-room}
use Rattle.arrays.specs.Arrays.{near_slots}
use Rattle.tips.proofs.near_slots.Goals as goal

pub loop-k-init : goal.loop-k-init
loop-k-init c = mask-none _ _

pub overflow_mul-near : goal.overflow_mul-near
overflow_mul-near c = let l = c.loop-k in
    omega (arith, mask-room _ _ l.near l.k (omega (arith, c.requires)) (omega arith) (omega arith) l.invariant)

pub overflow_add-near : goal.overflow_add-near
overflow_add-near c = let l = c.loop-k in
    omega (arith, mask-room _ _ l.near l.k (omega (arith, c.requires)) (omega arith) (omega arith) l.invariant, c.from.ensures, bit-of (not c.is_clear.result), bit-small (not c.is_clear.result))

pub loop-k-preserved : goal.loop-k-preserved
loop-k-preserved c = let l = c.loop-k in
    rw (c.from.ensures, bit-of, c.is_clear.ensures) (mask-down _ _ l.near l.k (omega arith) (omega arith) l.invariant)

pub returns : goal.returns
unfolding near_slots
returns c = let l = c.loop-k in
    let e : l.k ≡ 0 = omega arith in
    (rw e at l.invariant) ∙ mask-all _ _
