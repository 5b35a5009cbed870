use Rattle.search.specs.Radix.{mask_of}
use Rattle.search.proofs.Masks.{bit-of, bit-small, mask-none, mask-all, mask-down, mask-room}
use mathlib.Core.Path.{◌≡◌, ◌∙◌}
use native.Mathlib.Omega.{arith}
use Rattle.costs.proofs.masks.mask_below.Goals as goal

pub loop-w-init : goal.loop-w-init
loop-w-init c = mask-none _ _

pub overflow_mul-mask : goal.overflow_mul-mask
overflow_mul-mask c =
    let l = c.loop-w in
    omega (arith, mask-room _ _ l.mask l.w (omega arith) (omega arith) (omega arith) l.invariant)

pub overflow_add-mask : goal.overflow_add-mask
overflow_add-mask c =
    let l = c.loop-w in
    omega (arith, mask-room _ _ l.mask l.w (omega arith) (omega arith) (omega arith) l.invariant, c.from.ensures, bit-of c.is_below.result, bit-small c.is_below.result)

pub loop-w-preserved : goal.loop-w-preserved
loop-w-preserved c =
    let l = c.loop-w in
    rw (c.from.ensures, bit-of, c.is_below.ensures) (mask-down _ _ l.mask l.w (omega arith) (omega arith) l.invariant)

pub returns : goal.returns
unfolding mask_of
returns c =
    let l = c.loop-w in
    let e : l.w ≡ 0 = omega arith in
    (rw e at l.invariant) ∙ mask-all _ _
