-- `work_for` meets its contract.
use mathlib.Core.Path.{refl, ap, ◌∙◌}
use Prim.Native.Nat.{ℕ, ◌+◌, ◌*◌}
use native.Mathlib.Omega.{arith}
use Rattle.sizes.proofs.Bounds.{bounds, squares}
use Rattle.sizes.proofs.work_for.Goals as goal

pub overflow_mul-strips : goal.overflow_mul-strips
overflow_mul-strips c = let a = c.args in omega (arith, bounds a.m a.c a.n a.p c.requires)

pub overflow_mul-result : goal.overflow_mul-result
overflow_mul-result c = let a = c.args in omega (arith, bounds a.m a.c a.n a.p c.requires)

pub returns-then-two : goal.returns-then-two
returns-then-two c = rw c.if-two.true refl

pub overflow_mul-levels : goal.overflow_mul-levels
overflow_mul-levels c = let a = c.args in omega (arith, bounds a.m a.c a.n a.p c.requires)

pub overflow_mul-levels-2 : goal.overflow_mul-levels-2
overflow_mul-levels-2 c = let a = c.args in omega (arith, bounds a.m a.c a.n a.p c.requires)

pub overflow_mul-result-2 : goal.overflow_mul-result-2
overflow_mul-result-2 c = let a = c.args in omega (arith, bounds a.m a.c a.n a.p c.requires)

pub returns : goal.returns
returns c = let a = c.args in
    ap (λ (n : ℕ). n * (a.n + 1) * a.p) (squares (a.m + 2) (a.c + 1)) ∙ rw c.if-two.false refl
