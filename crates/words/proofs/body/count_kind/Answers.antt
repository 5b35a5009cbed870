use mathlib.Core.Bool.{Bool, true, false, cond}
use mathlib.Core.Path.{◌≡◌, ap, sym}
use mathlib.Core.List.{List}
use Prim.Native.Nat.{ℕ, ◌+◌, ◌≤◌}
use native.Mathlib.Omega.{arith}
use lib.ListN.{drop_of_length-le}
use mir.Val.{bool_byte}
use Rattle.sheet.specs.Words.{count_kind}
use Rattle.sheet.proofs.Places.{count_at}
use Rattle.words.specs.Kinds.{kind_number}
use Rattle.words.proofs.body.count_kind.Goals as goal

-- a word more, whose test adds 0 or 1
one-more : (b : Bool) (n i all now next : ℕ) → (n ≤ i) × (all ≡ n + now) → now ≡ cond b 1 0 + next → (n + bool_byte b ≤ i + 1) × (all ≡ n + bool_byte b + next)
one-more true n i all now next h e = omega (arith, h, e)
one-more false n i all now next h e = omega (arith, h, e)

pub loop-w-preserved : goal.loop-w-preserved
loop-w-preserved c =
    let l = c.loop-w in
    let step = count_at c.args.words.now l.w-index c.loop-w-test.true (kind_number c.args.kind) in
    rw c.from-count.ensures (one-more c.is_kind.result l.count l.w-index _ _ _ l.invariant (rw (sym c.is_kind.ensures) at step))

pub returns : goal.returns
unfolding count_kind
returns c =
    let a = c.args in
    omega (arith, c.loop-w.invariant, ap (λ (z : List ℕ). count_kind (kind_number a.kind) z) (drop_of_length-le a.words.now c.loop-w-test.false))
