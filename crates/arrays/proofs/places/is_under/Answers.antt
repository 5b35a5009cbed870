use Rattle.arrays.specs.Arrays.{slots_by}
use Rattle.arrays.proofs.Standing.{under-edge, under-bottom, under-label}
use mathlib.Core.Path.{◌≡◌, sym, ap, ◌∙◌}
use Prim.Native.Nat.{ℕ, ◌-◌}
use native.Mathlib.Omega.{arith}
use lib.Dec.{ltb}
use lib.ListN.{get_or}
use Rattle.arrays.proofs.places.is_under.Goals as goal

pub returns-then-b-eq0 : goal.returns-then-b-eq0
returns-then-b-eq0 c = λ q. sym (under-edge _ _ _ c.if-b-eq0.true)

pub returns-in-Some : goal.returns-in-Some
returns-in-Some c = let a = c.args in
    let e = c.in-Some.ensures.lookup in
    let height : c.in-Some.field-0.now ≡ get_or a.sheet.now.heights.now (a.b - 1) 0 = e.4 (omega arith) 0 in
    λ q. ap (λ (h : ℕ). ltb a.y h) height ∙ sym (under-label (slots_by q a.sheet.now.heights.now) a.b a.y (omega arith) e.3.0)

pub returns-in-None : goal.returns-in-None
returns-in-None c = λ q. sym (under-bottom _ _ _ (omega arith) c.in-None.ensures.lookup.3)
