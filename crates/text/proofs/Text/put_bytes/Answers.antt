use mathlib.Core.Path.{sym, ◌∙◌}
use Prim.Native.Nat.{ℕ, ◌-◌, ◌<◌, ◌≤◌, min}
use native.Mathlib.Omega.{arith}
use lib.ListN.{length, length-set}
use Rattle.std.proofs.lemmas.List.{get_or-take, length-take}
use Rattle.text.proofs.Written.{written-next, written-end}
use Rattle.text.proofs.Text.put_bytes.Goals as goal

pub loop-i-preserved : goal.loop-i-preserved
loop-i-preserved c =
    let low : c.loop-i.i < c.min-count.result = omega (arith, length-take {A = ℕ}) in
    let within : c.loop-i.i < length c.args.bytes.now = omega (arith, c.min-count.ensures) in
    record {
      same = c.loop-i.invariant.same;
      long = length-set _ _ _ ∙ c.loop-i.invariant.long;
      left = c.loop-i.invariant.left ∙ rw get_or-take (written-next _ c.args.bytes.now _ _ within);
    }

pub returns : goal.returns
returns c =
    let room : min (length c.args.bytes.now) (length c.loop-i.area.now - c.args.self.now.past) ≤ c.loop-i.i =
    omega (arith, c.min-count.ensures, c.saturating_sub.ensures, length-take {A = ℕ}) in
    record {
      same = c.loop-i.invariant.same;
      past = omega (arith, c.min-count.ensures, c.saturating_sub.ensures);
      area = sym (c.loop-i.invariant.left ∙ written-end _ _ _ _ room);
    }
