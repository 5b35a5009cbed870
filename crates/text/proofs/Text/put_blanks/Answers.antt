use mathlib.Core.Path.{sym, ◌∙◌}
use Prim.Native.Nat.{◌-◌, ◌<◌, ◌≤◌, min}
use native.Mathlib.Omega.{arith}
use lib.ListN.{length, length-set, replicate, length-replicate}
use Rattle.std.proofs.lemmas.List.{get_or-replicate}
use Rattle.text.specs.Text.{blank}
use Rattle.text.proofs.Written.{written-next, written-end}
use Rattle.text.proofs.Text.put_blanks.Goals as goal

pub loop-i-preserved : goal.loop-i-preserved
loop-i-preserved c =
    let low : c.loop-i.i < c.args.count = omega (arith, c.min-fitting.ensures) in
    let blanks = replicate c.args.count blank in
    let within : c.loop-i.i < length blanks = omega (arith, length-replicate c.args.count blank) in
    record {
      same = c.loop-i.invariant.same;
      long = length-set _ _ _ ∙ c.loop-i.invariant.long;
      left = c.loop-i.invariant.left ∙ (rw (get_or-replicate c.args.count c.loop-i.i blank 0 low) at (written-next c.loop-i.area.now blanks c.args.self.now.past c.loop-i.i within));
    }

pub returns : goal.returns
returns c =
    let blanks = replicate c.args.count blank in
    let room : min (length blanks) (length c.loop-i.area.now - c.args.self.now.past) ≤ c.loop-i.i =
    omega (arith, c.min-fitting.ensures, c.saturating_sub.ensures, length-replicate c.args.count blank) in
    record {
      same = c.loop-i.invariant.same;
      past = omega (arith, c.min-fitting.ensures, c.saturating_sub.ensures, length-replicate c.args.count blank);
      area = sym (c.loop-i.invariant.left ∙ written-end _ _ _ _ room);
    }
