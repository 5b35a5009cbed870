use mathlib.Core.Path.{◌≡◌}
use Prim.Native.Nat.{◌+◌}
use lib.ListN.{length, drop}
use Rattle.text.specs.Text.{written}
use Rattle.text.proofs.Text.put_bytes.Given as goal

-- the area is the same, and once the bytes that are left are put, all are
abbrev pub invariant-loop-i : goal.invariant-loop-i
invariant-loop-i l = record {
  same : l.area.ghost_name ≡ l.initial.area.ghost_name;
  long : length l.area.now ≡ length l.initial.area.now;
  left : written l.initial.area.now l.from l.bytes ≡ written l.area.now (l.from + l.i) (drop l.i l.bytes);
}
