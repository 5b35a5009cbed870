-- `words::body::sites_run` meets its contract.
use lib.ListN.{length, drop}
use mathlib.Core.Path.{◌≡◌}
use Prim.Native.Nat.{◌+◌, ◌-◌, ◌≤◌}
use Rattle.sheet.specs.Sheet.{sites_run}
use Rattle.words.proofs.body.sites_run.Given as goal

abbrev pub invariant-loop-i : goal.invariant-loop-i
invariant-loop-i l = (l.i - l.from ≤ length l.words - l.from) × (sites_run (drop l.from l.words) ≡ (l.i - l.from) + sites_run (drop l.i l.words))
