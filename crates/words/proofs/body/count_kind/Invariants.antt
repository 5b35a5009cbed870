-- `words::body::count_kind` meets its contract.
use mathlib.Core.Path.{◌≡◌}
use Prim.Native.Nat.{◌+◌, ◌≤◌}
use lib.ListN.{drop}
use Rattle.sheet.specs.Words.{count_kind}
use Rattle.words.specs.Kinds.{kind_number}
use Rattle.words.proofs.body.count_kind.Given as goal

abbrev pub invariant-loop-w : goal.invariant-loop-w
invariant-loop-w l = (l.count ≤ l.w-index) × (count_kind (kind_number l.kind) l.words ≡ l.count + count_kind (kind_number l.kind) (drop l.w-index l.words))
