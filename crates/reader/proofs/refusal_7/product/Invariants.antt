-- `refusal_7::product` meets its contract.
use mathlib.Core.Path.{◌≡◌}
use Prim.Native.Nat.{◌*◌, ◌≤◌}
use lib.ListN.{drop}
use Rattle.sheet.specs.Limits.{most_budgets}
use Rattle.sheet.specs.Sheet.{colours_in, product_of}
use Rattle.reader.proofs.refusal_7.product.Given as goal

abbrev pub invariant-loop-w : goal.invariant-loop-w
invariant-loop-w l = (l.p ≤ most_budgets) × (product_of (colours_in l.body) ≡ l.p * product_of (colours_in (drop l.w-index l.body)))
