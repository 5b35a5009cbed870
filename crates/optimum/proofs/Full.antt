-- The full budget holds every other, so the table is least there: a strip that is none at the full budget is none at every budget.
use mathlib.Core.Path.{◌≡◌}
use mathlib.Core.Bool.{true}
use mathlib.Core.List.{List}
use Prim.Native.Nat.{ℕ, ◌-◌, ◌≤◌, ◌<◌}
use Rattle.search.specs.Radix.{below}
use Rattle.search.specs.Plan.{T}
use Rattle.search.proofs.Digits.{below-full}
use Rattle.search.proofs.Falls.{table-falls, none-at}
use Rattle.sheet.specs.Sheet.{Colour, product_of}
use Rattle.optimum.specs.Strips.{Point, Strip, Instance, rules_of}
use Rattle.optimum.specs.Budgets.{radices_of}
use Rattle.optimum.proofs.Budgets.{positive, product_is}
use Rattle.optimum.proofs.Slots.{Rising}
use Rattle.optimum.proofs.StripsHeld.{laws}

-- each of the first R budgets may be taken from the budget `full`
abbrev pub Holds : (radices : List ℕ) → (R full : ℕ) → Type 0
Holds rs R full = (v : ℕ) → v < R → below rs v full ≡ true

-- a sheet's full budget, the greatest, does so
pub full-holds : (ks : List Colour) → Holds (radices_of ks) (product_of ks) (product_of ks - 1)
full-holds ks = rw (product_is ks) (below-full (radices_of ks) (positive ks))

module _ (P : Instance) (rising : Rising P.slots) where
  open P use {top, radices}

  -- a larger budget never costs more
  pub budget-falls : (ss : List Point) (p : Strip) (w v : ℕ) → below radices w v ≡ true → T (rules_of P) ss p v ≤ T (rules_of P) ss p w
  budget-falls ss p w v e = table-falls (rules_of P) (laws P rising) ss p w v e

  module _ (R full : ℕ) (h : Holds radices R full) (ss : List Point) (p : Strip) where
    pub least-at-full : (v : ℕ) → v < R → T (rules_of P) ss p full ≤ T (rules_of P) ss p v
    least-at-full v l = budget-falls ss p v full (h v l)

    -- none at the full budget: none at each
    pub none-at-full : T (rules_of P) ss p full ≡ top → (v : ℕ) → v < R → T (rules_of P) ss p v ≡ top
    none-at-full e v l = none-at (rules_of P) (laws P rising) ss p v full (h v l) e
