-- What is asked of a sheet's arrays holds of fewer of them: bounds, draws and lists of budgets are free. Assumes nothing.
use mathlib.Core.Path.{◌≡◌, refl}
use mathlib.Core.Bool.{true}
use mathlib.Core.List.{List, []}
use Prim.Native.Nat.{ℕ, ◌-◌, ◌<◌}
use native.Mathlib.Omega.{arith}
use borrow.Author.Tests.{le-leb}
use Rattle.search.specs.Radix.{below}
use Rattle.arrays.specs.Given.{Given, OfSheet, given}

-- without radices every budget may be taken from the last
last-full : (n v : ℕ) → v < n → below [] v (n - 1) ≡ true
unfolding below
last-full n v h = le-leb v (n - 1) (omega arith)

module _ {g : Given} (o : OfSheet g) {bs ds ps ns : List ℕ} where
  -- without the sites
  pub no-sites : OfSheet (given g.measures g.heights bs g.radices ds [] [] [] [] ps ns)
  no-sites = record {
    few_slots = o.few_slots;
    few_colours = o.few_colours;
    few_sites = omega arith;
    few_budgets = o.few_budgets;
    some_budget = o.some_budget;
    narrow = o.narrow;
    charge_low = o.charge_low;
    height_low = o.height_low;
    rising = o.rising;
    divides = o.divides;
    full = o.full;
    ys_long = refl;
    colours_long = refl;
    site_in = λ i h. absurd (omega arith);
    order_low = λ i h. absurd (omega arith);
  }

  -- without the radices
  pub no-radices : OfSheet (given g.measures g.heights bs [] ds g.xs g.ys g.colours g.order ps ns)
  no-radices = record {
    few_slots = o.few_slots;
    few_colours = o.few_colours;
    few_sites = o.few_sites;
    few_budgets = o.few_budgets;
    some_budget = o.some_budget;
    narrow = o.narrow;
    charge_low = o.charge_low;
    height_low = o.height_low;
    rising = o.rising;
    divides = λ k h. absurd (omega arith);
    full = last-full g.measures.budgets;
    ys_long = o.ys_long;
    colours_long = o.colours_long;
    site_in = o.site_in;
    order_low = o.order_low;
  }

-- heights alone, and what is free
pub on-slots : {g : Given} → OfSheet g → {bs ds ps ns : List ℕ} → OfSheet (given g.measures g.heights bs [] ds [] [] [] [] ps ns)
on-slots o = no-radices (no-sites o {bs = []} {ds = []} {ps = []} {ns = []})
