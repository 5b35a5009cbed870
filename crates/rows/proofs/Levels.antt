-- Where levels stand, and that their places are small numbers. Assumes nothing.
use mathlib.Core.Path.{◌≡◌, refl, ap}
use Prim.Native.Nat.{ℕ, suc, ◌+◌, ◌*◌, ◌-◌, ◌<◌, ◌≤◌}
use native.Mathlib.Nat.{mul-le-mul}
use native.Mathlib.Omega.{arith}
use lib.ListN.{length}
use Rattle.sheet.specs.Limits.{most_budgets, most_sites, most_rows, most_level, most_table}
use Rattle.arrays.specs.Given.{Given, OfSheet}
use Rattle.rows.specs.declared.level.TableLevel.{TableLevel}
use Rattle.rows.specs.Rows.{level_of, LevelFits}
use Rattle.rows.specs.Level.{level_in, words_in, Ready}
use Rattle.rows.proofs.Places.{rows_few}

pub next_level : (j size : ℕ) → (j + 1) * size ≡ j * size + size
next_level j size = omega arith

-- a level and the one below it stand in an area that has n + 1 of them
pub level-within : (j n size level area : ℕ) → size ≡ level → j < n → (n + 1) * level ≤ area → (j * size + size ≤ area) × ((j + 1) * size + size ≤ area)
level-within j n size level area s h l =
    let e : n + 1 ≡ suc (suc j) + (n - suc j) = omega arith in
    let f = ap (λ (z : ℕ). z * level) e in
    rw s (omega arith, omega arith)

module _ {g : Given} (o : OfSheet g) where
  pub level-small : level_of g.measures g.heights ≤ most_level
  level-small = mul-le-mul {n₂ = most_rows} {m₂ = most_budgets} (rows_few (length g.heights) g.measures.colours o.few_slots o.few_colours) o.few_budgets

  pub place-small : (j size : ℕ) → j ≤ most_sites + 1 → size ≡ level_of g.measures g.heights → j * size ≤ most_table
  place-small j size h e = mul-le-mul {n₂ = most_sites + 1} {m₂ = most_level} h (omega (arith, level-small))

  -- rows of a level may be marked
  pub level-fits : {low area : ℕ} → low + level_of g.measures g.heights ≤ area → LevelFits g.measures (length g.heights) low area
  level-fits h =
      record { few_slots = o.few_slots; few_colours = o.few_colours; few_budgets = o.few_budgets; some_budget = o.some_budget; within = h }

-- a row among so many
pub row_within : (r rows n : ℕ) → r < rows → r * n + n ≤ rows * n
row_within r rows n h =
    let e : rows ≡ suc r + (rows - suc r) = omega arith in
    omega (arith, ap (λ (z : ℕ). z * n) e)

-- the first level stands in an area that has some
pub first-within : (n level area : ℕ) → (n + 1) * level ≤ area → 0 + level ≤ area
first-within n level area h = omega (arith, h)

-- a level below the first so many lies before what is past them
pub past-level : (j n size i : ℕ) → j < n → (n + 1) * size ≤ i → (j + 1) * size + size ≤ i
past-level j n size i h l = (level-within j n size size i refl h l).1

pub enough : (n size level area now : ℕ) → size ≡ level → (n + 1) * level ≤ area → now ≡ area → (n + 1) * size ≤ now
enough n size level area now e h l = rw (e, l) h

pub few : (n : ℕ) → n ≤ most_sites → n + 1 ≤ most_sites + 1
few n h = omega arith

-- the last level stands in an area that has n + 1 of them
pub last_within : (n size level area now : ℕ) → size ≡ level → (n + 1) * level ≤ area → now ≡ area → n * size + size ≤ now
last_within n size level area now e h l = rw (e, l) (omega (arith, h))

-- a level and the one below it, in an area that has both
pub ready_of : (v : TableLevel) {area : ℕ} → v.low + words_in (level_in v) ≤ area → Ready (level_in v) (words_in (level_in v)) area
ready_of v h = record { sheet = v.sheet.now.of_sheet; site = v.site_in; apart = v.apart; within = h }
