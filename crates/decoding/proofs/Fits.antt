-- An accepted sheet's numbers fit the arrays of code. Assumes nothing.
use mathlib.Core.Path.{◌≡◌}
use mathlib.Core.List.{List}
use Prim.Native.Nat.{ℕ, ◌≤◌}
use native.Mathlib.Omega.{arith}
use Rattle.sheet.specs.Limits.{most_slots, most_colours, most_sites}
use Rattle.sheet.specs.Sheet.{body_of, sheet_fault}
use Rattle.sheet.specs.Words.{count_kind}
use Rattle.sheet.proofs.Accepted.{sound}
use Rattle.sheet.proofs.Counts.{slots-count, colours-count, sites-count}

module _ (ws : List ℕ) (f : sheet_fault ws ≡ 0) where
  pub slots-fit : count_kind 2 (body_of ws) ≤ most_slots
  slots-fit = omega (arith, slots-count (body_of ws), (sound ws f).few-slots)

  pub colours-fit : count_kind 3 (body_of ws) ≤ most_colours
  colours-fit = omega (arith, colours-count (body_of ws), (sound ws f).few-colours)

  pub sites-fit : count_kind 4 (body_of ws) ≤ most_sites
  sites-fit = omega (arith, sites-count 0 (body_of ws), (sound ws f).few-sites)
