-- The equations of places by their numbers, as code has them. Assumes nothing.
use mathlib.Core.Path.{◌≡◌}
use mathlib.Core.Bool.{true, false}
use Prim.Native.Nat.{ℕ, zero, suc, ◌-◌, ◌<◌, ◌≤◌}
use native.Mathlib.Omega.{arith}
use lib.Dec.{leb, ltb}
use borrow.Author.Tests.{le-leb, lt-leb}
use Rattle.optimum.specs.Slots.{Slots, over, under, far_from, clear_from}

module _ (S : Slots) where
  open S use {m, height, far, clear}

  -- the top edge
  pub over-edge : (a y : ℕ) → a ≡ 0 → over S a y ≡ true
  unfolding over
  over-edge a y e = rw e

  pub under-edge : (b y : ℕ) → b ≡ 0 → under S b y ≡ false
  unfolding under
  under-edge b y e = rw e

  pub far-edge : (j e k c : ℕ) → j ≡ 0 → far_from S j e k c ≡ true
  unfolding far_from
  far-edge j e k c z = rw z

  pub clear-edge : (j y : ℕ) → j ≡ 0 → clear_from S j y ≡ true
  unfolding clear_from
  clear-edge j y z = rw z

  -- the bottom edge
  pub under-bottom : (b y : ℕ) → 0 < b → m ≤ b - 1 → under S b y ≡ true
  unfolding under
  under-bottom zero y p h = absurd (omega arith)
  under-bottom (suc k) y p h = rw (le-leb m k (omega arith))

  pub far-bottom : (j e k c : ℕ) → 0 < j → m ≤ j - 1 → far_from S j e k c ≡ true
  unfolding far_from
  far-bottom zero e k c p h = absurd (omega arith)
  far-bottom (suc i) e k c p h = rw (le-leb m i (omega arith))

  pub clear-bottom : (j y : ℕ) → 0 < j → m ≤ j - 1 → clear_from S j y ≡ true
  unfolding clear_from
  clear-bottom zero y p h = absurd (omega arith)
  clear-bottom (suc i) y p h = rw (le-leb m i (omega arith))

  -- a label
  less_one : (i : ℕ) → suc i - 1 ≡ i
  less_one i = omega arith

  pub over-label : (a y : ℕ) → 0 < a → over S a y ≡ leb (height (a - 1)) y
  unfolding over
  over-label zero y p = absurd (omega arith)
  over-label (suc k) y p = rw (less_one k)

  pub under-label : (b y : ℕ) → 0 < b → b - 1 < m → under S b y ≡ ltb y (height (b - 1))
  unfolding under
  under-label zero y p h = absurd (omega arith)
  under-label (suc k) y p h = rw (less_one k, lt-leb m k (omega arith))

  pub far-label : (j e k c : ℕ) → 0 < j → j - 1 < m → far_from S j e k c ≡ far (j - 1) e k c
  unfolding far_from
  far-label zero e k c p h = absurd (omega arith)
  far-label (suc i) e k c p h = rw (less_one i, lt-leb m i (omega arith))

  pub clear-label : (j y : ℕ) → 0 < j → j - 1 < m → clear_from S j y ≡ clear (j - 1) y
  unfolding clear_from
  clear-label zero y p h = absurd (omega arith)
  clear-label (suc i) y p h = rw (less_one i, lt-leb m i (omega arith))
