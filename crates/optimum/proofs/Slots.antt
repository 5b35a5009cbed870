-- What both tables use of a sheet's slots: the equations of places, and the laws of the two distances, for any slots that have them.
use mathlib.Core.Path.{◌≡◌, refl}
use mathlib.Core.Logic.{◌⊎◌, inl, inr}
use mathlib.Core.Bool.{true}
use Prim.Native.Nat.{ℕ, zero, suc, ◌≤◌, ◌<◌}
use native.Mathlib.Omega.{arith}
use lib.Dec.{leb, ltb}
use borrow.Author.Tests.{le-leb, lt-leb, lt-ltb}
use Rattle.lists.proofs.Tests.{by_order, by_equal}
use Rattle.optimum.specs.Slots.{Slots, over, under, far_from, clear_from}

-- the heights rise
abbrev pub Rising : Slots → Type 0
Rising S = (j k : ℕ) → j < k → k < S.m → S.height j < S.height k

-- what is asked of "far enough apart" and "clear of"
pub record Good (S : Slots) : Type 0 where
  pub rising : Rising S
  pub far-sym : (i c k d : ℕ) → S.far i c k d ≡ true → S.far k d i c ≡ true
  pub far-trans : (i c j d k e : ℕ) → i < j → j < k → k < S.m → S.far i c j d ≡ true → S.far j d k e ≡ true → S.far i c k e ≡ true
  pub far-above : (j c k d y : ℕ) → j < k → k < S.m → S.far j c k d ≡ true → S.height k ≤ y → S.clear j y ≡ true
  pub far-below : (j c k d y : ℕ) → k < j → j < S.m → S.far j c k d ≡ true → y < S.height k → S.clear j y ≡ true
  pub clear_above : (j k y : ℕ) → j < k → k < S.m → S.height k ≤ y → S.clear k y ≡ true → S.clear j y ≡ true
  pub clear-below : (j k y : ℕ) → k < j → j < S.m → y < S.height k → S.clear k y ≡ true → S.clear j y ≡ true
  pub clear-off : (k y : ℕ) → S.clear k y ≡ true → S.height k ≡ y → ⊥

module _ (S : Slots) where
  open S use {m, height, far, clear}

  -- ---- heights

  pub over-label : (i y : ℕ) → over S (suc i) y ≡ leb (height i) y
  unfolding over
  over-label i y = refl

  pub under-label : (i y : ℕ) → i < m → under S (suc i) y ≡ ltb y (height i)
  unfolding under
  under-label i y h = rw (lt-leb m i h)

  pub under-edge : (i y : ℕ) → i ≡ m → under S (suc i) y ≡ true
  unfolding under
  under-edge i y e = rw (le-leb m i (omega arith))

  -- ---- distances

  pub far-e : (j d k c : ℕ) → j < m → far_from S (suc j) d k c ≡ true → far j d k c ≡ true
  unfolding far_from
  far-e j d k c h e = rw (lt-leb m j h) at e

  pub far-i : (j d k c : ℕ) → j < m → far j d k c ≡ true → far_from S (suc j) d k c ≡ true
  unfolding far_from
  far-i j d k c h e = rw (lt-leb m j h) e

  pub clear-e : (j y : ℕ) → j < m → clear_from S (suc j) y ≡ true → clear j y ≡ true
  unfolding clear_from
  clear-e j y h e = rw (lt-leb m j h) at e

  pub clear-i : (j y : ℕ) → j < m → clear j y ≡ true → clear_from S (suc j) y ≡ true
  unfolding clear_from
  clear-i j y h e = rw (lt-leb m j h) e

  -- an edge asks for nothing
  pub edge-far : (b d k c : ℕ) → (b ≡ 0) ⊎ (b ≡ suc m) → far_from S b d k c ≡ true
  unfolding far_from
  edge-far b d k c (inl e) = rw e
  edge-far b d k c (inr e) = rw (e, le-leb m m (omega arith))

  pub edge-clear : (b y : ℕ) → (b ≡ 0) ⊎ (b ≡ suc m) → clear_from S b y ≡ true
  unfolding clear_from
  edge-clear b y (inl e) = rw e
  edge-clear b y (inr e) = rw (e, le-leb m m (omega arith))

  -- ---- where the heights rise

  module _ (rising : Rising S) where
    pub rise-le : (j k : ℕ) → j ≤ k → k < m → height j ≤ height k
    rise-le j k h l = by_equal j k (λ e. rw e (omega arith)) (λ n. omega (arith, rising j k (omega arith) l))

    pub rise-lt : (j k y : ℕ) → k < m → height k ≤ y → y < height j → k < j
    rise-lt j k y l h u = by_order j k (λ q. absurd (omega (arith, rise-le j k q l))) (λ q. q)

    -- a place at or above slot k stands over what slot k does; one below it, under
    pub over_yes : (a k y : ℕ) → k < m → a < suc k → height k ≤ y → over S a y ≡ true
    unfolding over
    over_yes zero k y hk h l = refl
    over_yes (suc j) k y hk h l = le-leb (height j) y (omega (arith, rising j k (omega arith) hk))

    pub under-yes : (b k y : ℕ) → suc k < b → y < height k → under S b y ≡ true
    unfolding under
    under-yes zero k y h l = absurd (omega arith)
    under-yes (suc j) k y h l =
        by_order m j
        (λ q. rw (le-leb m j q))
        (λ q. rw (lt-leb m j q) (lt-ltb y (height j) (omega (arith, rising k j (omega arith) q))))
