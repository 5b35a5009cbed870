-- Laws of costs: sums that saturate, the least of several, and the first that passes a test.
use mathlib.Core.Path.{◌≡◌, refl, ap, ap₂, ◌∙◌, fun_ext}
use mathlib.Core.Logic.{◌⊎◌, inl, inr}
use mathlib.Core.Bool.{Bool, true}
use Prim.Native.Nat.{ℕ, zero, suc, ◌≤◌, ◌<◌, min}
use native.Mathlib.Nat.{eq-or-lt_of_le, le_of_suc-le-suc, not-suc-le-zero}
use native.Mathlib.Omega.{arith}
use Rattle.lists.proofs.Tests.{by-test, by_order, by-either}
use Rattle.search.specs.Cost.{plus, least, first}

module _ (top : ℕ) where
  -- ---- sums

  pub plus_comm : (a b : ℕ) → plus top a b ≡ plus top b a
  unfolding plus
  plus_comm a b = omega arith

  pub plus_assoc : (a b c : ℕ) → plus top (plus top a b) c ≡ plus top a (plus top b c)
  unfolding plus
  plus_assoc a b c = omega arith

  pub plus-min : (a b c : ℕ) → plus top a (min b c) ≡ min (plus top a b) (plus top a c)
  unfolding plus
  plus-min a b c = omega arith

  pub plus-top : (a : ℕ) → plus top a top ≡ top
  unfolding plus
  plus-top a = omega arith

  pub top-plus : (a : ℕ) → plus top top a ≡ top
  unfolding plus
  top-plus a = omega arith

  pub plus-past : (a b : ℕ) → top ≤ a → plus top a b ≡ top
  unfolding plus
  plus-past a b h = omega arith

  pub plus-le : (a b : ℕ) → plus top a b ≤ top
  unfolding plus
  plus-le a b = omega arith

  pub plus-mono : (a b c : ℕ) → b ≤ c → plus top a b ≤ plus top a c
  unfolding plus
  plus-mono a b c h = omega arith

  -- what is added twice and comes to less than none was the same
  pub plus-cancel : (a b c : ℕ) → b ≤ top → c ≤ top → plus top a b ≡ plus top a c → plus top a b < top → b ≡ c
  unfolding plus
  plus-cancel a b c hb hc e h = omega arith

  pub plus-below : (a b : ℕ) → plus top a b < top → (a < top) × (b < top)
  unfolding plus
  plus-below a b h = omega arith

  -- ---- the least of several

  pub least-le-top : (n : ℕ) (f : ℕ → ℕ) → least top n f ≤ top
  unfolding least
  least-le-top zero f = omega arith
  least-le-top (suc n) f = let h = least-le-top n f in omega arith

  pub least-le : (n : ℕ) (f : ℕ → ℕ) (k : ℕ) → k < n → least top n f ≤ f k
  unfolding least
  least-le zero f k h = omega arith
  least-le (suc n) f k h =
      by-either (eq-or-lt_of_le (le_of_suc-le-suc h)) (λ e. rw e (omega arith)) (λ l. omega (arith, least-le n f k l))

  pub least-most : (n : ℕ) (f : ℕ → ℕ) (b : ℕ) → b ≤ top → ((k : ℕ) → k < n → b ≤ f k) → b ≤ least top n f
  unfolding least
  least-most zero f b h q = h
  least-most (suc n) f b h q =
      let i : b ≤ least top n f = least-most n f b h (λ k l. q k (omega arith)) in
      let j : b ≤ f n = q n (omega arith) in
      omega arith

  pub least-cong : (n : ℕ) (f g : ℕ → ℕ) → ((k : ℕ) → k < n → f k ≡ g k) → least top n f ≡ least top n g
  unfolding least
  least-cong zero f g h = refl
  least-cong (suc n) f g h = ap₂ min (least-cong n f g (λ k l. h k (omega arith))) (h n (omega arith))

  pub plus-least : (n : ℕ) (a : ℕ) (f : ℕ → ℕ) → plus top a (least top n f) ≡ least top n (λ k. plus top a (f k))
  unfolding least
  plus-least zero a f = plus-top a
  plus-least (suc n) a f = plus-min a (least top n f) (f n) ∙ ap (λ (z : ℕ). min z (plus top a (f n))) (plus-least n a f)

  -- the least is top, or one of them
  pub least-is : (n : ℕ) (f : ℕ → ℕ) → (least top n f ≡ top) ⊎ ((k : ℕ) × (k < n) × (f k ≡ least top n f))
  unfolding least
  least-is zero f = inl refl
  least-is (suc n) f =
      by_order (least top n f) (f n)
      (λ h. by-either (least-is n f) (λ q. inl (omega arith)) (λ q. inr (q.0, omega arith, omega arith)))
      (λ h. inr (n, omega arith, omega (arith, least-le-top n f)))

-- ---- the first that passes a test

-- none that passes stands before it
pub first-le : (n : ℕ) (t : ℕ → Bool) (k : ℕ) → t k ≡ true → first n t ≤ k
unfolding first
first-le zero t k e = omega arith
first-le (suc n) t zero e = rw e (omega arith)
first-le (suc n) t (suc k) e =
    let ih = first-le n (λ j. t (suc j)) k e in by-test (t 0) (λ h. rw h (omega arith)) (λ h. rw h (omega arith))

-- it passes
pub first-is : (n : ℕ) (t : ℕ → Bool) → first n t < n → t (first n t) ≡ true
unfolding first
first-is zero t h = absurd (not-suc-le-zero h)
first-is (suc n) t h =
    by-test (t 0) (λ e. rw e e) (λ e. rw e (first-is n (λ j. t (suc j)) (le_of_suc-le-suc (rw e at h))))

pub first_cong : (n : ℕ) (t u : ℕ → Bool) → ((k : ℕ) → t k ≡ u k) → first n t ≡ first n u
first_cong n t u h = ap (first n) (fun_ext h)
