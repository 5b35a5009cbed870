-- Rule 2 by steps: the budget pays for every step exactly if no bounded colour opens more labels than its digit.
use mathlib.Core.Path.{◌≡◌, refl, sym}
use mathlib.Core.Logic.{◌⊎◌, inl, inr}
use mathlib.Core.Bool.{Bool, true, false, cond}
use mathlib.Core.List.{List, [], ◌∷◌}
use Prim.Native.Nat.{ℕ, suc, ◌+◌, ◌-◌, ◌≤◌, ◌<◌}
use native.Mathlib.Omega.{arith}
use lib.Dec.{eqb}
use lib.ListN.{set}
use borrow.Author.Tests.{eq-eqb, ne_eqb}
use Rattle.lists.proofs.Tests.{by-test, by_equal}
use Rattle.search.specs.Radix.{below}
use Rattle.optimum.specs.Strips.{Point, Instance}
use Rattle.optimum.proofs.Steps.{Pay, Pays, left, is_free, opened}

-- the digit of each colour that is bounded, and which are not
pub record Budgeted (P : Instance) (digit : ℕ → ℕ → ℕ) (unbounded : ℕ → Bool) : Type 0 where
  pub can-e : (s : Point) (k v : ℕ) → P.may s k ≡ true → below P.radices (P.draw_of s.c) v ≡ true → unbounded s.c ≡ false → 0 < digit s.c v
  pub can-i : (s : Point) (k v : ℕ) → (unbounded s.c ≡ true) ⊎ (0 < digit s.c v) → (P.may s k ≡ true) × (below P.radices (P.draw_of s.c) v ≡ true)
  pub same : (c v : ℕ) → unbounded c ≡ false → 0 < digit c v → digit c (v - P.draw_of c) + 1 ≡ digit c v
  pub other : (c d v : ℕ) → (unbounded c ≡ true) ⊎ (0 < digit c v) → (d ≡ c → ⊥) → digit d (v - P.draw_of c) ≡ digit d v

-- 1 for a site of colour c
abbrev pub is_of : ℕ → Point → ℕ
is_of c s = cond (eqb s.c c) 1 0

module _ (P : Instance) (digit : ℕ → ℕ → ℕ) (unbounded : ℕ → Bool) (B : Budgeted P digit unbounded) where
  -- one step
  less : (L : List ℕ) (v : ℕ) (s : Point) (k c : ℕ) → Pay P L v s k → unbounded c ≡ false
      → cond (is_free P L k) (is_of c s) 0 + digit c (left P L v s k) ≡ digit c v
  less L v s k c p u =
      by-test (is_free P L k)
      (λ f. rw f (by_equal c s.c
      (λ e. let q : unbounded s.c ≡ false = rw (← e) u in
      let g = B.same s.c v q (B.can-e s k v (p f).0 (p f).1 q) in
      rw (e, eq-eqb s.c s.c refl) (omega arith))
      (λ n. rw (ne_eqb s.c c (λ (e : s.c ≡ c). n (sym e))) (omega (arith, B.other s.c c v (can f) n)))))
      (λ f. rw f (omega arith))
    where
      can : is_free P L k ≡ true → (unbounded s.c ≡ true) ⊎ (0 < digit s.c v)
      can f = by-test (unbounded s.c) (λ e. inl e) (λ e. inr (B.can-e s k v (p f).0 (p f).1 e))

  -- THE BUDGET SUFFICES exactly if no bounded colour opens more labels than its digit
  pub pays-e : (ss : List Point) (ks : List ℕ) (L : List ℕ) (v : ℕ) → Pays P L v ss ks → (c : ℕ) → unbounded c ≡ false → opened P (is_of c) L ss ks ≤ digit c v
  unfolding Pays opened
  pays-e [] ks L v h c u = omega arith
  pays-e (s ∷ ss) [] L v h c u = omega arith
  pays-e (s ∷ ss) (k ∷ ks) L v h c u =
      omega (arith, less L v s k c h.0 u, pays-e ss ks (set L k (suc s.c)) (left P L v s k) h.1 c u)

  pub pays-i : (ss : List Point) (ks : List ℕ) (L : List ℕ) (v : ℕ) → ((c : ℕ) → unbounded c ≡ false → opened P (is_of c) L ss ks ≤ digit c v) → Pays P L v ss ks
  unfolding Pays opened
  pays-i [] ks L v h = tt
  pays-i (s ∷ ss) [] L v h = tt
  pays-i (s ∷ ss) (k ∷ ks) L v h = (pay, pays-i ss ks (set L k (suc s.c)) (left P L v s k) (λ c u. omega (arith, h c u, less L v s k c pay u)))
    where
      pay : Pay P L v s k
      pay f =
          B.can-i s k v (by-test (unbounded s.c) (λ e. inl e) (λ e. inr (
          let g : opened P (is_of s.c) L (s ∷ ss) (k ∷ ks) ≤ digit s.c v = h s.c e in
          let q : 1 + opened P (is_of s.c) (set L k (suc s.c)) ss ks ≤ digit s.c v = unfold opened in rw (f, eq-eqb s.c s.c refl) at g in
          omega arith)))
