-- For the code: the first that passes a test, as a loop finds it; a part of an area; each step of the walk finds its slot.
use mathlib.Core.Path.{◌≡◌, refl, sym, ap, ap₂, ◌∙◌}
use mathlib.Core.Logic.{◌⊎◌, inl, inr}
use mathlib.Core.Bool.{Bool, true, false, cond}
use mathlib.Core.List.{List, [], ◌∷◌}
use Prim.Native.Nat.{ℕ, zero, suc, ◌+◌, ◌<◌}
use native.Mathlib.Omega.{arith}
use lib.Dec.{eqb}
use lib.ListN.{drop, get_or}
use borrow.Author.Tests.{eqb-true, eq-eqb}
use Rattle.search.specs.Cost.{plus, least, first}
use Rattle.search.proofs.Cost.{plus-below, least-is, first-le, first-is}
use Rattle.search.specs.Walk.{best, choose_by}
use Rattle.optimum.specs.Strips.{Point, Instance, State, price, next, labels, value}
use Rattle.optimum.proofs.Slots.{Rising}
use Rattle.optimum.proofs.StripsHeld.{Fit, value-best, next-fit}

-- ---- the first that passes, as a loop finds it

-- the first below n that passes either of two tests that agree there
pub first_under : (n : ℕ) (t u : ℕ → Bool) → ((k : ℕ) → k < n → t k ≡ u k) → first n t ≡ first n u
unfolding first
first_under zero t u h = refl
first_under (suc n) t u h = ap₂ (λ (b : Bool) (z : ℕ). cond b 0 (suc z)) (h 0 (omega arith)) (first_under n (λ k. t (suc k)) (λ k. u (suc k)) (λ k l. h (suc k) (omega arith)))

pub first-at : (n : ℕ) (t : ℕ → Bool) (k : ℕ) → k < n → ((j : ℕ) → j < k → t j ≡ false) → t k ≡ true → first n t ≡ k
unfolding first
first-at zero t k h f e = absurd (omega arith)
first-at (suc n) t zero h f e = rw e
first-at (suc n) t (suc k) h f e = rw (f 0 (omega arith)) (ap suc (first-at n (λ j. t (suc j)) k (omega arith) (λ j l. f (suc j) (omega arith)) e))

pub first-none : (n : ℕ) (t : ℕ → Bool) → ((j : ℕ) → j < n → t j ≡ false) → first n t ≡ n
unfolding first
first-none zero t f = refl
first-none (suc n) t f = rw (f 0 (omega arith)) (ap suc (first-none n (λ j. t (suc j)) (λ j l. f (suc j) (omega arith))))

-- ---- a part of an area

pub at_drop : (l : List ℕ) (d i : ℕ) → get_or (drop d l) i 0 ≡ get_or l (d + i) 0
at_drop l zero i = ap (λ (z : ℕ). get_or l z 0) (omega arith)
at_drop [] (suc d) i = refl
at_drop (x ∷ l) (suc d) i = at_drop l d i ∙ ap (λ (z : ℕ). get_or (x ∷ l) z 0) later
  where
    later : suc (d + i) ≡ suc d + i
    later = omega arith

-- ---- the walk

module _ (P : Instance) (C R : ℕ) where
  open P use {slots, top}
  open slots use {m}

  -- ---- each step of the walk finds its slot, and the value stays below the sentinel

  module _ (rising : Rising P.slots) where
    pub walk_step : (s : Point) (ss : List Point) (x : State P) → Fit P rising x → value P x (s ∷ ss) < top
        → (choose_by (labels P) (value P) x s ss < m) × (price P x s (choose_by (labels P) (value P) x s ss) < top)
        × (value P (next P x s (choose_by (labels P) (value P) x s ss)) ss < top)
    unfolding choose_by
    walk_step s ss x l h = go (least-is top m f)
      where
        f : ℕ → ℕ
        f k = plus top (price P x s k) (best (labels P) (next P x s k) ss)

        t : ℕ → Bool
        t k = eqb (plus top (price P x s k) (value P (next P x s k) ss)) (value P x (s ∷ ss))

        here : value P x (s ∷ ss) ≡ least top m f
        here = value-best P rising x (s ∷ ss) l ∙ (unfold best in refl)

        there : (k : ℕ) → value P (next P x s k) ss ≡ best (labels P) (next P x s k) ss
        there k = value-best P rising (next P x s k) ss (next-fit P rising x s k l)

        found : (k : ℕ) → k < m → f k ≡ least top m f → (first m t < m) × (price P x s (first m t) < top) × (value P (next P x s (first m t)) ss < top)
        found k lk e =
            let tk : t k ≡ true = eq-eqb _ _ (ap (plus top (price P x s k)) (there k) ∙ e ∙ sym here) in
            let lf : first m t < m = omega (arith, first-le m t k tk) in
            let e' : plus top (price P x s (first m t)) (value P (next P x s (first m t)) ss) ≡ value P x (s ∷ ss) = eqb-true _ _ (first-is m t lf) in
            let b = plus-below top (price P x s (first m t)) (value P (next P x s (first m t)) ss) (omega arith) in
            (lf, b.0, b.1)

        go : (least top m f ≡ top) ⊎ ((k : ℕ) × (k < m) × (f k ≡ least top m f)) → (first m t < m) × (price P x s (first m t) < top) × (value P (next P x s (first m t)) ss < top)
        go (inl e) = absurd (omega (arith, here))
        go (inr (k, lk, e)) = found k lk e
