-- THEOREM 4: the walk gives the first. For any states, sites, steps and costs.
use mathlib.Core.Path.{◌≡◌, refl, sym, ap, ap₂, ◌∙◌}
use mathlib.Core.Logic.{inl, inr, ◌↔◌}
use mathlib.Core.Option.{none, some}
use mathlib.Core.List.{List, [], ◌∷◌}
use Prim.Native.Nat.{ℕ, ◌≤◌, ◌<◌}
use native.Mathlib.Nat.{eq-or-lt_of_le, le_trans}
use native.Mathlib.Omega.{arith}
use lib.Dec.{eqb, ltb}
use borrow.Author.Tests.{eqb-true, eq-eqb, ltb-true, lt-ltb, le-ltb}
use Rattle.lists.proofs.Tests.{by-test, by_order, by-either}
use Rattle.search.specs.Walk.{Before, Process, best, cost_of, choose, walk, answer, Cheapest, choose_by, walk_by, answer_by}
use Rattle.search.specs.Cost.{plus}
use Rattle.search.proofs.Cost.{plus-le, plus-past, plus-mono, plus-cancel, plus-below, least-le-top, least-le, least-is, first-le, first-is, first_cong}

module _ {X Site : Type 0} (G : Process X Site) where
  open G use {top, m, price, next, final}

  best-le-top : (x : X) (ss : List Site) → best G x ss ≤ top
  unfolding best
  best-le-top x [] = omega arith
  best-le-top x (s ∷ ss) = least-le-top top m _

  cost-le-top : (x : X) (ss : List Site) (ks : List ℕ) → cost_of G x ss ks ≤ top
  unfolding cost_of
  cost-le-top x [] [] = omega arith
  cost-le-top x [] (k ∷ ks) = omega arith
  cost-le-top x (s ∷ ss) [] = omega arith
  cost-le-top x (s ∷ ss) (k ∷ ks) = by-test (ltb k m) (λ e. rw e (plus-le top _ _)) (λ e. rw e (omega arith))

  best-low : (x : X) (s : Site) (ss : List Site) (k : ℕ) → k < m → best G x (s ∷ ss) ≤ plus top (price x s k) (best G (next x s k) ss)
  unfolding best
  best-low x s ss k l = least-le top m (λ k. plus top (price x s k) (best G (next x s k) ss)) k l

  -- no sequence costs less than the least
  pub best-least : (ss : List Site) (x : X) (ks : List ℕ) → best G x ss ≤ cost_of G x ss ks
  unfolding best cost_of
  best-least [] x [] = omega arith
  best-least [] x (k ∷ ks) = omega arith
  best-least (s ∷ ss) x [] = least-le-top top m _
  best-least (s ∷ ss) x (k ∷ ks) =
      by-test (ltb k m)
      (λ e. rw e (le_trans (best-low x s ss k (ltb-true k m e)) (plus-mono top (price x s k) _ _ (best-least ss (next x s k) ks))))
      (λ e. rw e (least-le-top top m _))

  -- a slot below m keeps the least cost exactly if it passes the walk's test
  keeps-choose : (x : X) (s : Site) (ss : List Site) (k : ℕ) → plus top (price x s k) (best G (next x s k) ss) ≡ best G x (s ∷ ss) → choose G x s ss ≤ k
  unfolding choose
  keeps-choose x s ss k e = first-le m _ k (eq-eqb _ _ e)

  choose-keeps : (x : X) (s : Site) (ss : List Site) → choose G x s ss < m
      → plus top (price x s (choose G x s ss)) (best G (next x s (choose G x s ss)) ss) ≡ best G x (s ∷ ss)
  unfolding choose
  choose-keeps x s ss h = eqb-true _ _ (first-is m (λ k. eqb (plus top (price x s k) (best G (next x s k) ss)) (best G x (s ∷ ss))) h)

  -- where no slot keeps the least cost there is none
  none-keeps : (x : X) (s : Site) (ss : List Site) → m ≤ choose G x s ss → top ≡ best G x (s ∷ ss)
  unfolding best
  none-keeps x s ss h =
      by-either (least-is top m (λ k. plus top (price x s k) (best G (next x s k) ss)))
      (λ e. sym e)
      (λ q. absurd (omega (arith, keeps-choose x s ss q.0 q.2, q.1)))

  -- the walk's sequence has the least cost
  pub walk-cost : (ss : List Site) (x : X) → cost_of G x ss (walk G x ss) ≡ best G x ss
  unfolding cost_of walk best
  walk-cost [] x = refl
  walk-cost (s ∷ ss) x =
      let k = choose G x s ss in
      by_order m k
      (λ h. rw (le-ltb k m h) (none-keeps x s ss h))
      (λ h. rw (lt-ltb k m h) (ap (plus top (price x s k)) (walk-cost ss (next x s k)) ∙ choose-keeps x s ss h))

  -- a sequence of the least cost, if that is not none, starts with a lawful slot that keeps it, and goes on at the least cost
  abbrev Start : X → Site → List Site → ℕ → List ℕ → Type 0
  Start x s ss k ks =
      (plus top (price x s k) (best G (next x s k) ss) ≡ best G x (s ∷ ss)) × (cost_of G (next x s k) ss ks ≡ best G (next x s k) ss) × (best G (next x s k) ss < top)

  start : (x : X) (s : Site) (ss : List Site) (k : ℕ) (ks : List ℕ) → best G x (s ∷ ss) < top → cost_of G x (s ∷ ss) (k ∷ ks) ≡ best G x (s ∷ ss) → Start x s ss k ks
  unfolding cost_of
  start x s ss k ks h e =
      by_order m k
      (λ l. absurd (let q : top ≡ best G x (s ∷ ss) = rw (le-ltb k m l) at e in omega arith))
      (λ l.
      let a = price x s k in
      let b = best G (next x s k) ss in
      let c = cost_of G (next x s k) ss ks in
      let q : plus top a c ≡ best G x (s ∷ ss) = rw (lt-ltb k m l) at e in
      let bc : plus top a b ≤ plus top a c = plus-mono top a b c (best-least ss (next x s k) ks) in
      let kept : plus top a b ≡ best G x (s ∷ ss) = omega (arith, best-low x s ss k l) in
      let below : plus top a b < top = omega arith in
      let same : b ≡ c = plus-cancel top a b c (best-le-top (next x s k) ss) (cost-le-top (next x s k) ss ks) (kept ∙ sym q) below in
      (kept, sym same, (plus-below top a b below).1))

  -- it comes before every other of that cost
  pub walk_first : (ss : List Site) (x : X) (ks : List ℕ) → best G x ss < top → cost_of G x ss ks ≡ best G x ss → Before (walk G x ss) ks
  unfolding Before walk cost_of
  walk_first [] x [] h e = tt
  walk_first [] x (k ∷ ks) h e = omega arith
  walk_first (s ∷ ss) x [] h e = omega arith
  walk_first (s ∷ ss) x (k ∷ ks) h e =
      let st = start x s ss k ks h e in
      by-either (eq-or-lt_of_le (keeps-choose x s ss k st.0))
      (λ q. inr (q, rw q (walk_first ss (next x s k) ks st.2 st.1)))
      (λ l. inl l)

  -- THEOREM 4: the walk gives the first: a cheapest sequence, ahead of all others of its cost
  pub answer-first : (x : X) (ss : List Site) (js : List ℕ) → answer G x ss ≡ some js → Cheapest G x ss js
  unfolding answer
  answer-first x ss js e =
      by_order top (best G x ss)
      (λ h. absurd (let q : none ≡ some js = rw (le-ltb (best G x ss) top h) at e in let z : ◌≡◌ {A = ℕ} 0 1 = cc in omega arith))
      (λ h.
      let q : some (walk G x ss) ≡ some js = rw (lt-ltb (best G x ss) top h) at e in
      let w : walk G x ss ≡ js = cc in
      rw (← w) (record {
        lawful = rw (walk-cost ss x) h;
        lowest = λ ks. rw (walk-cost ss x) (best-least ss x ks);
        ahead = λ ks c. walk_first ss x ks h (c ∙ walk-cost ss x);
      }))

  -- THEOREM 4, none: the walk gives none exactly where every sequence costs none
  pub answer-none : (x : X) (ss : List Site) → answer G x ss ≡ none ↔ ((ks : List ℕ) → cost_of G x ss ks ≡ top)
  unfolding answer
  answer-none x ss = (
    λ e ks. by_order top (best G x ss)
        (λ h. omega (arith, best-least ss x ks, cost-le-top x ss ks))
        (λ h. let q : some (walk G x ss) ≡ none = rw (lt-ltb (best G x ss) top h) at e in let z : ◌≡◌ {A = ℕ} 0 1 = cc in omega arith),
    λ h. rw (le-ltb (best G x ss) top (omega (arith, walk-cost ss x, h (walk G x ss)))),
  )

  -- ---- a walk by another way to find the least cost, which need be right only at the states that are met

  chosen-below : (x : X) (s : Site) (ss : List Site) → best G x (s ∷ ss) < top
      → (price x s (choose G x s ss) < top) × (best G (next x s (choose G x s ss)) ss < top)
  chosen-below x s ss h =
      by_order m (choose G x s ss)
      (λ l. absurd (omega (arith, none-keeps x s ss l)))
      (λ l. let q = choose-keeps x s ss l in plus-below top _ _ (omega arith))

  module _ (value : X → List Site → ℕ) (Inv : X → Type 0) (right : (x : X) (ss : List Site) → Inv x → value x ss ≡ best G x ss)
      (onward : (x : X) (s : Site) (k : ℕ) → Inv x → price x s k < top → Inv (next x s k)) where
    same_step : (x : X) (s : Site) (ss : List Site) (k : ℕ) → Inv x
        → plus top (price x s k) (value (next x s k) ss) ≡ plus top (price x s k) (best G (next x s k) ss)
    same_step x s ss k i =
        by_order top (price x s k)
        (λ l. plus-past top (price x s k) _ l ∙ sym (plus-past top (price x s k) _ l))
        (λ l. ap (plus top (price x s k)) (right (next x s k) ss (onward x s k i l)))

    same-choice : (x : X) (s : Site) (ss : List Site) → Inv x → choose_by G value x s ss ≡ choose G x s ss
    unfolding choose_by choose
    same-choice x s ss i = first_cong m _ _ (λ k. ap₂ eqb (same_step x s ss k i) (right x (s ∷ ss) i))

    pub walk-by : (ss : List Site) (x : X) → Inv x → best G x ss < top → walk_by G value x ss ≡ walk G x ss
    unfolding walk_by walk
    walk-by [] x i h = refl
    walk-by (s ∷ ss) x i h =
        let b = chosen-below x s ss h in
        rw (same-choice x s ss i) (ap (λ (js : List ℕ). choose G x s ss ∷ js) (walk-by ss (next x s (choose G x s ss)) (onward x s (choose G x s ss) i b.0) b.1))

    pub answer-by : (ss : List Site) (x : X) → Inv x → answer_by G value x ss ≡ answer G x ss
    unfolding answer_by answer
    answer-by ss x i =
        by_order top (best G x ss)
        (λ h. rw (right x ss i, le-ltb (best G x ss) top h))
        (λ h. rw (right x ss i, lt-ltb (best G x ss) top h) (ap some (walk-by ss x i h)))
