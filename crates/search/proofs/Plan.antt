-- THEOREMS 3 and 4 at a budget.
use mathlib.Core.Path.{◌≡◌, refl, sym, ap, ◌∙◌, fun_ext}
use mathlib.Core.Logic.{◌⊎◌, inl, inr, ◌↔◌}
use mathlib.Core.Bool.{Bool, true, false, cond}
use mathlib.Core.Option.{none, some}
use mathlib.Core.List.{List, [], ◌∷◌, ◌++◌}
use Prim.Native.Nat.{ℕ, ◌-◌, ◌≤◌, ◌<◌, min}
use native.Mathlib.Omega.{arith}
use lib.Dec.{eqb}
use Rattle.lists.proofs.Tests.{by-test, by-either}
use Rattle.search.specs.Cost.{plus, least}
use Rattle.search.proofs.Cost.{least-le-top, least-cong, top-plus}
use Rattle.search.specs.Split.{conv, cheaper, never, just}
use Rattle.search.proofs.Split.{conv-just, semiring, sum-at, prod-free, conv-one, conv-comm}
use Rattle.search.specs.Strips.{holders, one_if, after, weigh, run}
use Rattle.search.proofs.Strips.{keeps, independent, table-in}
use Rattle.search.specs.Plan.{Filled, Rules, Laws, weight, T, Rest, State, price, next, process, Run, answer_rest}
use Rattle.search.specs.Walk.{best, answer, Cheapest, cost_of}
use Rattle.search.proofs.Walk.{answer-by, answer-first, answer-none}

filled-append : {A : Type 0} (K L : List A) → Filled K → Filled (K ++ L)
unfolding Filled
filled-append [] L h = absurd h
filled-append (p ∷ K) L h = tt

module _ {Strip Site : Type 0} (G : Rules Strip Site) where
  open G use {top, m, below, inside, cost, draw, children}

  module _ (laws : Laws G) where
    open laws use {splits as B, filled, parts}

    -- the table's equations, as the code computes them
    pub T-nil : (p : Strip) (v : ℕ) → T G [] p v ≡ 0
    unfolding T
    T-nil p v = refl

    pub T-out : (s : Site) (ss : List Site) (p : Strip) (v : ℕ) → inside p s ≡ false → T G (s ∷ ss) p v ≡ T G ss p v
    unfolding T
    T-out s ss p v e = rw e

    pub T-in : (s : Site) (ss : List Site) (p : Strip) (v : ℕ) → inside p s ≡ true
        → T G (s ∷ ss) p v ≡ least top m (λ k. cond (below (draw p s k) v) (plus top (cost p s k) (Rest G ss (children p s k) (v - draw p s k))) top)
    unfolding T Rest weight
    T-in s ss p v e =
        ap (λ (f : ℕ → ℕ). f v) (table-in cheaper (conv top below) (never top) (just top 0 0) m inside (weight G) children (λ p v. 0) s ss p e)
        ∙ sum-at top below B m _ v
        ∙ least-cong top m _ _ (λ k l. conv-just top below B (cost p s k) (draw p s k) _ v)

    pub T-le-top : (ss : List Site) (p : Strip) (v : ℕ) → T G ss p v ≤ top
    T-le-top [] p v = rw (T-nil p v) (omega arith)
    T-le-top (s ∷ ss) p v =
        by-test (inside p s) (λ e. rw (T-in s ss p v e) (least-le-top top m _)) (λ e. rw (T-out s ss p v e) (T-le-top ss p v))

    -- the budget split, one strip after the other; of one strip and of two
    pub Rest-cons : (ss : List Site) (p : Strip) (L : List Strip) (v : ℕ) → Rest G ss (p ∷ L) v ≡ conv top below (T G ss p) (Rest G ss L) v
    unfolding Rest T
    Rest-cons ss p L v = refl

    pub Rest-one : (ss : List Site) (p : Strip) (v : ℕ) → Rest G ss (p ∷ []) v ≡ T G ss p v
    unfolding Rest T
    Rest-one ss p v =
        ap (λ (f : ℕ → ℕ). f v) (conv-comm top below B (T G ss p) (just top 0 0)) ∙ conv-one top below B (T G ss p) v ∙ clip (T G ss p v) (T-le-top ss p v)
      where
        clip : (a : ℕ) → a ≤ top → min a top ≡ a
        clip a h = omega arith

    pub Rest-two : (ss : List Site) (p q : Strip) (v : ℕ) → Rest G ss (p ∷ q ∷ []) v ≡ conv top below (T G ss p) (T G ss q) v
    unfolding Rest T
    Rest-two ss p q v = ap (λ (f : ℕ → ℕ). conv top below (T G ss p) f v) (fun_ext (λ w. Rest-one ss q w))

    -- ---- the definition by steps, at a budget

    just-top : (e : ℕ) → never top ≡ just top top e
    unfolding never just
    just-top e = fun_ext (λ w. by-test (eqb w e) (λ q. rw q) (λ q. rw q))

    weigh-just : (s : Site) (k : ℕ) (L : List Strip) → weigh (never top) inside (weight G) s k L ≡ just top (weigh top inside cost s k L) (weigh 0 inside draw s k L)
    unfolding weigh weight
    weigh-just s k [] = just-top 0
    weigh-just s k (p ∷ L) = by-test (inside p s) (λ e. rw e) (λ e. rw e (weigh-just s k L))

    cond-plus : (b : Bool) (c z : ℕ) → cond b (plus top c z) top ≡ plus top (cond b c top) z
    cond-plus true c z = refl
    cond-plus false c z = sym (top-plus top z)

    never_less : (b : Bool) → cond b top top < top → ⊥
    never_less true h = omega arith
    never_less false h = omega arith

    filled-after : (s : Site) (k : ℕ) (L : List Strip) → Filled L → Filled (after inside children s k L)
    unfolding after Filled
    filled-after s k [] h = h
    filled-after s k (p ∷ L) h =
        by-test (inside p s) (λ e. rw e (filled-append (children p s k) L (filled p s k))) (λ e. rw e tt)

    run_is : (ss : List Site) (L : List Strip) (v : ℕ) → Filled L
        → run cheaper (conv top below) (never top) (just top 0 0) m inside (weight G) children (λ p v. 0) ss L v ≡ Run G ss L v
    unfolding run Run best price next Filled
    run_is [] [] v h = absurd h
    run_is [] (p ∷ L) v h = prod-free top below B p L v ∙ sym (omega arith)
    run_is (s ∷ ss) L v h =
        sum-at top below B m _ v
        ∙ least-cong top m _ _ (λ k l.
        rw (weigh-just s k L)
        (conv-just top below B (weigh top inside cost s k L) (weigh 0 inside draw s k L) _ v
        ∙ cond-plus (below (weigh 0 inside draw s k L) v) (weigh top inside cost s k L) _
        ∙ ap (plus top (price G (L, v) s k)) (run_is ss (after inside children s k L) (v - weigh 0 inside draw s k L) (filled-after s k L h))))

    parts-weight : (p : Strip) (s : Site) (k : ℕ) → (weight G p s k ≡ never top) ⊎ ((t : Site) → holders inside t (children p s k) ≡ one_if (inside p t))
    unfolding weight
    parts-weight p s k = by-either (parts p s k) (λ e. inl (rw e (sym (just-top (draw p s k))))) (λ h. inr h)

    -- THEOREM 3 at a budget: what the definition by steps finds is the table, the budget split between the strips, where one strip holds each site and
    -- a lawful step puts in a strip's place strips that part it.
    pub strips-independent : (ss : List Site) (L : List Strip) (v : ℕ) → Filled L → ((t : Site) → holders inside t L ≡ 1) → Run G ss L v ≡ Rest G ss L v
    unfolding Rest
    strips-independent ss L v f h =
        sym (run_is ss L v f)
        ∙ ap (λ (g : ℕ → ℕ). g v) (independent cheaper (conv top below) (never top) (just top 0 0) m inside (weight G) children (λ p v. 0) parts-weight (semiring top below B) ss L h)

    -- what holds of every state that is met: there are strips, and one holds each site
    abbrev pub Whole : State G → Type 0
    Whole x = Filled x.0 × ((t : Site) → holders inside t x.0 ≡ 1)

    keeps-whole : (x : State G) (s : Site) (k : ℕ) → Whole x → price G x s k < top → Whole (next G x s k)
    unfolding price next
    keeps-whole x s k h l =
        by-either (keeps min (plus top) top 0 m inside cost children (λ p. 0) parts s k x.0)
        (λ e. absurd (never_less (below (weigh 0 inside draw s k x.0) x.1) (rw e at l)))
        (λ q. (filled-after s k x.0 h.0, λ t. q t ∙ h.1 t))

    -- THEOREM 4 for the code's walk, which goes by the table: it answers as the walk by the definition does.
    pub walks-agree : (ss : List Site) (L : List Strip) (v : ℕ) → Filled L → ((t : Site) → holders inside t L ≡ 1)
        → answer_rest G ss L v ≡ answer (process G) (L, v) ss
    unfolding answer_rest
    walks-agree ss L v f h =
        answer-by (process G) (λ x ss. Rest G ss x.0 x.1) Whole
        (λ x ss w. sym (strips-same ss x w)) (λ x s k w l. keeps-whole x s k w l) ss (L, v) (f, h)
      where
        strips-same : (ss : List Site) (x : State G) → Whole x → best (process G) x ss ≡ Rest G ss x.0 x.1
        strips-same ss x w = unfold Run in strips-independent ss x.0 x.1 w.0 w.1

    -- THEOREMS 3 AND 4 TOGETHER, for any strips, steps and costs, ends in themselves: so it gives the first
    pub walk-gives-first : (ss : List Site) (L : List Strip) (v : ℕ) (js : List ℕ) → Filled L → ((t : Site) → holders inside t L ≡ 1)
        → answer_rest G ss L v ≡ some js → Cheapest (process G) (L, v) ss js
    walk-gives-first ss L v js f h e = answer-first (process G) (L, v) ss js (sym (walks-agree ss L v f h) ∙ e)

    -- and none exactly where every sequence costs none
    pub walk-gives-none : (ss : List Site) (L : List Strip) (v : ℕ) → Filled L → ((t : Site) → holders inside t L ≡ 1)
        → answer_rest G ss L v ≡ none ↔ ((ks : List ℕ) → cost_of (process G) (L, v) ss ks ≡ top)
    walk-gives-none ss L v f h = rw (walks-agree ss L v f h) (answer-none (process G) (L, v) ss)
