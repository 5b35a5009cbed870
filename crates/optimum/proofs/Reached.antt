-- The walk meets only strips that are reached, and reached strips are in range: a table that is right where it is asked will do.
use mathlib.Core.Path.{◌≡◌, refl, sym, ap, ◌∙◌, subst}
use mathlib.Core.Logic.{◌⊎◌, inl, inr}
use mathlib.Core.Bool.{Bool, true, false, cond, ◌||◌}
use mathlib.Core.List.{List, [], ◌∷◌, ◌++◌}
use Prim.Native.Nat.{ℕ, zero, suc, ◌+◌, ◌*◌, ◌≤◌, ◌<◌}
use native.Mathlib.Omega.{arith}
use lib.ListN.{length, get_or, replicate, drop}
use borrow.Author.Tests.{eq-eqb}
use Rattle.lists.proofs.Tests.{by-test, by-either, clash}
use Rattle.search.specs.Radix.{below}
use Rattle.search.specs.Strips.{holders, after, weigh}
use Rattle.search.specs.Plan.{T, price as strip_price, next as strip_next}
use Rattle.optimum.specs.Strips.{Point, Strip, Instance, inside, opens, joins_up, joins_down, cost, draw, children, rules_of, strips_from, strips, State, price, next}
use Rattle.optimum.specs.Cells.{cells, cell_of}
use Rattle.optimum.specs.Reached.{In, no_point, steps, whole_sheet, Reached, TableOf}
use Rattle.optimum.proofs.Slots.{Rising}
use Rattle.optimum.proofs.StripsHeld.{Fit, strips-hold, price-read, next-read}
use Rattle.optimum.proofs.Pairs.{zeros}
use Rattle.optimum.proofs.Levels.{Coloured, InRange, asked-range}

-- the empty sheet has one strip
pub empty-strips : (P : Instance) (L M : List ℕ) → ((j : ℕ) → get_or L j 0 ≡ 0) → get_or M 0 0 ≡ 0 → (r i : ℕ) → strips_from P r i 0 0 L M ≡ record { a = 0; ca = 0; b = suc (r + i); cb = 0; d = 0 } ∷ []
unfolding strips_from
empty-strips P L M h g zero i = rw g (ap (λ (b : ℕ). record { a = 0; ca = 0; b = suc b; cb = 0; d = 0 } ∷ []) (omega arith))
empty-strips P L M h g (suc r) i =
    rw (eq-eqb (get_or L i 0) 0 (h i)) (empty-strips P L M h g r (suc i) ∙ ap (λ (b : ℕ). record { a = 0; ca = 0; b = suc b; cb = 0; d = 0 } ∷ []) (omega arith))

in-append : (A B : List Strip) (q : Strip) → In q (A ++ B) → In q A ⊎ In q B
unfolding In
in-append [] B q h = inr h
in-append (p ∷ A) B q (inl e) = inl (inl e)
in-append (p ∷ A) B q (inr h) = by-either (in-append A B q h) (λ i. inl (inr i)) (λ i. inr i)

-- a site's colour, by its place
pub coloured-at : (C : ℕ) (ss : List Point) → Coloured C ss → (j : ℕ) → j < length ss → (get_or ss j no_point).c < C
unfolding Coloured
coloured-at C [] h j l = absurd (omega arith)
coloured-at C (s ∷ ss) h zero l = h.0
coloured-at C (s ∷ ss) h (suc j) l = coloured-at C ss h.1 j (omega arith)

module _ (P : Instance) where
  open P use {slots, top, mark_count, turn, radices}
  open slots use {m}

  -- where no strip of a list holds a site, none of its members does
  none-holds : (t : Point) (L : List Strip) → holders (inside P) t L ≡ 0 → (q : Strip) → In q L → inside P q t ≡ false
  unfolding holders In
  none-holds t [] h q i = absurd i
  none-holds t (p ∷ L) h q i =
      by-test (inside P p t)
      (λ e. absurd (let z : 1 + holders (inside P) t L ≡ 0 = rw e at h in omega arith))
      (λ e. by-either i (λ z. ap (λ (r : Strip). inside P r t) z ∙ e) (λ u. none-holds t L (let z : 0 + holders (inside P) t L ≡ 0 = rw e at h in omega arith) q u))

  -- a strip after a step was there before and does not hold the site, or is a part of the one that does
  in_after : (s : Point) (k : ℕ) (L : List Strip) → holders (inside P) s L ≡ 1 → (q : Strip) → In q (after (inside P) (children P) s k L)
      → (In q L × (inside P q s ≡ false)) ⊎ ((p : Strip) × In p L × (inside P p s ≡ true) × In q (children P p s k))
  unfolding after holders In
  in_after s k [] h q i = absurd i
  in_after s k (p ∷ L) h q i =
      by-test (inside P p s)
      (λ e. let z : 1 + holders (inside P) s L ≡ 1 = rw e at h in
      let n : holders (inside P) s L ≡ 0 = omega arith in
      by-either (in-append (children P p s k) L q (rw e at i))
      (λ u. inr (p, inl refl, e, u))
      (λ u. inl (inr u, none-holds s L n q u)))
      (λ e. let g : (q ≡ p) ⊎ In q (after (inside P) (children P) s k L) = rw e at i in
      by-either g
      (λ z. inl (inl z, ap (λ (r : Strip). inside P r s) z ∙ e))
      (λ u. by-either (in_after s k L (let z : 0 + holders (inside P) s L ≡ 1 = rw e at h in omega arith) q u)
      (λ w. inl (inr w.0, w.1))
      (λ w. inr (w.0, inr w.1, w.2, w.3))))

  -- the weight of a step is that of the strip that holds the site
  weigh-in : (none : ℕ) (w : Strip → Point → ℕ → ℕ) (s : Point) (k : ℕ) (L : List Strip) → holders (inside P) s L ≡ 1 → (p : Strip) → In p L → inside P p s ≡ true
      → weigh none (inside P) w s k L ≡ w p s k
  unfolding weigh holders In
  weigh-in none w s k [] h p i e = absurd i
  weigh-in none w s k (r ∷ L) h p i e =
      by-test (inside P r s)
      (λ t. let z : 1 + holders (inside P) s L ≡ 1 = rw t at h in
      let n : holders (inside P) s L ≡ 0 = omega arith in
      rw t (by-either i (λ q. ap (λ (u : Strip). w u s k) (sym q)) (λ u. clash e (none-holds s L n p u))))
      (λ t. rw t (by-either i
      (λ q. clash (sym (ap (λ (u : Strip). inside P u s) q) ∙ e) t)
      (λ u. weigh-in none w s k L (let z : 0 + holders (inside P) s L ≡ 1 = rw t at h in omega arith) p u e)))

  -- a step that costs less than none is up, down or opens
  cost-steps : (p : Strip) (s : Point) (k : ℕ) → cost P p s k < top → steps P p s k ≡ true
  unfolding cost
  cost-steps p s k h =
      by-test (opens P p s k)
      (λ e. rw e)
      (λ e. by-test (joins_up P p s k || joins_down P p s k)
      (λ j. rw (e, j))
      (λ j. absurd (let z : top < top = rw (e, j) at h in omega arith)))

  under-cond : (b : Bool) (c : ℕ) → cond b c top < top → c < top
  under-cond true c h = h
  under-cond false c h = absurd (omega arith)

  module _ (rising : Rising P.slots) where
    price-steps : (x : State P) (s : Point) (k : ℕ) → price P x s k < top → (p : Strip) → In p (strips P x.0 x.2) → inside P p s ≡ true → steps P p s k ≡ true
    unfolding strip_price
    price-steps x s k h p i e =
        let w = weigh-in top (cost P) s k (strips P x.0 x.2) (strips-hold P rising x.0 x.2 s) p i e in
        let g : weigh top (inside P) (cost P) s k (strips P x.0 x.2) < top = under-cond (below radices (weigh 0 (inside P) (draw P) s k (strips P x.0 x.2)) x.1) _ (rw (price-read P rising x s k) at h) in
        cost-steps p s k (omega arith)

    -- THE STRIPS OF THE WALK'S STATES ARE REACHED: at the start, and after each lawful step
    pub reached-start : (ss : List Point) (q : Strip) → In q (strips P (replicate m 0) (replicate (suc m) 0)) → Reached P ss 0 q
    unfolding Reached In strips
    reached-start ss q i = one (rw (empty-strips P (replicate m 0) (replicate (suc m) 0) (zeros m) refl m 0) at i)
      where
        one : (q ≡ record { a = 0; ca = 0; b = suc (m + 0); cb = 0; d = 0 }) ⊎ ⊥ → q ≡ whole_sheet P
        one (inl e) = e ∙ ap (λ (b : ℕ). record { a = 0; ca = 0; b = suc b; cb = 0; d = 0 }) (omega arith)
        one (inr z) = elim z [ ]

    pub reached-next : (ss : List Point) (j : ℕ) (x : State P) (k : ℕ) → Fit P rising x → k < m → price P x (get_or ss j no_point) k < top
        → ((q : Strip) → In q (strips P x.0 x.2) → Reached P ss j q)
        → (q : Strip) → In q (strips P (next P x (get_or ss j no_point) k).0 (next P x (get_or ss j no_point) k).2) → Reached P ss (suc j) q
    unfolding Reached strip_next
    reached-next ss j x k f lk h all q i =
        by-either (in_after (get_or ss j no_point) k (strips P x.0 x.2) (strips-hold P rising x.0 x.2 (get_or ss j no_point)) q (subst (λ (L : List Strip). In q L) here i))
        (λ w. (q, all q w.0, inl (w.1, refl)))
        (λ w. (w.0, all w.0 w.1, inr (w.2, (k, lk, price-steps x (get_or ss j no_point) k h w.0 w.1 w.2, w.3))))
      where
        here : strips P (next P x (get_or ss j no_point) k).0 (next P x (get_or ss j no_point) k).2 ≡ after (inside P) (children P) (get_or ss j no_point) k (strips P x.0 x.2)
        here = ap (λ (z : List Strip × ℕ). z.0) (next-read P rising x (get_or ss j no_point) k f h)

  -- what is reached is in range
  pub reached-range : (C R : ℕ) (rising : Rising P.slots) (turn_low : (s : Point) (k : ℕ) → turn s k < mark_count) (ss : List Point) → Coloured C ss → 0 < mark_count
      → (j : ℕ) → j ≤ length ss → (q : Strip) → Reached P ss j q → InRange P C R q
  unfolding Reached
  reached-range C R rising turn_low ss c kp zero l q e = subst (InRange P C R) (sym e) (record { ra = omega arith; rca = omega arith; rb = omega arith; rcb = omega arith; rd = kp })
  reached-range C R rising turn_low ss c kp (suc j) l q (p, r, a) =
      asked-range P C R rising turn_low p (get_or ss j no_point) q (coloured-at C ss c j (omega arith)) (reached-range C R rising turn_low ss c kp j (omega arith) p r) a

  -- the rows that a state's value asks for, from a table that is right where it is asked
  pub reached-rows : (C R : ℕ) (ss : List Point) (work : List ℕ) → TableOf P C R ss work → (j : ℕ) → j ≤ length ss → (q : Strip) → Reached P ss j q
      → (v : ℕ) → v < R → get_or work (j * cells P C R + cell_of P C R q v) 0 ≡ T (rules_of P) (drop j ss) q v
  unfolding TableOf
  reached-rows C R ss work t j l q r v lv = t j q v l r lv
