-- The cells hold the table, and the walk by cells is the walk by the table, where the sites' colours are below C.
use mathlib.Core.Path.{◌≡◌, refl, sym, ap, ap₂, ◌∙◌, subst}
use mathlib.Core.Logic.{◌⊎◌, inl, inr}
use mathlib.Core.Bool.{true, cond, ◌||◌}
use mathlib.Core.List.{List, [], ◌∷◌}
use mathlib.Core.Option.{none, some}
use Prim.Native.Nat.{ℕ, zero, suc, ◌+◌, ◌-◌, ◌*◌, ◌≤◌, ◌<◌}
use native.Mathlib.Omega.{arith}
use lib.Dec.{eqb, ltb}
use lib.ListN.{length, get_or, set, replicate}
use lib.Arith.{digits_div, digits_mod}
use Rattle.lists.proofs.Tests.{by-test, by_order, by_equal, by-either}
use Rattle.search.specs.Cost.{plus, least}
use Rattle.search.proofs.Cost.{least-cong, first_cong, top-plus}
use Rattle.search.specs.Semi.{fold}
use Rattle.search.proofs.Semi.{fold-prod, one-prod}
use Rattle.search.specs.Split.{conv, just}
use Rattle.search.proofs.Split.{semiring}
use Rattle.search.specs.Radix.{below}
use Rattle.search.proofs.Radix.{below-splits}
use Rattle.search.proofs.Sums.{listing-first}
use Rattle.search.specs.Plan.{T, Rest}
use Rattle.search.proofs.Plan.{T-nil, T-in, T-out, Rest-one, Rest-two}
use Rattle.search.specs.Walk.{answer_by, walk_by, choose_by}
use Rattle.optimum.specs.Strips.{Point, Strip, Instance, inside, marked, opens, joins_up, joins_down, cost, draw, children, rules_of, strips_from, strips, State, next, labels, value}
use Rattle.optimum.specs.Reached.{In, steps, Asks}
use Rattle.optimum.specs.Cells.{cells, cell_of, strip_at, budget_at, split_cells, step_cell, entry_of, level, join_cells, fold_cells, start_cells, value_cells}
use Rattle.optimum.proofs.Slots.{Rising}
use Rattle.optimum.proofs.StripsHeld.{laws, set_other, set_same}
use Rattle.optimum.proofs.Pairs.{zeros}

-- a place of a table of X rows of B
pub pack-lt : (x y X B : ℕ) → x < X → y < B → x * B + y < X * B
pack-lt x y X B h k =
    let e : X ≡ suc x + (X - suc x) = omega arith in
    omega (arith, ap (λ (z : ℕ). z * B) e)

set_past : (L : List ℕ) (k c : ℕ) → length L ≤ k → set L k c ≡ L
set_past [] k c h = refl
set_past (u ∷ L) zero c h = absurd (omega arith)
set_past (u ∷ L) (suc k) c h = ap (λ (z : List ℕ). u ∷ z) (set_past L k c (omega arith))

set-under : (L : List ℕ) (k c b : ℕ) → c < b → ((j : ℕ) → get_or L j 0 < b) → (j : ℕ) → get_or (set L k c) j 0 < b
set-under L k c b h f j =
    by_equal j k
    (λ e. by_order (length L) k (λ l. rw (set_past L k c l) (f j)) (λ l. rw (e, set_same L k c l) h))
    (λ n. rw (set_other L k c j n) (f j))

-- the sites' colours are below C
unfoldable pub Coloured : ℕ → List Point → Type 0
Coloured C [] = Unit
Coloured C (s ∷ ss) = (s.c < C) × Coloured C ss

module _ (P : Instance) (C R : ℕ) where
  open P use {slots, top, mark_count, turn, lead, draw_of, radices, word}
  open slots use {m, height, share}

  pub record InRange (p : Strip) : Type 0 where
    pub ra : p.a < m + 2
    pub rca : p.ca < C + 1
    pub rb : p.b < m + 2
    pub rcb : p.cb < C + 1
    pub rd : p.d < mark_count

  pub cell-low : (p : Strip) (v : ℕ) → InRange p → v < R → cell_of P C R p v < cells P C R
  unfolding cell_of
  cell-low p v r h =
      pack-lt _ v _ R (pack-lt _ p.d _ mark_count (pack-lt _ p.cb _ (C + 1) (pack-lt _ p.b _ (m + 2) (pack-lt p.a p.ca (m + 2) (C + 1) r.ra r.rca) r.rb) r.rcb) r.rd) h

  pub budget-cell : (p : Strip) (v : ℕ) → v < R → budget_at P C R (cell_of P C R p v) ≡ v
  unfolding cell_of budget_at
  budget-cell p v h = digits_mod _ h

  pub strip-cell : (p : Strip) (v : ℕ) → InRange p → v < R → strip_at P C R (cell_of P C R p v) ≡ p
  unfolding cell_of strip_at
  strip-cell p v r h =
      let d₀ = digits_div ((((p.a * (C + 1) + p.ca) * (m + 2) + p.b) * (C + 1) + p.cb) * mark_count + p.d) h in
      let d₁ = digits_div (((p.a * (C + 1) + p.ca) * (m + 2) + p.b) * (C + 1) + p.cb) r.rd in
      let d₂ = digits_div ((p.a * (C + 1) + p.ca) * (m + 2) + p.b) r.rcb in
      let d₃ = digits_div (p.a * (C + 1) + p.ca) r.rb in
      rw (d₀, d₁, d₂, d₃, digits_div p.a r.rca, digits_mod p.a r.rca, digits_mod (p.a * (C + 1) + p.ca) r.rb, digits_mod ((p.a * (C + 1) + p.ca) * (m + 2) + p.b) r.rcb, digits_mod (((p.a * (C + 1) + p.ca) * (m + 2) + p.b) * (C + 1) + p.cb) r.rd)

  -- one row, and the level, hold the table of the sites ss
  abbrev pub Row : List ℕ → List Point → Strip → Type 0
  Row low ss p = (v : ℕ) → v < R → get_or low (cell_of P C R p v) 0 ≡ T (rules_of P) ss p v

  abbrev pub Level : List ℕ → List Point → Type 0
  Level low ss = (p : Strip) (v : ℕ) → InRange p → v < R → get_or low (cell_of P C R p v) 0 ≡ T (rules_of P) ss p v

  module _ (rising : Rising P.slots) where
    pub split-two : (low : List ℕ) (ss : List Point) (p q : Strip) (u : ℕ) → Row low ss p → Row low ss q → u < R
        → split_cells P C R low p q u ≡ Rest (rules_of P) ss (p ∷ q ∷ []) u
    unfolding split_cells conv
    split-two low ss p q u f g l =
        least-cong top (suc u) _ _ (λ w lw. ap₂ (λ (a b : ℕ). cond (below radices w u) (plus top a b) top) (f w (omega arith)) (g (u - w) (omega arith)))
        ∙ sym (Rest-two (rules_of P) (laws P rising) ss p q u)

    -- a step from the rows of the strips that it leads to
    pub step-cell : (low : List ℕ) (ss : List Point) (p : Strip) (s : Point) (k v : ℕ) → (steps P p s k ≡ true → (q : Strip) → In q (children P p s k) → Row low ss q) → v < R
        → step_cell P C R low p s k v ≡ cond (below radices (draw P p s k) v) (plus top (cost P p s k) (Rest (rules_of P) ss (children P p s k) (v - draw P p s k))) top
    unfolding step_cell draw cost children In
    step-cell low ss p s k v rows lv =
        by-test (opens P p s k)
        (λ e. let f = rows (rw e) in
        rw e (ap (λ (z : ℕ). cond (below radices (draw_of s.c) v) (plus top (word 1 (lead s.x + share (height k) s.y)) z) top)
        (split-two low ss _ _ (v - draw_of s.c) (f _ (rw e (inl refl))) (f _ (rw e (inr (inl refl)))) (omega arith))))
        (λ e. rw (e, (below-splits radices).nothing v)
        (by-test (joins_up P p s k || joins_down P p s k)
        (λ j. let one = ap (Rest (rules_of P) ss (part ∷ [])) sub ∙ Rest-one (rules_of P) (laws P rising) ss part v ∙ sym (rows (rw (e, j)) part (rw e (inl refl)) v lv) in rw (j, one))
        (λ j. rw j (sym (top-plus top _)))))
      where
        part : Strip
        part = record { a = p.a; ca = p.ca; b = p.b; cb = p.cb; d = turn s k }

        sub : v - 0 ≡ v
        sub = omega arith

    -- an entry from the rows of the strips that it asks for
    pub entry-asked : (low : List ℕ) (s : Point) (ss : List Point) (p : Strip) (v : ℕ) → ((q : Strip) → Asks P p s q → Row low ss q) → v < R
        → cond (inside P p s) (least top m (λ k. step_cell P C R low p s k v)) (get_or low (cell_of P C R p v) 0) ≡ T (rules_of P) (s ∷ ss) p v
    entry-asked low s ss p v rows lv =
        by-test (inside P p s)
        (λ e. rw e (least-cong top m _ _ (λ k l. step-cell low ss p s k v (λ t q i. rows q (inr (e, (k, l, t, i)))) lv) ∙ sym (T-in (rules_of P) (laws P rising) s ss p v e)))
        (λ e. rw e (rows p (inl (e, refl)) v lv ∙ sym (T-out (rules_of P) (laws P rising) s ss p v e)))

  module _ (rising : Rising P.slots) (turn_low : (s : Point) (k : ℕ) → turn s k < mark_count) where
    -- what a strip in range asks for is in range
    pub asked-range : (p : Strip) (s : Point) (q : Strip) → s.c < C → InRange p → Asks P p s q → InRange q
    unfolding children In
    asked-range p s q c r (inl (e, i)) = subst InRange (sym i) r
    asked-range p s q c r (inr (e, (k, l, t, i))) =
        by-test (opens P p s k)
        (λ o. two (rw o at i))
        (λ o. one (rw o at i))
      where
        upper : Strip
        upper = record { a = p.a; ca = p.ca; b = suc k; cb = suc s.c; d = turn s k }

        lower : Strip
        lower = record { a = suc k; ca = suc s.c; b = p.b; cb = p.cb; d = 0 }

        same : Strip
        same = record { a = p.a; ca = p.ca; b = p.b; cb = p.cb; d = turn s k }

        two : (q ≡ upper) ⊎ ((q ≡ lower) ⊎ ⊥) → InRange q
        two (inl z) = subst InRange (sym z) (record { ra = r.ra; rca = r.rca; rb = omega arith; rcb = omega arith; rd = turn_low s k })
        two (inr (inl z)) = subst InRange (sym z) (record { ra = omega arith; rca = omega arith; rb = r.rb; rcb = r.rcb; rd = omega (arith, turn_low s k) })
        two (inr (inr z)) = elim z [ ]

        one : (q ≡ same) ⊎ ⊥ → InRange q
        one (inl z) = subst InRange (sym z) (record { ra = r.ra; rca = r.rca; rb = r.rb; rcb = r.rcb; rd = turn_low s k })
        one (inr z) = elim z [ ]

    -- a level from the one below it
    pub level-cons : (low high : List ℕ) (s : Point) (ss : List Point) → s.c < C → Level low ss → ((i : ℕ) → i < cells P C R → get_or high i 0 ≡ entry_of P C R low s i) → Level high (s ∷ ss)
    unfolding entry_of
    level-cons low high s ss c h g p v r lv =
        g _ (cell-low p v r lv)
        ∙ ap₂ (λ (q : Strip) (w : ℕ). cond (inside P q s) (least top m (λ k. step_cell P C R low q s k w)) (get_or low (cell_of P C R p v) 0)) (strip-cell p v r lv) (budget-cell p v lv)
        ∙ entry-asked rising low s ss p v (λ q i u lu. h q u (asked-range p s q c r i) lu) lv

    pub level-nil : Level (replicate (cells P C R) 0) []
    level-nil p v r lv = zeros (cells P C R) (cell_of P C R p v) ∙ sym (T-nil (rules_of P) (laws P rising) p v)

    pub level_holds : (ss : List Point) → Coloured C ss → Level (level P C R ss) ss
    unfolding level Coloured
    level_holds [] h = level-nil
    level_holds (s ∷ ss) h = level-cons (level P C R ss) (level P C R (s ∷ ss)) s ss h.0 (level_holds ss h.1) (listing-first (entry_of P C R (level P C R ss) s) (cells P C R))

    -- ---- the budget split over the strips between the open labels

    abbrev pub Holds : List ℕ → (ℕ → ℕ) → Type 0
    Holds acc f = (v : ℕ) → v < R → get_or acc v 0 ≡ f v

    pub join-cells : (low : List ℕ) (ss : List Point) (acc : List ℕ) (f : ℕ → ℕ) → Holds acc f → (p : Strip) → Row low ss p
        → Holds (join_cells P C R low acc p) (conv top (below radices) f (T (rules_of P) ss p))
    unfolding join_cells conv
    join-cells low ss acc f a p h v l =
        listing-first _ R v l
        ∙ least-cong top (suc v) _ _ (λ w lw. ap₂ (λ (x y : ℕ). cond (below radices w v) (plus top x y) top) (a w (omega arith)) (h (v - w) (omega arith)))

    pub fold-cells : (low : List ℕ) (ss : List Point) (L M : List ℕ) (r i a ca : ℕ) (acc : List ℕ) (f : ℕ → ℕ)
        → ((p : Strip) → In p (strips_from P r i a ca L M) → Row low ss p) → Holds acc f
        → Holds (fold_cells P C R low r i a ca L M acc) (fold (conv top (below radices)) (T (rules_of P) ss) f (strips_from P r i a ca L M))
    unfolding fold_cells strips_from fold In
    fold-cells low ss L M zero i a ca acc f rows q = join-cells low ss acc f q _ (rows _ (inl refl))
    fold-cells low ss L M (suc r) i a ca acc f rows q =
        by-test (eqb (get_or L i 0) 0)
        (λ t. rw t (fold-cells low ss L M r (suc i) a ca acc f (λ p u. rows p (rw t u)) q))
        (λ t. rw t (fold-cells low ss L M r (suc i) (suc i) (get_or L i 0) _ _ (λ p u. rows p (rw t (inr u)))
        (join-cells low ss acc f q _ (rows _ (rw t (inl refl))))))

    -- the strips of a state are in range
    strips-range : (L M : List ℕ) → ((j : ℕ) → get_or L j 0 < C + 1) → ((j : ℕ) → get_or M j 0 < mark_count) → (r i a ca : ℕ) → r + i ≡ m → a ≤ i → ca < C + 1
        → (p : Strip) → In p (strips_from P r i a ca L M) → InRange p
    unfolding strips_from In
    strips-range L M c k zero i a ca e ai ac p (inl z) = subst InRange (sym z) (record { ra = omega arith; rca = ac; rb = omega arith; rcb = omega arith; rd = k a })
    strips-range L M c k zero i a ca e ai ac p (inr z) = absurd z
    strips-range L M c k (suc r) i a ca e ai ac p h =
        by-test (eqb (get_or L i 0) 0)
        (λ t. strips-range L M c k r (suc i) a ca (omega arith) (omega arith) ac p (rw t at h))
        (λ t. let g : (p ≡ record { a = a; ca = ca; b = suc i; cb = get_or L i 0; d = get_or M a 0 }) ⊎ In p (strips_from P r (suc i) (suc i) (get_or L i 0) L M) = rw t at h in
        by-either g
        (λ z. subst InRange (sym z) (record { ra = omega arith; rca = ac; rb = omega arith; rcb = c i; rd = k a }))
        (λ u. strips-range L M c k r (suc i) (suc i) (get_or L i 0) (omega arith) (omega arith) (c i) p u))

    rest-fold : (ss : List Point) (L : List Strip) → Rest (rules_of P) ss L ≡ fold (conv top (below radices)) (T (rules_of P) ss) (just top 0 0) L
    unfolding Rest T
    rest-fold ss L =
        let S = semiring top (below radices) (below-splits radices) in
        sym (fold-prod S (T (rules_of P) ss) L (just top 0 0) S.one-one ∙ one-prod S (T (rules_of P) ss) L)

    -- THE VALUE of a state is read off the rows of its strips
    pub value-rows : (low : List ℕ) (ss : List Point) (x : State P) → x.1 < R → ((p : Strip) → In p (strips P x.0 x.2) → Row low ss p)
        → get_or (fold_cells P C R low m 0 0 0 x.0 x.2 (start_cells P C R)) x.1 0 ≡ value P x ss
    unfolding value start_cells strips
    value-rows low ss x l rows =
        fold-cells low ss x.0 x.2 m 0 0 0 _ (just top 0 0) rows (listing-first (just top 0 0) R) x.1 l
        ∙ ap (λ (f : ℕ → ℕ). f x.1) (sym (rest-fold ss (strips_from P m 0 0 0 x.0 x.2)))

    pub value-cells : (ss : List Point) → Coloured C ss → (x : State P) → ((j : ℕ) → get_or x.0 j 0 < C + 1) → x.1 < R → ((j : ℕ) → get_or x.2 j 0 < mark_count) → value_cells P C R x ss ≡ value P x ss
    unfolding value_cells strips
    value-cells ss h x c l k =
        value-rows (level P C R ss) ss x l (λ p i v lv. level_holds ss h p v (strips-range x.0 x.2 c k m 0 0 0 (omega arith) (omega arith) (omega arith) p i) lv)

    -- ---- the walk by cells

    abbrev pub Kept : State P → Type 0
    Kept x = ((j : ℕ) → get_or x.0 j 0 < C + 1) × (x.1 < R) × ((j : ℕ) → get_or x.2 j 0 < mark_count)

    pub keeps : (x : State P) (s : Point) (k : ℕ) → s.c < C → Kept x → Kept (next P x s k)
    unfolding next marked
    keeps x s k c q = (
      set-under x.0 k (suc s.c) (C + 1) (omega arith) q.0,
      omega (arith, q.1),
      by-test (eqb (get_or x.0 k 0) 0)
          (λ e. rw e (set-under (set x.2 (suc k) 0) _ (turn s k) mark_count (turn_low s k) (set-under x.2 (suc k) 0 mark_count (omega (arith, turn_low s k)) q.2)))
          (λ e. rw e (set-under x.2 _ (turn s k) mark_count (turn_low s k) q.2)),
    )

    pub walk-cells : (ss : List Point) → Coloured C ss → (x : State P) → Kept x → walk_by (labels P) (value_cells P C R) x ss ≡ walk_by (labels P) (value P) x ss
    unfolding walk_by choose_by Coloured
    walk-cells [] h x q = refl
    walk-cells (s ∷ ss) h x q =
        let e : choose_by (labels P) (value_cells P C R) x s ss ≡ choose_by (labels P) (value P) x s ss =
        first_cong m _ _ (λ k. ap₂ eqb (ap (plus top _) (value-cells ss h.1 (next P x s k) (keeps x s k h.0 q).0 (keeps x s k h.0 q).1 (keeps x s k h.0 q).2)) (value-cells (s ∷ ss) h x q.0 q.1 q.2)) in
        ap₂ (λ (a : ℕ) (l : List ℕ). a ∷ l) e (ap (λ (k : ℕ). walk_by (labels P) (value_cells P C R) (next P x s k) ss) e ∙ walk-cells ss h.1 _ (keeps x s _ h.0 q))

    pub answer-cells : (ss : List Point) → Coloured C ss → (x : State P) → Kept x → answer_by (labels P) (value_cells P C R) x ss ≡ answer_by (labels P) (value P) x ss
    unfolding answer_by
    answer-cells ss h x q = ap₂ (λ (a : ℕ) (l : List ℕ). cond (ltb a top) (some l) none) (value-cells ss h x q.0 q.1 q.2) (walk-cells ss h x q)
