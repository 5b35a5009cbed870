-- THEOREM 3 at a sheet: of the strips read off the open labels one holds each site, and a step puts its parts in that one's place.
-- So the walk by the table gives the first (THEOREM 4).
use mathlib.Core.Path.{◌≡◌, refl, sym, ap, ap₂, ◌∙◌, subst, subst⁻¹}
use mathlib.Core.Logic.{◌⊎◌, inl, inr}
use mathlib.Core.Bool.{Bool, true, false, cond, not, ◌&&◌, ◌||◌}
use mathlib.Core.Option.{none, some}
use mathlib.Core.List.{List, [], ◌∷◌}
use Prim.Native.Nat.{ℕ, zero, suc, ◌+◌, ◌-◌, ◌≤◌, ◌<◌}
use native.Mathlib.Omega.{arith}
use lib.Dec.{eqb, ltb}
use lib.Seq.{get_or-set_same, get_or-set_other}
use lib.ListN.{length, get_or, set, replicate, length-set, length-replicate}
use borrow.Author.Tests.{ltb-true, ltb-false, le-leb, lt-leb, lt-ltb, le-ltb, eqb-true, eqb-false, eq-eqb, ne_eqb}
use Rattle.lists.proofs.Tests.{by-test, by_order, by_equal, by-either, and_both, or-e, not_f}
use Rattle.search.specs.Cost.{plus}
use Rattle.search.proofs.Cost.{least-cong, plus-past}
use Rattle.search.specs.Strips.{holders, one_if, weigh, after}
use Rattle.search.specs.Radix.{below}
use Rattle.search.proofs.Radix.{below-splits}
use Rattle.search.specs.Plan.{Filled, Laws, Run, process, price as strip_price, next as strip_next}
use Rattle.search.proofs.Plan.{strips-independent}
use Rattle.search.specs.Walk.{best, answer, Cheapest, cost_of, walk}
use Rattle.search.proofs.Walk.{answer-by, answer-first, answer-none, walk-cost}
use Rattle.optimum.specs.Slots.{over, clear_from}
use Rattle.optimum.specs.Strips.{Point, Strip, Instance, inside, opens, joins_up, joins_down, cost, draw, children, rules_of, strips_from, strips, hold_from, hold, marked, State, price, next, labels, value, walked}
use Rattle.optimum.proofs.Slots.{Rising, over-label, under-label, under-edge, over_yes, under-yes}

-- a list with one place changed
pub set_same : (L : List ℕ) (k c : ℕ) → k < length L → get_or (set L k c) k 0 ≡ c
set_same L k c h = get_or-set_same L k c 0 h

pub set_other : (L : List ℕ) (k c j : ℕ) → (j ≡ k → ⊥) → get_or (set L k c) j 0 ≡ get_or L j 0
set_other L k c j h = get_or-set_other L k j c 0 h

pub set-id : (L : List ℕ) (k c : ℕ) → get_or L k 0 ≡ c → 0 < c → set L k c ≡ L
set-id [] k c e h = refl
set-id (u ∷ L) zero c e h = ap (λ (z : ℕ). z ∷ L) (sym e)
set-id (u ∷ L) (suc k) c e h = ap (λ (z : List ℕ). u ∷ z) (set-id L k c e h)

module _ (P : Instance) where
  open P use {slots, top, turn, held, radices}
  open slots use {m, height}

  pub opens_at : (p : Strip) (s : Point) (k : ℕ) → opens P p s k ≡ true → (p.a < suc k) × (suc k < p.b) × (k < m)
  unfolding opens
  opens_at p s k e =
      let h = (and_both _ _ (and_both _ _ (and_both _ _ (and_both _ _ (and_both _ _ (and_both _ _ (and_both _ _ e).0).0).0).0).0).0).0 in
      let c = and_both _ _ h in
      let b = and_both _ _ c.0 in
      (ltb-true _ _ b.0, ltb-true _ _ b.1, ltb-true _ _ c.1)

  -- ---- the strip that holds a site, among the strips

  pub weigh-hold : (r i a ca : ℕ) (L M : List ℕ) (none : ℕ) (w : Strip → Point → ℕ → ℕ) (s : Point) (k : ℕ) → r + i ≡ m → over slots a s.y ≡ true
      → weigh none (inside P) w s k (strips_from P r i a ca L M) ≡ w (hold_from P r i a ca L M s.y) s k
  unfolding weigh strips_from hold_from inside
  weigh-hold zero i a ca L M z w s k e o = rw (o, under-edge slots i s.y (omega arith))
  weigh-hold (suc r) i a ca L M z w s k e o =
      by-test (eqb (get_or L i 0) 0)
      (λ q. rw q (weigh-hold r (suc i) a ca L M z w s k (omega arith) o))
      (λ q. rw (q, o, under-label slots i s.y (omega arith)) (by-test (ltb s.y (height i))
      (λ t. rw t)
      (λ t. rw t (weigh-hold r (suc i) (suc i) (get_or L i 0) L M z w s k (omega arith) (over-label slots i s.y ∙ le-leb (height i) s.y (ltb-false _ _ t))))))

  -- the strip that holds a height begins at the last label passed, or past i
  pub hold-start : (r i a ca : ℕ) (L M : List ℕ) (y : ℕ) → ((hold_from P r i a ca L M y).a ≡ a) ⊎ (i < (hold_from P r i a ca L M y).a)
  unfolding hold_from
  hold-start zero i a ca L M y = inl refl
  hold-start (suc r) i a ca L M y =
      by-test (eqb (get_or L i 0) 0)
      (λ q. rw q (by-either (hold-start r (suc i) a ca L M y) (λ e. inl e) (λ e. inr (omega arith))))
      (λ q. rw q (by-test (ltb y (height i)) (λ t. rw t (inl refl)) (λ t. rw t (by-either (hold-start r (suc i) (suc i) (get_or L i 0) L M y) (λ e. inr (omega arith)) (λ e. inr (omega arith))))))

  -- strips past the last change
  strips-agree : (r i a ca : ℕ) (L K M N : List ℕ) → ((j : ℕ) → i ≤ j → get_or L j 0 ≡ get_or K j 0) → get_or M a 0 ≡ get_or N a 0 → ((j : ℕ) → i < j → get_or M j 0 ≡ get_or N j 0)
      → strips_from P r i a ca L M ≡ strips_from P r i a ca K N
  unfolding strips_from
  strips-agree zero i a ca L K M N h d g = rw d
  strips-agree (suc r) i a ca L K M N h d g =
      rw (h i (omega arith), d) (by-test (eqb (get_or K i 0) 0)
      (λ q. rw q (strips-agree r (suc i) a ca L K M N (λ j l. h j (omega arith)) d (λ j l. g j (omega arith))))
      (λ q. rw q (ap (λ (T : List Strip). record { a = a; ca = ca; b = suc i; cb = get_or K i 0; d = get_or N a 0 } ∷ T)
      (strips-agree r (suc i) (suc i) (get_or K i 0) L K M N (λ j l. h j (omega arith)) (g (suc i) (omega arith)) (λ j l. g j (omega arith))))))

  -- a step that opens no label
  pub after_same : (r i a ca : ℕ) (L M N : List ℕ) (s : Point) (k : ℕ) → r + i ≡ m → a ≤ i → over slots a s.y ≡ true
      → get_or N (hold_from P r i a ca L M s.y).a 0 ≡ turn s k → ((j : ℕ) → (j ≡ (hold_from P r i a ca L M s.y).a → ⊥) → get_or M j 0 ≡ get_or N j 0)
      → opens P (hold_from P r i a ca L M s.y) s k ≡ false → after (inside P) (children P) s k (strips_from P r i a ca L M) ≡ strips_from P r i a ca L N
  unfolding after strips_from hold_from inside children
  after_same zero i a ca L M N s k e ai o n g f = rw (o, under-edge slots i s.y (omega arith), f, n)
  after_same (suc r) i a ca L M N s k e ai o n g f =
      by-test (eqb (get_or L i 0) 0)
      (λ q. rw q (after_same r (suc i) a ca L M N s k (omega arith) (omega arith) o (rw q at n) (rw q at g) (rw q at f)))
      (λ q. rw (q, o, under-label slots i s.y (omega arith)) (by-test (ltb s.y (height i))
      (λ t. let f₁ : opens P (record { a = a; ca = ca; b = suc i; cb = get_or L i 0; d = get_or M a 0 }) s k ≡ false = rw (q, t) at f in
      let n₁ : get_or N a 0 ≡ turn s k = rw (q, t) at n in
      let g₁ : (j : ℕ) → (j ≡ a → ⊥) → get_or M j 0 ≡ get_or N j 0 = rw (q, t) at g in
      rw (t, f₁, n₁) (ap (λ (K : List Strip). record { a = a; ca = ca; b = suc i; cb = get_or L i 0; d = turn s k } ∷ K)
      (strips-agree r (suc i) (suc i) (get_or L i 0) L L M N (λ j _. refl) (g₁ (suc i) (λ (z : suc i ≡ a). omega arith)) (λ j l. g₁ j (λ (z : j ≡ a). omega arith)))))
      (λ t. let n₁ : get_or N (hold_from P r (suc i) (suc i) (get_or L i 0) L M s.y).a 0 ≡ turn s k = rw (q, t) at n in
      let g₁ : (j : ℕ) → (j ≡ (hold_from P r (suc i) (suc i) (get_or L i 0) L M s.y).a → ⊥) → get_or M j 0 ≡ get_or N j 0 = rw (q, t) at g in
      let p = hold-start r (suc i) (suc i) (get_or L i 0) L M s.y in
      let d : get_or M a 0 ≡ get_or N a 0 = g₁ a (λ z. by-either p (λ u. omega arith) (λ u. omega arith)) in
      rw (t, d) (ap (λ (K : List Strip). record { a = a; ca = ca; b = suc i; cb = get_or L i 0; d = get_or N a 0 } ∷ K)
      (after_same r (suc i) (suc i) (get_or L i 0) L M N s k (omega arith) (omega arith) (over-label slots i s.y ∙ le-leb (height i) s.y (ltb-false _ _ t)) n₁ g₁ (rw (q, t) at f))))))

  late : (r i : ℕ) (L M : List ℕ) (s : Point) (k : ℕ) → k ≤ i → opens P (hold_from P r (suc i) (suc i) (get_or L i 0) L M s.y) s k ≡ true → ⊥
  late r i L M s k h f = by-either (hold-start r (suc i) (suc i) (get_or L i 0) L M s.y) (λ e. omega (arith, opens_at _ s k f)) (λ e. omega (arith, opens_at _ s k f))

  -- a step that opens a label at k: from past k on, in the strip that holds the site
  after-past : (r i a ca : ℕ) (L M N : List ℕ) (s : Point) (k : ℕ) → r + i ≡ m → over slots a s.y ≡ true → k < i
      → get_or N (suc k) 0 ≡ 0 → ((j : ℕ) → i < j → get_or M j 0 ≡ get_or N j 0) → opens P (hold_from P r i a ca L M s.y) s k ≡ true
      → after (inside P) (children P) s k (strips_from P r i a ca L M) ≡ record { a = a; ca = ca; b = suc k; cb = suc s.c; d = turn s k } ∷ strips_from P r i (suc k) (suc s.c) L N
  unfolding after strips_from hold_from inside children
  after-past zero i a ca L M N s k e o h z g f = rw (o, under-edge slots i s.y (omega arith), f, z)
  after-past (suc r) i a ca L M N s k e o h z g f =
      by-test (eqb (get_or L i 0) 0)
      (λ q. rw q (after-past r (suc i) a ca L M N s k (omega arith) o (omega arith) z (λ j l. g j (omega arith)) (rw q at f)))
      (λ q. rw (q, o, under-label slots i s.y (omega arith)) (by-test (ltb s.y (height i))
      (λ t. let f₁ : opens P (record { a = a; ca = ca; b = suc i; cb = get_or L i 0; d = get_or M a 0 }) s k ≡ true = rw (q, t) at f in
      rw (t, f₁, z) (ap (λ (K : List Strip). record { a = a; ca = ca; b = suc k; cb = suc s.c; d = turn s k } ∷ record { a = suc k; ca = suc s.c; b = suc i; cb = get_or L i 0; d = 0 } ∷ K)
      (strips-agree r (suc i) (suc i) (get_or L i 0) L L M N (λ j _. refl) (g (suc i) (omega arith)) (λ j l. g j (omega arith)))))
      (λ t. absurd (late r i L M s k (omega arith) (rw (q, t) at f)))))

  -- from k on
  after-here : (r i a ca : ℕ) (L M N : List ℕ) (s : Point) → suc r + i ≡ m → over slots a s.y ≡ true → i < length L → get_or L i 0 ≡ 0
      → get_or N a 0 ≡ turn s i → get_or N (suc i) 0 ≡ 0 → ((j : ℕ) → suc i < j → get_or M j 0 ≡ get_or N j 0)
      → opens P (hold_from P (suc r) i a ca L M s.y) s i ≡ true
      → after (inside P) (children P) s i (strips_from P (suc r) i a ca L M) ≡ strips_from P (suc r) i a ca (set L i (suc s.c)) N
  unfolding strips_from hold_from
  after-here r i a ca L M N s e o l z n n₀ g f =
      let K = set L i (suc s.c) in
      let z' : eqb (get_or L i 0) 0 ≡ true = eq-eqb _ 0 z in
      let q : get_or K i 0 ≡ suc s.c = set_same L i (suc s.c) l in
      let q' : eqb (get_or K i 0) 0 ≡ false = ne_eqb (get_or K i 0) 0 (λ (t : get_or K i 0 ≡ 0). omega arith) in
      rw (z', q', q, n)
      (after-past r (suc i) a ca L M N s i (omega arith) o (omega arith) n₀ g (rw z' at f)
      ∙ ap (λ (T : List Strip). record { a = a; ca = ca; b = suc i; cb = suc s.c; d = turn s i } ∷ T)
      (strips-agree r (suc i) (suc i) (suc s.c) L K N N (λ j u. sym (set_other L i (suc s.c) j (λ (t : j ≡ i). omega arith))) refl (λ j _. refl)))

  -- from k or before it on
  pub after_open : (r i a ca : ℕ) (L M N : List ℕ) (s : Point) (k : ℕ) → r + i ≡ m → a ≤ i → over slots a s.y ≡ true → i ≤ k → k < length L → get_or L k 0 ≡ 0
      → get_or N (hold_from P r i a ca L M s.y).a 0 ≡ turn s k → get_or N (suc k) 0 ≡ 0
      → ((j : ℕ) → (j ≡ (hold_from P r i a ca L M s.y).a → ⊥) → (j ≡ suc k → ⊥) → get_or M j 0 ≡ get_or N j 0)
      → opens P (hold_from P r i a ca L M s.y) s k ≡ true
      → after (inside P) (children P) s k (strips_from P r i a ca L M) ≡ strips_from P r i a ca (set L k (suc s.c)) N
  unfolding strips_from hold_from after inside
  after_open zero i a ca L M N s k e ai o h l z n n₀ g f = absurd (omega (arith, opens_at _ s k f))
  after_open (suc r) i a ca L M N s k e ai o h l z n n₀ g f =
      by_equal i k
      (λ q. let p = hold_from P (suc r) i a ca L M s.y in
      let pa : p.a ≡ a = by-either (hold-start (suc r) i a ca L M s.y) (λ u. u) (λ u. absurd (omega (arith, opens_at p s k f))) in
      let z' : get_or L i 0 ≡ 0 = rw q z in
      let f' : opens P p s i ≡ true = subst⁻¹ (λ (j : ℕ). opens P p s j ≡ true) q f in
      subst (λ (j : ℕ). after (inside P) (children P) s j (strips_from P (suc r) i a ca L M) ≡ strips_from P (suc r) i a ca (set L j (suc s.c)) N) q
      (after-here r i a ca L M N s e o (omega arith) z' (ap (λ (j : ℕ). get_or N j 0) (sym pa) ∙ n ∙ ap (turn s) (sym q)) (ap (λ (j : ℕ). get_or N (suc j) 0) q ∙ n₀)
      (λ j u. g j (λ (w : j ≡ p.a). omega arith) (λ (w : j ≡ suc k). omega arith)) f'))
      (λ q. let w : get_or (set L k (suc s.c)) i 0 ≡ get_or L i 0 = set_other L k (suc s.c) i q in
      rw w (by-test (eqb (get_or L i 0) 0)
      (λ t. rw t (after_open r (suc i) a ca L M N s k (omega arith) (omega arith) o (omega arith) l z (rw t at n) n₀ (rw t at g) (rw t at f)))
      (λ t. rw (t, o, under-label slots i s.y (omega arith)) (by-test (ltb s.y (height i))
      (λ u. absurd (let g : opens P (record { a = a; ca = ca; b = suc i; cb = get_or L i 0; d = get_or M a 0 }) s k ≡ true = rw (t, u) at f in omega (arith, opens_at _ s k g)))
      (λ u. let n₁ : get_or N (hold_from P r (suc i) (suc i) (get_or L i 0) L M s.y).a 0 ≡ turn s k = rw (t, u) at n in
      let g₁ : (j : ℕ) → (j ≡ (hold_from P r (suc i) (suc i) (get_or L i 0) L M s.y).a → ⊥) → (j ≡ suc k → ⊥) → get_or M j 0 ≡ get_or N j 0 = rw (t, u) at g in
      let p = hold-start r (suc i) (suc i) (get_or L i 0) L M s.y in
      let d : get_or M a 0 ≡ get_or N a 0 = g₁ a (λ z. by-either p (λ v. omega arith) (λ v. omega arith)) (λ (v : a ≡ suc k). omega arith) in
      rw (u, d) (ap (λ (T : List Strip). record { a = a; ca = ca; b = suc i; cb = get_or L i 0; d = get_or N a 0 } ∷ T)
      (after_open r (suc i) (suc i) (get_or L i 0) L M N s k (omega arith) (omega arith) (over-label slots i s.y ∙ le-leb (height i) s.y (ltb-false _ _ u)) (omega arith) l z n₁ n₀ g₁ (rw (t, u) at f))))))))

  -- ---- what is known of the strip that holds a height

  abbrev pub Upper : List ℕ → ℕ → ℕ → ℕ → Type 0
  Upper L y a ca = (a ≡ 0) ⊎ ((j : ℕ) × (a ≡ suc j) × (j < m) × (get_or L j 0 ≡ ca) × (0 < ca) × (height j ≤ y))

  abbrev pub Lower : List ℕ → ℕ → ℕ → ℕ → Type 0
  Lower L y b cb = (b ≡ suc m) ⊎ ((j : ℕ) × (b ≡ suc j) × (j < m) × (get_or L j 0 ≡ cb) × (0 < cb) × (y < height j))

  pub record Holds (L M : List ℕ) (y : ℕ) (p : Strip) : Type 0 where
    pub upper : Upper L y p.a p.ca
    pub lower : Lower L y p.b p.cb
    pub empty : (j : ℕ) → p.a ≤ j → suc j < p.b → get_or L j 0 ≡ 0
    pub mark : p.d ≡ get_or M p.a 0

  hold-facts : (r i a ca : ℕ) (L M : List ℕ) (y : ℕ) → r + i ≡ m → Upper L y a ca → ((j : ℕ) → a ≤ j → j < i → get_or L j 0 ≡ 0)
      → Holds L M y (hold_from P r i a ca L M y)
  unfolding hold_from
  hold-facts zero i a ca L M y e u g = record { upper = u; lower = inl (omega arith); empty = λ j h l. g j h (omega arith); mark = refl }
  hold-facts (suc r) i a ca L M y e u g =
      by-test (eqb (get_or L i 0) 0)
      (λ t. rw t (hold-facts r (suc i) a ca L M y (omega arith) u (λ j h l. by_equal j i (λ q. rw q (eqb-true (get_or L i 0) 0 t)) (λ q. g j h (omega arith)))))
      (λ t. let n : 0 < get_or L i 0 = omega (arith, eqb-false (get_or L i 0) 0 t) in
      rw t (by-test (ltb y (height i))
      (λ v. rw v (record { upper = u; lower = inr (i, refl, omega arith, refl, n, ltb-true y (height i) v); empty = λ j h l. g j h (omega arith); mark = refl }))
      (λ v. rw v (hold-facts r (suc i) (suc i) (get_or L i 0) L M y (omega arith)
      (inr (i, refl, omega arith, refl, n, ltb-false y (height i) v)) (λ j h l. absurd (omega arith))))))

  pub holds : (L M : List ℕ) (y : ℕ) → Holds L M y (hold P L M y)
  unfolding hold
  holds L M y = hold-facts m 0 0 0 L M y (omega arith) (inl refl) (λ j h l. absurd (omega arith))

  pub up-e : (p : Strip) (s : Point) (k : ℕ) → joins_up P p s k ≡ true → (p.a ≡ suc k) × (p.ca ≡ suc s.c) × (clear_from slots p.b s.y ≡ true)
  unfolding joins_up
  up-e p s k e = let h = and_both _ _ (and_both _ _ e).0 in let g = and_both _ _ h.0 in (eqb-true _ _ g.0, eqb-true _ _ g.1, h.1)

  pub up-not-held : (p : Strip) (s : Point) (k : ℕ) → joins_up P p s k ≡ true → held p s ≡ false
  unfolding joins_up
  up-not-held p s k e = not_f (held p s) (and_both (eqb p.a (suc k) && eqb p.ca (suc s.c) && clear_from slots p.b s.y) (not (held p s)) e).1

  pub down-e : (p : Strip) (s : Point) (k : ℕ) → joins_down P p s k ≡ true
      → (p.b ≡ suc k) × (k < m) × (p.cb ≡ suc s.c) × (clear_from slots p.a s.y ≡ true)
  unfolding joins_down
  down-e p s k e =
      let h = and_both _ _ e in let g = and_both _ _ h.0 in let f = and_both _ _ g.0 in
      (eqb-true _ _ f.0, ltb-true _ _ f.1, eqb-true _ _ g.1, h.1)

  pub joins-open : (L M : List ℕ) (s : Point) (k : ℕ) → joins_up P (hold P L M s.y) s k || joins_down P (hold P L M s.y) s k ≡ true → get_or L k 0 ≡ suc s.c
  joins-open L M s k e = by-either (or-e (joins_up P p s k) (joins_down P p s k) e) (λ u. up (holds L M s.y).upper (up-e p s k u)) (λ d. down (holds L M s.y).lower (down-e p s k d))
    where
      p : Strip
      p = hold P L M s.y

      up : Upper L s.y p.a p.ca → (p.a ≡ suc k) × (p.ca ≡ suc s.c) × (clear_from slots p.b s.y ≡ true) → get_or L k 0 ≡ suc s.c
      up (inl z) u = absurd (omega arith)
      up (inr (j, q, l, c, n, h)) u = let t : k ≡ j = omega arith in ap (λ (i : ℕ). get_or L i 0) t ∙ c ∙ u.1

      down : Lower L s.y p.b p.cb → (p.b ≡ suc k) × (k < m) × (p.cb ≡ suc s.c) × (clear_from slots p.a s.y ≡ true) → get_or L k 0 ≡ suc s.c
      down (inl z) u = absurd (omega arith)
      down (inr (j, q, l, c, n, h)) u = let t : k ≡ j = omega arith in ap (λ (i : ℕ). get_or L i 0) t ∙ c ∙ u.2

  pub price-joins : (x : State P) (s : Point) (k : ℕ) → price P x s k < top → opens P (hold P x.0 x.2 s.y) s k ≡ false
      → joins_up P (hold P x.0 x.2 s.y) s k || joins_down P (hold P x.0 x.2 s.y) s k ≡ true
  unfolding price cost
  price-joins x s k h e =
      by-test (joins_up P (hold P x.0 x.2 s.y) s k || joins_down P (hold P x.0 x.2 s.y) s k)
      (λ j. j)
      (λ j. absurd (never (below radices (draw P (hold P x.0 x.2 s.y) s k) x.1) (rw (e, j) at h)))
    where
      never : (b : Bool) → cond b top top < top → ⊥
      never true h = omega arith
      never false h = omega arith

  -- ---- the laws of theory's Plan

  pub strips-filled : (r i a ca : ℕ) (L M : List ℕ) → Filled (strips_from P r i a ca L M)
  unfolding strips_from Filled
  strips-filled zero i a ca L M = tt
  strips-filled (suc r) i a ca L M = by-test (eqb (get_or L i 0) 0) (λ q. rw q (strips-filled r (suc i) a ca L M)) (λ q. rw q tt)

  filled : (p : Strip) (s : Point) (k : ℕ) → Filled (children P p s k)
  unfolding children Filled
  filled p s k = by-test (opens P p s k) (λ e. rw e tt) (λ e. rw e tt)

  module _ (rising : Rising slots) where
    opened-parts : (p : Strip) (s : Point) (k : ℕ) (t : Point) → p.a < suc k → suc k < p.b → k < m
        → holders (inside P) t (record { a = p.a; ca = p.ca; b = suc k; cb = suc s.c; d = turn s k } ∷ record { a = suc k; ca = suc s.c; b = p.b; cb = p.cb; d = 0 } ∷ []) ≡ one_if (inside P p t)
    unfolding holders inside
    opened-parts p s k t ha hb hk =
        by_order (height k) t.y
        (λ l. rw (under-label slots k t.y hk, over-label slots k t.y, over_yes slots rising p.a k t.y hk ha l, le-leb (height k) t.y l, le-ltb t.y (height k) l) (omega arith))
        (λ l. rw (under-label slots k t.y hk, over-label slots k t.y, under-yes slots rising p.b k t.y hb l, lt-leb (height k) t.y l, lt-ltb t.y (height k) l) (omega arith))

    parts : (p : Strip) (s : Point) (k : ℕ) (t : Point) → holders (inside P) t (children P p s k) ≡ one_if (inside P p t)
    unfolding children
    parts p s k t =
        by-test (opens P p s k)
        (λ e. let o = opens_at p s k e in rw e (opened-parts p s k t o.0 o.1 o.2))
        (λ e. rw e (unfold holders inside in omega arith))

    pub laws : Laws (rules_of P)
    laws = record { splits = below-splits radices; filled = filled; parts = λ p s k. inr (parts p s k) }

    -- one strip holds each site
    holders-from : (r i a ca : ℕ) (L M : List ℕ) (t : Point) → r + i ≡ m → a ≤ i → holders (inside P) t (strips_from P r i a ca L M) ≡ one_if (over slots a t.y)
    unfolding holders strips_from inside
    holders-from zero i a ca L M t e h =
        by-test (over slots a t.y) (λ o. rw (o, under-edge slots i t.y (omega arith))) (λ o. rw o)
    holders-from (suc r) i a ca L M t e h =
        by-test (eqb (get_or L i 0) 0)
        (λ q. rw q (holders-from r (suc i) a ca L M t (omega arith) (omega arith)))
        (λ q. rw (q, holders-from r (suc i) (suc i) (get_or L i 0) L M t (omega arith) (omega arith), under-label slots i t.y (omega arith), over-label slots i t.y)
        (by_order (height i) t.y
        (λ l. rw (over_yes slots rising a i t.y (omega arith) (omega arith) l, le-leb (height i) t.y l, le-ltb t.y (height i) l))
        (λ l. rw (lt-leb (height i) t.y l, lt-ltb t.y (height i) l) (by-test (over slots a t.y) (λ o. rw o) (λ o. rw o)))))

    pub strips-hold : (L M : List ℕ) (t : Point) → holders (inside P) t (strips P L M) ≡ 1
    unfolding strips
    strips-hold L M t = holders-from m 0 0 0 L M t (omega arith) (omega arith) ∙ (unfold over in refl)

    -- ---- the walk over labels is the walk over strips

    abbrev pub read : State P → List Strip × ℕ
    read x = (strips P x.0 x.2, x.1)

    pub price-read : (x : State P) (s : Point) (k : ℕ) → price P x s k ≡ strip_price (rules_of P) (read x) s k
    unfolding price strip_price strips hold
    price-read x s k =
        rw (weigh-hold m 0 0 0 x.0 x.2 0 (draw P) s k (omega arith) (unfold over in refl), weigh-hold m 0 0 0 x.0 x.2 top (cost P) s k (omega arith) (unfold over in refl))

    -- the marks have a place for each place but the bottom edge
    abbrev pub Fit : State P → Type 0
    Fit x = (length x.0 ≡ m) × (length x.2 ≡ suc m)

    pub hold-low : (L M : List ℕ) (y : ℕ) → (hold P L M y).a ≤ m
    hold-low L M y = go (holds L M y).upper
      where
        go : Upper L y (hold P L M y).a (hold P L M y).ca → (hold P L M y).a ≤ m
        go (inl e) = omega arith
        go (inr (j, e, l, c, n, h)) = omega arith

    pub marked-long : (L M : List ℕ) (s : Point) (k : ℕ) → length (marked P L M s k) ≡ length M
    unfolding marked
    marked-long L M s k =
        by-test (eqb (get_or L k 0) 0)
        (λ e. rw e (length-set (set M (suc k) 0) (hold P L M s.y).a (turn s k) ∙ length-set M (suc k) 0))
        (λ e. rw e (length-set M (hold P L M s.y).a (turn s k)))

    pub marked-here : (L M : List ℕ) (s : Point) (k : ℕ) → length M ≡ suc m → get_or (marked P L M s k) (hold P L M s.y).a 0 ≡ turn s k
    unfolding marked
    marked-here L M s k l =
        let h = hold-low L M s.y in
        by-test (eqb (get_or L k 0) 0)
        (λ e. rw e (set_same (set M (suc k) 0) (hold P L M s.y).a (turn s k) (omega (arith, length-set M (suc k) 0))))
        (λ e. rw e (set_same M (hold P L M s.y).a (turn s k) (omega arith)))

    pub marked-new : (L M : List ℕ) (s : Point) (k : ℕ) → length M ≡ suc m → k < m → get_or L k 0 ≡ 0 → (suc k ≡ (hold P L M s.y).a → ⊥) → get_or (marked P L M s k) (suc k) 0 ≡ 0
    unfolding marked
    marked-new L M s k l h z n =
        rw (eq-eqb (get_or L k 0) 0 z) (set_other (set M (suc k) 0) (hold P L M s.y).a (turn s k) (suc k) n ∙ set_same M (suc k) 0 (omega arith))

    pub marked_other : (L M : List ℕ) (s : Point) (k j : ℕ) → (j ≡ (hold P L M s.y).a → ⊥) → (j ≡ suc k → ⊥) → get_or (marked P L M s k) j 0 ≡ get_or M j 0
    unfolding marked
    marked_other L M s k j u w =
        by-test (eqb (get_or L k 0) 0)
        (λ e. rw e (set_other (set M (suc k) 0) (hold P L M s.y).a (turn s k) j u ∙ set_other M (suc k) 0 j w))
        (λ e. rw e (set_other M (hold P L M s.y).a (turn s k) j u))

    pub marked-same : (L M : List ℕ) (s : Point) (k c : ℕ) → get_or L k 0 ≡ suc c → (j : ℕ) → (j ≡ (hold P L M s.y).a → ⊥) → get_or (marked P L M s k) j 0 ≡ get_or M j 0
    unfolding marked
    marked-same L M s k c z j u = rw (ne_eqb (get_or L k 0) 0 (λ (q : get_or L k 0 ≡ 0). omega arith)) (set_other M (hold P L M s.y).a (turn s k) j u)

    open-read : (L M : List ℕ) (s : Point) (k : ℕ) → length L ≡ m → length M ≡ suc m → opens P (hold P L M s.y) s k ≡ true
        → after (inside P) (children P) s k (strips P L M) ≡ strips P (set L k (suc s.c)) (marked P L M s k)
    unfolding strips hold
    open-read L M s k l lm e =
        let o = opens_at _ s k e in
        let z = (holds L M s.y).empty k (omega arith) o.1 in
        after_open m 0 0 0 L M (marked P L M s k) s k (omega arith) (omega arith) (unfold over in refl) (omega arith) (omega arith) z
        (marked-here L M s k lm) (marked-new L M s k lm o.2 z (λ n. omega arith)) (λ j u w. sym (marked_other L M s k j u w)) e

    join-read : (L M : List ℕ) (s : Point) (k : ℕ) → length M ≡ suc m → get_or L k 0 ≡ suc s.c → opens P (hold P L M s.y) s k ≡ false
        → after (inside P) (children P) s k (strips P L M) ≡ strips P L (marked P L M s k)
    unfolding strips hold
    join-read L M s k lm z e =
        after_same m 0 0 0 L M (marked P L M s k) s k (omega arith) (omega arith) (unfold over in refl) (marked-here L M s k lm) (λ j u. sym (marked-same L M s k s.c z j u)) e

    pub next-read : (x : State P) (s : Point) (k : ℕ) → Fit x → price P x s k < top → read (next P x s k) ≡ strip_next (rules_of P) (read x) s k
    next-read x s k l h =
        by-test (opens P (hold P x.0 x.2 s.y) s k)
        (λ e. same (sym (open-read x.0 x.2 s k l.0 l.1 e)))
        (λ e. same (sym (join-read x.0 x.2 s k l.1 (joins-open x.0 x.2 s k (price-joins x s k h e)) e ∙ ap (λ (A : List ℕ). strips P A (marked P x.0 x.2 s k)) (sym (set-id x.0 k (suc s.c) (joins-open x.0 x.2 s k (price-joins x s k h e)) (omega arith))))))
      where
        same : strips P (set x.0 k (suc s.c)) (marked P x.0 x.2 s k) ≡ after (inside P) (children P) s k (strips P x.0 x.2) → read (next P x s k) ≡ strip_next (rules_of P) (read x) s k
        same e = unfold next strip_next strips hold in
            ap₂ (λ (A : List Strip) (v : ℕ). (A, v)) e (ap (λ (d : ℕ). x.1 - d) (sym (weigh-hold m 0 0 0 x.0 x.2 0 (draw P) s k (omega arith) (unfold over in refl))))

    pub next-fit : (x : State P) (s : Point) (k : ℕ) → Fit x → Fit (next P x s k)
    unfolding next
    next-fit x s k l = (length-set x.0 k (suc s.c) ∙ l.0, marked-long x.0 x.2 s k ∙ l.1)

    abbrev pub start : ℕ → State P
    start v = (replicate m 0, v, replicate (suc m) 0)

    pub start-fit : (v : ℕ) → Fit (start v)
    start-fit v = (length-replicate m 0, length-replicate (suc m) 0)

    best-read : (ss : List Point) (x : State P) → Fit x → best (labels P) x ss ≡ best (process (rules_of P)) (read x) ss
    unfolding best
    best-read [] x l = refl
    best-read (s ∷ ss) x l =
        least-cong top m _ _ (λ k _.
        by_order top (price P x s k)
        (λ h. plus-past top (price P x s k) _ h ∙ sym (plus-past top (strip_price (rules_of P) (read x) s k) _ (rw (← (price-read x s k)) h)))
        (λ h. ap₂ (plus top) (price-read x s k) (best-read ss (next P x s k) (next-fit x s k l) ∙ ap (λ (z : List Strip × ℕ). best (process (rules_of P)) z ss) (next-read x s k l h))))

    pub value-best : (x : State P) (ss : List Point) → Fit x → value P x ss ≡ best (labels P) x ss
    unfolding value
    value-best x ss l =
        sym (best-read ss x l ∙ (unfold Run in strips-independent (rules_of P) laws ss (strips P x.0 x.2) x.1 (unfold strips in strips-filled m 0 0 0 x.0 x.2) (strips-hold x.0 x.2)))

    -- THE WALK, by the table, is the walk by the definition
    pub walked-is : (v : ℕ) (ss : List Point) → walked P v ss ≡ answer (labels P) (start v) ss
    unfolding walked
    walked-is v ss =
        answer-by (labels P) (value P) Fit (λ x ss l. value-best x ss l) (λ x s k l h. next-fit x s k l) ss (start v) (start-fit v)

    pub walked-first : (v : ℕ) (ss : List Point) (ks : List ℕ) → walked P v ss ≡ some ks → Cheapest (labels P) (start v) ss ks
    walked-first v ss ks e = answer-first (labels P) (start v) ss ks (sym (walked-is v ss) ∙ e)

    pub walked_none : (v : ℕ) (ss : List Point) → walked P v ss ≡ none → (ks : List ℕ) → cost_of (labels P) (start v) ss ks ≡ top
    walked_none v ss e = (answer-none (labels P) (start v) ss).0 (sym (walked-is v ss) ∙ e)

    -- the walk's cost is the value of the empty sheet
    pub walked-cost : (v : ℕ) (ss : List Point) (ks : List ℕ) → walked P v ss ≡ some ks
        → (cost_of (labels P) (start v) ss ks ≡ value P (start v) ss) × (value P (start v) ss < top)
    unfolding answer
    walked-cost v ss ks e =
        let b = value-best (start v) ss (start-fit v) in
        let w = sym (walked-is v ss) ∙ e in
        by_order top (best (labels P) (start v) ss)
        (λ h. absurd (let q : none ≡ some ks = rw (le-ltb (best (labels P) (start v) ss) top h) at w in let z : ◌≡◌ {A = ℕ} 0 1 = cc in omega arith))
        (λ h. let q : some (walk (labels P) (start v) ss) ≡ some ks = rw (lt-ltb (best (labels P) (start v) ss) top h) at w in
        let k : walk (labels P) (start v) ss ≡ ks = cc in
        (ap (cost_of (labels P) (start v) ss) (sym k) ∙ walk-cost (labels P) ss (start v) ∙ sym b, omega arith))
