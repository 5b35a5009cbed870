-- THEOREM 1, the costs: a sequence of slots costs less than none exactly if each step is in order against all open labels and the
-- budget pays for it; it then costs the word of its sums.
use mathlib.Core.Path.{◌≡◌, ap, ◌∙◌, subst}
use mathlib.Core.Logic.{◌⊎◌, inl, inr}
use mathlib.Core.Bool.{Bool, true, false, cond, ◌||◌}
use mathlib.Core.List.{List, [], ◌∷◌}
use Prim.Native.Nat.{ℕ, suc, ◌+◌, ◌-◌, ◌<◌, min}
use native.Mathlib.Omega.{arith}
use lib.Dec.{eqb, ltb}
use lib.ListN.{length, get_or, set, length-set}
use borrow.Author.Tests.{lt-ltb, eqb-true, eq-eqb, ne_eqb}
use Rattle.lists.proofs.Tests.{by-test, by_equal, by-either, clash, or-e, is_false}
use Rattle.search.specs.Cost.{plus}
use Rattle.search.proofs.Cost.{plus-below}
use Rattle.search.specs.Radix.{below}
use Rattle.search.proofs.Radix.{below-splits}
use Rattle.search.specs.Walk.{cost_of}
use Rattle.optimum.specs.Slots.{clear_from}
use Rattle.optimum.specs.Strips.{Point, Strip, Instance, State, opens, joins_up, joins_down, cost, draw, hold, marked, price, next, labels}
use Rattle.optimum.proofs.StripsHeld.{Lower, holds, up-not-held, down-e, price-joins, set_same, set_other}
use Rattle.optimum.proofs.Slots.{Good}
use Rattle.optimum.proofs.Neighbours.{Step, Apart, opens-e, open_step, up_step, down_step, step-open, step-join}

module _ (P : Instance) where
  open P use {slots, top, lead, may, tip, held, draw_of, radices, word}
  open slots use {m, height, share}

  -- no label is open at k
  unfoldable pub is_free : List ℕ → ℕ → Bool
  is_free L k = eqb (get_or L k 0) 0

  -- a step that opens a label may do so, and finds it in the budget
  abbrev pub Pay : List ℕ → ℕ → Point → ℕ → Type 0
  Pay L v s k = is_free L k ≡ true → (may s k ≡ true) × (below radices (draw_of s.c) v ≡ true)

  -- a step of a site that follows one that went down in its strip joins the label below
  abbrev pub Turn : List ℕ → List ℕ → Point → ℕ → Type 0
  Turn L M s k = held (hold P L M s.y) s ≡ true → (is_free L k ≡ false) × (s.y < height k)

  -- a step that opens a label finds its tip clear
  abbrev pub Tip : List ℕ → Point → ℕ → Type 0
  Tip L s k = is_free L k ≡ true → tip s k ≡ true

  abbrev pub left : List ℕ → ℕ → Point → ℕ → ℕ
  left L v s k = cond (is_free L k) (v - draw_of s.c) v

  abbrev pub step_word : List ℕ → Point → ℕ → ℕ
  step_word L s k = word (cond (is_free L k) 1 0) (cond (is_free L k) (lead s.x) 0 + share (height k) s.y)

  module _ (G : Good slots) where
    -- ---- one step

    price-below : (L : List ℕ) (v : ℕ) (M : List ℕ) (s : Point) (k : ℕ) → price P (L, v, M) s k < top → below radices (draw P (hold P L M s.y) s k) v ≡ true
    unfolding price
    price-below L v M s k h =
        by-test (below radices (draw P (hold P L M s.y) s k) v) (λ e. e) (λ e. absurd (let q : top < top = rw e at h in omega arith))

    pub price-e : (L : List ℕ) (v : ℕ) (M : List ℕ) (s : Point) (k : ℕ) → Apart P L → price P (L, v, M) s k < top → Step P L s k × Pay L v s k × Tip L s k × Turn L M s k
    unfolding is_free
    price-e L v M s k ap' h =
        by-test (opens P (hold P L M s.y) s k)
        (λ e. ((open_step P G L ap' s k M _ (holds P L M s.y) e).1, λ f. ((opens-e P _ s k e).4, unfold draw in rw e at (price-below L v M s k h)), λ f. (opens-e P _ s k e).5, λ f. clash f (opens-e P _ s k e).6))
        (λ e. let z = joined (or-e (joins_up P (hold P L M s.y) s k) (joins_down P (hold P L M s.y) s k) (price-joins P (L, v, M) s k h e)) in
        (z.1, λ f. absurd (omega (arith, z.0, eqb-true (get_or L k 0) 0 f)), λ f. absurd (omega (arith, z.0, eqb-true (get_or L k 0) 0 f)), λ f. (ne_eqb (get_or L k 0) 0 (λ (q : get_or L k 0 ≡ 0). omega (arith, z.0)), z.2 f)))
      where
        joined : (joins_up P (hold P L M s.y) s k ≡ true) ⊎ (joins_down P (hold P L M s.y) s k ≡ true) → (get_or L k 0 ≡ suc s.c) × Step P L s k × (held (hold P L M s.y) s ≡ true → s.y < height k)
        joined (inl e) = let u = up_step P G L ap' s k M _ (holds P L M s.y) e in (u.0, u.1, λ f. clash f (up-not-held P _ s k e))
        joined (inr e) = let u = down_step P G L ap' s k M _ (holds P L M s.y) e in (u.0, u.1, λ f. below-it (holds P L M s.y).lower (down-e P _ s k e))
          where
            below-it : Lower P L s.y (hold P L M s.y).b (hold P L M s.y).cb
                → ((hold P L M s.y).b ≡ suc k) × (k < m) × ((hold P L M s.y).cb ≡ suc s.c) × (clear_from slots (hold P L M s.y).a s.y ≡ true) → s.y < height k
            below-it (inl q) d = absurd (omega arith)
            below-it (inr (j, q, l, c, n, y)) d = let t : k ≡ j = omega arith in rw t y

    free-i : (L : List ℕ) (k : ℕ) → get_or L k 0 ≡ 0 → is_free L k ≡ true
    unfolding is_free
    free-i L k e = eq-eqb _ 0 e

    free-n : (L : List ℕ) (k c : ℕ) → get_or L k 0 ≡ suc c → is_free L k ≡ false
    unfolding is_free
    free-n L k c e = ne_eqb (get_or L k 0) 0 (λ (q : get_or L k 0 ≡ 0). omega arith)

    word-opened : (b : Bool) (a c : ℕ) → b ≡ true → word 1 (a + c) ≡ word (cond b 1 0) (cond b a 0 + c)
    word-opened b a c e = rw e

    word_held : (b : Bool) (a c : ℕ) → b ≡ false → word 0 c ≡ word (cond b 1 0) (cond b a 0 + c)
    word_held b a c e = rw e (ap (word 0) (omega arith))

    price-open : (L : List ℕ) (v : ℕ) (M : List ℕ) (s : Point) (k : ℕ) → opens P (hold P L M s.y) s k ≡ true → is_free L k ≡ true → below radices (draw_of s.c) v ≡ true
        → (price P (L, v, M) s k ≡ step_word L s k) × (next P (L, v, M) s k ≡ (set L k (suc s.c), left L v s k, marked P L M s k))
    unfolding price cost draw next
    price-open L v M s k o f b = rw (o, b) (word-opened (is_free L k) (lead s.x) (share (height k) s.y) f, rw f)

    price-join : (L : List ℕ) (v : ℕ) (M : List ℕ) (s : Point) (k : ℕ) → opens P (hold P L M s.y) s k ≡ false → joins_up P (hold P L M s.y) s k || joins_down P (hold P L M s.y) s k ≡ true
        → is_free L k ≡ false → (price P (L, v, M) s k ≡ step_word L s k) × (next P (L, v, M) s k ≡ (set L k (suc s.c), left L v s k, marked P L M s k))
    unfolding price cost draw next
    price-join L v M s k o j f = rw (o, j, (below-splits radices).nothing v) (word_held (is_free L k) (lead s.x) (share (height k) s.y) f, rw f (ap (λ (z : ℕ). (set L k (suc s.c), z, marked P L M s k)) (omega arith)))

    pub price-i : (L : List ℕ) (v : ℕ) (M : List ℕ) (s : Point) (k : ℕ) → Apart P L → Step P L s k → Pay L v s k → Tip L s k → Turn L M s k
        → (price P (L, v, M) s k ≡ step_word L s k) × (next P (L, v, M) s k ≡ (set L k (suc s.c), left L v s k, marked P L M s k))
    price-i L v M s k ap' t pay tp tn =
        by-either t.same
        (λ z. let f = free-i L k z in
        price-open L v M s k (step-open P G L ap' s k M _ (holds P L M s.y) t z (pay f).0 (tp f) (is_false _ (λ w. clash f (tn w).0))) f (pay f).1)
        (λ z. price-join L v M s k
        (by-test (opens P (hold P L M s.y) s k) (λ e. absurd (omega (arith, (open_step P G L ap' s k M _ (holds P L M s.y) e).0))) (λ e. e))
        (step-join P G L ap' s k M _ (holds P L M s.y) t z (λ l. is_false _ (λ w. omega (arith, (tn w).1)))) (free-n L k s.c z))

    -- the open labels stay far enough apart
    keeps-apart : (L : List ℕ) (s : Point) (k : ℕ) → length L ≡ m → Apart P L → Step P L s k → Apart P (set L k (suc s.c))
    keeps-apart L s k l ap' t i j h u p q =
        by_equal i k
        (λ e. let ne : j ≡ k → ⊥ = λ (r : j ≡ k). omega arith in
        let b : get_or (set L k (suc s.c)) j 0 ≡ get_or L j 0 = set_other L k (suc s.c) j ne in
        rw (e, set_same L k (suc s.c) (omega (arith, t.slot)), b) (G.far-sym j (get_or L j 0) k (suc s.c) (t.others j u (omega arith) ne).0))
        (λ n. let a : get_or (set L k (suc s.c)) i 0 ≡ get_or L i 0 = set_other L k (suc s.c) i n in
        by_equal j k
        (λ e. rw (e, set_same L k (suc s.c) (omega (arith, t.slot)), a) (t.others i (omega arith) (omega arith) n).0)
        (λ n'. let b : get_or (set L k (suc s.c)) j 0 ≡ get_or L j 0 = set_other L k (suc s.c) j n' in
        rw (a, b) (ap' i j h u (omega arith) (omega arith))))

  -- ---- sequences

  unfoldable pub Steps : List ℕ → List Point → List ℕ → Type 0
  Steps L [] [] = Unit
  Steps L [] (k ∷ ks) = ⊥
  Steps L (s ∷ ss) [] = ⊥
  Steps L (s ∷ ss) (k ∷ ks) = Step P L s k × Steps (set L k (suc s.c)) ss ks

  unfoldable pub Pays : List ℕ → ℕ → List Point → List ℕ → Type 0
  Pays L v [] ks = Unit
  Pays L v (s ∷ ss) [] = Unit
  Pays L v (s ∷ ss) (k ∷ ks) = Pay L v s k × Pays (set L k (suc s.c)) (left L v s k) ss ks

  unfoldable pub Tips : List ℕ → List Point → List ℕ → Type 0
  Tips L [] ks = Unit
  Tips L (s ∷ ss) [] = Unit
  Tips L (s ∷ ss) (k ∷ ks) = Tip L s k × Tips (set L k (suc s.c)) ss ks

  unfoldable pub Turns : (labels marks : List ℕ) → List Point → List ℕ → Type 0
  Turns L M [] ks = Unit
  Turns L M (s ∷ ss) [] = Unit
  Turns L M (s ∷ ss) (k ∷ ks) = Turn L M s k × Turns (set L k (suc s.c)) (marked P L M s k) ss ks

  -- where no step is held
  pub turns-all : ((p : Strip) (s : Point) → held p s ≡ false) → (ss : List Point) (L M ks : List ℕ) → Turns L M ss ks
  unfolding Turns
  turns-all f [] L M ks = tt
  turns-all f (s ∷ ss) L M [] = tt
  turns-all f (s ∷ ss) L M (k ∷ ks) = (λ e. clash e (f _ s), turns-all f ss (set L k (suc s.c)) (marked P L M s k) ks)

  -- the sum of g over the sites that open a label; of the sites' shares
  unfoldable pub opened : (Point → ℕ) → List ℕ → List Point → List ℕ → ℕ
  opened g L [] ks = 0
  opened g L (s ∷ ss) [] = 0
  opened g L (s ∷ ss) (k ∷ ks) = cond (is_free L k) (g s) 0 + opened g (set L k (suc s.c)) ss ks

  unfoldable pub shares : List Point → List ℕ → ℕ
  shares [] ks = 0
  shares (s ∷ ss) [] = 0
  shares (s ∷ ss) (k ∷ ks) = share (height k) s.y + shares ss ks

  abbrev pub total : List ℕ → List Point → List ℕ → ℕ
  total L ss ks = word (opened (λ s. 1) L ss ks) (opened (λ s. lead s.x) L ss ks + shares ss ks)

  pub record Linear : Type 0 where
    pub nothing : word 0 0 ≡ 0
    pub adds : (a b c d : ℕ) → word (a + c) (b + d) ≡ word a b + word c d

  module _ (G : Good slots) where
    pub run-e : (ss : List Point) (L : List ℕ) (v : ℕ) (M ks : List ℕ) → length L ≡ m → Apart P L → cost_of (labels P) (L, v, M) ss ks < top → Steps L ss ks × Pays L v ss ks × Tips L ss ks × Turns L M ss ks
    unfolding cost_of Steps Pays Tips Turns
    run-e [] L v M [] l a h = (tt, tt, tt, tt)
    run-e [] L v M (k ∷ ks) l a h = absurd (omega arith)
    run-e (s ∷ ss) L v M [] l a h = absurd (omega arith)
    run-e (s ∷ ss) L v M (k ∷ ks) l a h =
        by-test (ltb k m)
        (λ e. let b = plus-below top (price P (L, v, M) s k) (cost_of (labels P) (next P (L, v, M) s k) ss ks) (rw e at h) in
        let t = price-e G L v M s k a b.0 in
        let q = price-i G L v M s k a t.0 t.1 t.2 t.3 in
        let ih = run-e ss (set L k (suc s.c)) (left L v s k) (marked P L M s k) ks (length-set L k (suc s.c) ∙ l) (keeps-apart G L s k l a t.0)
        (subst (λ (x : State P). cost_of (labels P) x ss ks < top) q.1 b.1) in
        ((t.0, ih.0), (t.1, ih.1), (t.2, ih.2), (t.3, ih.3)))
        (λ e. absurd (let q : top < top = rw e at h in omega arith))

    pub run-i : Linear → (ss : List Point) (L : List ℕ) (v : ℕ) (M ks : List ℕ) → length L ≡ m → Apart P L → Steps L ss ks → Pays L v ss ks → Tips L ss ks → Turns L M ss ks
        → cost_of (labels P) (L, v, M) ss ks ≡ min (total L ss ks) top
    unfolding cost_of Steps Pays Tips Turns opened shares
    run-i W [] L v M [] l a t p u w = rw W.nothing
    run-i W [] L v M (k ∷ ks) l a t p u w = absurd t
    run-i W (s ∷ ss) L v M [] l a t p u w = absurd t
    run-i W (s ∷ ss) L v M (k ∷ ks) l a t p u w =
        let q = price-i G L v M s k a t.0 p.0 u.0 w.0 in
        let ih = run-i W ss (set L k (suc s.c)) (left L v s k) (marked P L M s k) ks (length-set L k (suc s.c) ∙ l) (keeps-apart G L s k l a t.0) t.1 p.1 u.1 w.1 in
        rw (lt-ltb k m t.0.slot, q.0, q.1, ih) (sums W (cond (is_free L k) 1 0) (cond (is_free L k) (lead s.x) 0) (share (height k) s.y) _ _ _)
      where
        sums : Linear → (a b c d e f : ℕ) → plus top (word a (b + c)) (min (word d (e + f)) top) ≡ min (word (a + d) (b + e + (c + f))) top
        sums W a b c d e f = unfold plus in
            let h = W.adds a (b + c) d (e + f) in
            let g : word (a + d) (b + e + (c + f)) ≡ word (a + d) (b + c + (e + f)) = ap (word (a + d)) (omega arith) in
            omega arith
