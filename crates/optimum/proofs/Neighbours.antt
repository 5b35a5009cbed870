-- THEOREM 2: neighbours are enough. A step is in order against all open labels exactly when the strip that holds the site lets it
-- open a label or join one, where the slots are `Good`.
use mathlib.Core.Path.{◌≡◌, refl, ap, ◌∙◌}
use mathlib.Core.Logic.{◌⊎◌, inl, inr}
use mathlib.Core.Bool.{Bool, true, false, ◌&&◌, ◌||◌}
use mathlib.Core.List.{List}
use Prim.Native.Nat.{ℕ, suc, ◌≤◌, ◌<◌}
use native.Mathlib.Omega.{arith}
use lib.Dec.{ltb}
use lib.ListN.{get_or}
use borrow.Author.Tests.{lt-ltb, eq-eqb}
use Rattle.lists.proofs.Tests.{by_order, by_equal, by-either, and_both, not_f}
use Rattle.labelling.specs.Lawful.{Miss}
use Rattle.optimum.specs.Slots.{far_from, clear_from}
use Rattle.optimum.specs.Strips.{Point, Strip, Instance, opens, joins_up, joins_down}
use Rattle.optimum.proofs.Slots.{Good, far-e, far-i, clear-e, clear-i, edge-far, edge-clear, rise-le, rise-lt}
use Rattle.optimum.proofs.StripsHeld.{Upper, Lower, Holds, opens_at, up-e, down-e}

or_right : (a b : Bool) → b ≡ true → a || b ≡ true
or_right true b e = refl
or_right false b e = e

module _ (P : Instance) where
  open P use {slots, may, tip, held}
  open slots use {m, height, far, clear}

  -- the label of colour + 1 d at j is in order with the site s at k
  abbrev pub Rel : ℕ → ℕ → Point → ℕ → Type 0
  Rel j d s k = (far j d k (suc s.c) ≡ true) × (clear j s.y ≡ true) × Miss (height j) s.y (height k)

  -- a step in order against ALL open labels
  pub record Step (L : List ℕ) (s : Point) (k : ℕ) : Type 0 where
    pub slot : k < m
    pub same : (get_or L k 0 ≡ 0) ⊎ (get_or L k 0 ≡ suc s.c)
    pub others : (j : ℕ) → j < m → 0 < get_or L j 0 → (j ≡ k → ⊥) → Rel j (get_or L j 0) s k

  -- open labels are far enough apart
  abbrev pub Apart : List ℕ → Type 0
  Apart L = (j k : ℕ) → j < k → k < m → 0 < get_or L j 0 → 0 < get_or L k 0 → far j (get_or L j 0) k (get_or L k 0) ≡ true

  pub opens-e : (p : Strip) (s : Point) (k : ℕ) → opens P p s k ≡ true
      → (far_from slots p.a p.ca k (suc s.c) ≡ true) × (far_from slots p.b p.cb k (suc s.c) ≡ true)
      × (clear_from slots p.a s.y ≡ true) × (clear_from slots p.b s.y ≡ true) × (may s k ≡ true) × (tip s k ≡ true) × (held p s ≡ false)
  unfolding opens
  opens-e p s k e =
      let g₀ = and_both _ _ e in
      let h₀ = and_both _ _ g₀.0 in
      let h₁ = and_both _ _ h₀.0 in
      let h₂ = and_both _ _ h₁.0 in
      let h₃ = and_both _ _ h₂.0 in
      let h₄ = and_both _ _ h₃.0 in
      let h₅ = and_both (ltb p.a (suc k) && ltb (suc k) p.b && ltb k m) (far_from slots p.a p.ca k (suc s.c)) h₄.0 in
      (h₅.1, h₄.1, h₃.1, h₂.1, h₁.1, h₀.1, not_f (held p s) g₀.1)

  module _ (G : Good slots) where
    module _ (L : List ℕ) (apart : Apart L) (s : Point) (k : ℕ) where
      -- one that is at or above the label i over the site, which is in order
      over-rel : (i d j : ℕ) → i < m → get_or L i 0 ≡ d → 0 < d → height i ≤ s.y → clear i s.y ≡ true → far i d k (suc s.c) ≡ true → i < k → k < m
          → j ≤ i → 0 < get_or L j 0 → Rel j (get_or L j 0) s k
      over-rel i d j li e n hy cl fr ik km ji nj =
          let hj = rise-le slots G.rising j i ji li in
          let hk = G.rising i k ik km in
          let miss : Miss (height j) s.y (height k) = inl (by_equal (height i) s.y (λ q. absurd (G.clear-off i s.y cl q)) (λ q. omega arith), omega arith) in
          by_equal j i
          (λ q. rw (q, e) (fr, cl, rw (← q) miss))
          (λ q. (G.far-trans j (get_or L j 0) i d k (suc s.c) (omega arith) ik km (rw e at (apart j i (omega arith) li nj (omega arith))) fr, G.clear_above j i s.y (omega arith) li hy cl, miss))

      under-rel : (i d j : ℕ) → j < m → get_or L i 0 ≡ d → 0 < d → s.y < height i → clear i s.y ≡ true → far i d k (suc s.c) ≡ true → k < i
          → i ≤ j → 0 < get_or L j 0 → Rel j (get_or L j 0) s k
      under-rel i d j lj e n hy cl fr ki ij nj =
          let hj = rise-le slots G.rising i j ij lj in
          let hk = G.rising k i ki (omega arith) in
          let miss : Miss (height j) s.y (height k) = inr (omega arith, omega arith) in
          by_equal j i
          (λ q. rw (q, e) (fr, cl, rw (← q) miss))
          (λ q. (
            G.far-sym k (suc s.c) j (get_or L j 0)
                (G.far-trans k (suc s.c) i d j (get_or L j 0) ki (omega arith) lj (G.far-sym i d k (suc s.c) fr) (rw e at (apart i j (omega arith) lj (omega arith) nj))),
            G.clear-below j i s.y (omega arith) lj hy cl,
            miss,
          ))

      -- ---- from the strip to all labels

      module _ (M : List ℕ) (p : Strip) (h : Holds P L M s.y p) where
        -- an open label lies at or above the strip's upper label, or at or below its lower one
        where-open : (j : ℕ) → 0 < get_or L j 0 → (j < p.a) ⊎ (p.b ≤ suc j)
        where-open j n =
            by_order p.a j
            (λ l. by_order p.b (suc j) (λ u. inr u) (λ u. absurd (omega (arith, h.empty j l u))))
            (λ l. inl l)

        pub open_step : opens P p s k ≡ true → (get_or L k 0 ≡ 0) × Step L s k
        open_step e = (z, record { slot = o.2; same = inl z; others = λ j lj nj ne. by-either (where-open j nj) (λ l. up j nj l h.upper) (λ l. down j lj nj l h.lower) })
          where
            o : (p.a < suc k) × (suc k < p.b) × (k < m)
            o = opens_at P p s k e

            z : get_or L k 0 ≡ 0
            z = h.empty k (omega (arith, o)) o.1

            up : (j : ℕ) → 0 < get_or L j 0 → j < p.a → Upper P L s.y p.a p.ca → Rel j (get_or L j 0) s k
            up j nj l (inl q) = absurd (omega arith)
            up j nj l (inr (i, q, li, ei, ni, hi)) =
                let f = opens-e p s k e in
                over-rel i p.ca j li ei ni hi (clear-e slots i s.y li (rw q at f.2)) (far-e slots i p.ca k (suc s.c) li (rw q at f.0)) (omega (arith, o)) o.2 (omega arith) nj

            down : (j : ℕ) → j < m → 0 < get_or L j 0 → p.b ≤ suc j → Lower P L s.y p.b p.cb → Rel j (get_or L j 0) s k
            down j lj nj l (inl q) = absurd (omega arith)
            down j lj nj l (inr (i, q, li, ei, ni, hi)) =
                let f = opens-e p s k e in
                under-rel i p.cb j lj ei ni hi (clear-e slots i s.y li (rw q at f.3)) (far-e slots i p.cb k (suc s.c) li (rw q at f.1)) (omega (arith, o)) (omega arith) nj

        pub up_step : joins_up P p s k ≡ true → (get_or L k 0 ≡ suc s.c) × Step L s k
        up_step e = go h.upper h.lower (up-e P p s k e)
          where
            go : Upper P L s.y p.a p.ca → Lower P L s.y p.b p.cb → (p.a ≡ suc k) × (p.ca ≡ suc s.c) × (clear_from slots p.b s.y ≡ true)
                → (get_or L k 0 ≡ suc s.c) × Step L s k
            go (inl q) b (ea, ec, cl) = absurd (omega arith)
            go (inr (i, q, li, ei, ni, hi)) b (ea, ec, cl) =
                (z, record { slot = omega arith; same = inr z; others = λ j lj nj ne. by-either (where-open j nj) (λ l. up j nj (omega arith)) (λ l. down j lj nj l b) })
              where
                z : get_or L k 0 ≡ suc s.c
                z = let t : k ≡ i = omega arith in ap (λ (n : ℕ). get_or L n 0) t ∙ ei ∙ ec

                hk : height k ≤ s.y
                hk = let t : k ≡ i = omega arith in rw t hi

                up : (j : ℕ) → 0 < get_or L j 0 → j < k → Rel j (get_or L j 0) s k
                up j nj l =
                    let f : far j (get_or L j 0) k (suc s.c) ≡ true = rw z at (apart j k l (omega arith) nj (omega (arith, z))) in
                    (f, G.far-above j (get_or L j 0) k (suc s.c) s.y l (omega arith) f hk, inl (omega (arith, hk, G.rising j k l (omega arith)), G.rising j k l (omega arith)))

                down : (j : ℕ) → j < m → 0 < get_or L j 0 → p.b ≤ suc j → Lower P L s.y p.b p.cb → Rel j (get_or L j 0) s k
                down j lj nj l (inl r) = absurd (omega arith)
                down j lj nj l (inr (b, r, lb, eb, nb, hb)) =
                    let kb : k < b = rise-lt slots G.rising b k s.y (omega arith) hk hb in
                    let hj : height b ≤ height j = rise-le slots G.rising b j (omega arith) lj in
                    let cb : clear b s.y ≡ true = clear-e slots b s.y lb (rw r at cl) in (
                      G.far-sym k (suc s.c) j (get_or L j 0) (rw z at (apart k j (omega arith) lj (omega (arith, z)) nj)),
                      by_equal j b (λ t. rw t cb) (λ t. G.clear-below j b s.y (omega arith) lj hb cb),
                      inr (omega arith, omega (arith, hk)),
                    )

        pub down_step : joins_down P p s k ≡ true → (get_or L k 0 ≡ suc s.c) × Step L s k
        down_step e = go h.upper h.lower (down-e P p s k e)
          where
            go : Upper P L s.y p.a p.ca → Lower P L s.y p.b p.cb → (p.b ≡ suc k) × (k < m) × (p.cb ≡ suc s.c) × (clear_from slots p.a s.y ≡ true)
                → (get_or L k 0 ≡ suc s.c) × Step L s k
            go a (inl q) (eb, km, ec, cl) = absurd (omega arith)
            go a (inr (i, q, li, ei, ni, hi)) (eb, km, ec, cl) =
                (z, record { slot = km; same = inr z; others = λ j lj nj ne. by-either (where-open j nj) (λ l. up j nj l a) (λ l. down j lj nj (omega arith)) })
              where
                z : get_or L k 0 ≡ suc s.c
                z = let t : k ≡ i = omega arith in ap (λ (n : ℕ). get_or L n 0) t ∙ ei ∙ ec

                hk : s.y < height k
                hk = let t : k ≡ i = omega arith in rw t hi

                down : (j : ℕ) → j < m → 0 < get_or L j 0 → k < j → Rel j (get_or L j 0) s k
                down j lj nj l =
                    let f : far j (get_or L j 0) k (suc s.c) ≡ true = G.far-sym k (suc s.c) j (get_or L j 0) (rw z at (apart k j l lj (omega (arith, z)) nj)) in
                    (f, G.far-below j (get_or L j 0) k (suc s.c) s.y l lj f hk, inr (omega (arith, hk, G.rising k j l lj), G.rising k j l lj))

                up : (j : ℕ) → 0 < get_or L j 0 → j < p.a → Upper P L s.y p.a p.ca → Rel j (get_or L j 0) s k
                up j nj l (inl r) = absurd (omega arith)
                up j nj l (inr (b, r, lb, eb, nb, hb)) =
                    let bk : b < k = rise-lt slots G.rising k b s.y lb hb hk in
                    let hj : height j ≤ height b = rise-le slots G.rising j b (omega arith) lb in
                    let cb : clear b s.y ≡ true = clear-e slots b s.y lb (rw r at cl) in (
                      rw z at (apart j k (omega arith) km nj (omega (arith, z))),
                      by_equal j b (λ t. rw t cb) (λ t. G.clear_above j b s.y (omega arith) lb hb cb),
                      inl (by_equal (height b) s.y (λ t. absurd (G.clear-off b s.y cb t)) (λ t. omega arith), omega (arith, hk)),
                    )

        -- ---- from all labels to the strip

        upper-i : Step L s k → Upper P L s.y p.a p.ca → get_or L k 0 ≡ 0
            → (p.a < suc k) × (far_from slots p.a p.ca k (suc s.c) ≡ true) × (clear_from slots p.a s.y ≡ true)
        upper-i t (inl q) z = (omega arith, edge-far slots p.a p.ca k (suc s.c) (inl q), edge-clear slots p.a s.y (inl q))
        upper-i t (inr (i, q, li, ei, ni, hi)) z =
            let ne : i ≡ k → ⊥ = λ (r : i ≡ k). let w : get_or L i 0 ≡ get_or L k 0 = ap (λ (n : ℕ). get_or L n 0) r in omega arith in
            let r = t.others i li (omega arith) ne in (
              by-either r.2 (λ u. by_order k i (λ v. absurd (omega (arith, rise-le slots G.rising k i v li))) (λ v. omega arith)) (λ u. absurd (omega arith)),
              rw q (far-i slots i p.ca k (suc s.c) li (rw ei at r.0)),
              rw q (clear-i slots i s.y li r.1),
            )

        lower-i : Step L s k → Lower P L s.y p.b p.cb → get_or L k 0 ≡ 0
            → (suc k < p.b) × (far_from slots p.b p.cb k (suc s.c) ≡ true) × (clear_from slots p.b s.y ≡ true)
        lower-i t (inl q) z = (omega (arith, t.slot), edge-far slots p.b p.cb k (suc s.c) (inr q), edge-clear slots p.b s.y (inr q))
        lower-i t (inr (i, q, li, ei, ni, hi)) z =
            let ne : i ≡ k → ⊥ = λ (r : i ≡ k). let w : get_or L i 0 ≡ get_or L k 0 = ap (λ (n : ℕ). get_or L n 0) r in omega arith in
            let r = t.others i li (omega arith) ne in (
              by-either r.2 (λ u. absurd (omega arith)) (λ u. by_order i k (λ v. absurd (omega (arith, rise-le slots G.rising i k v t.slot))) (λ v. omega arith)),
              rw q (far-i slots i p.cb k (suc s.c) li (rw ei at r.0)),
              rw q (clear-i slots i s.y li r.1),
            )

        pub step-open : Step L s k → get_or L k 0 ≡ 0 → may s k ≡ true → tip s k ≡ true → held p s ≡ false → opens P p s k ≡ true
        unfolding opens
        step-open t z e g f =
            let a = upper-i t h.upper z in
            let b = lower-i t h.lower z in
            rw (lt-ltb p.a (suc k) a.0, lt-ltb (suc k) p.b b.0, lt-ltb k m t.slot, a.1, a.2, b.1, b.2, e, g, f)

        pub step-join : Step L s k → get_or L k 0 ≡ suc s.c → (height k ≤ s.y → held p s ≡ false) → joins_up P p s k || joins_down P p s k ≡ true
        unfolding joins_up joins_down
        step-join t z free = by_order (height k) s.y (λ l. up l h.upper) (λ l. down l h.lower)
          where
            before : height k ≤ s.y → Lower P L s.y p.b p.cb → suc k < p.b
            before l (inl q) = omega (arith, t.slot)
            before l (inr (i, q, li, ei, ni, hi)) = omega (arith, rise-lt slots G.rising i k s.y t.slot l hi)

            shut : Lower P L s.y p.b p.cb → height k ≤ s.y → clear_from slots p.b s.y ≡ true
            shut (inl q) l = edge-clear slots p.b s.y (inr q)
            shut (inr (i, q, li, ei, ni, hi)) l =
                rw q (clear-i slots i s.y li (t.others i li (omega arith) (λ (r : i ≡ k). omega (arith, ap height r))).1)

            up : height k ≤ s.y → Upper P L s.y p.a p.ca → joins_up P p s k || joins_down P p s k ≡ true
            up l (inl q) = absurd (omega (arith, h.empty k (omega arith) (before l h.lower)))
            up l (inr (i, q, li, ei, ni, hi)) =
                by_order i k
                (λ u. by_equal i k
                (λ r. let w : get_or L i 0 ≡ get_or L k 0 = ap (λ (n : ℕ). get_or L n 0) r in
                rw (eq-eqb p.a (suc k) (omega arith), eq-eqb p.ca (suc s.c) (omega arith), shut h.lower l, free l))
                (λ r. absurd (omega (arith, h.empty k (omega arith) (before l h.lower)))))
                (λ u. absurd (by-either (t.others i li (omega arith) (λ (r : i ≡ k). omega arith)).2 (λ v. omega (arith, G.rising k i u li)) (λ v. omega arith)))

            after : s.y < height k → Upper P L s.y p.a p.ca → p.a ≤ k
            after l (inl q) = omega arith
            after l (inr (i, q, li, ei, ni, hi)) = omega (arith, rise-lt slots G.rising k i s.y li hi l)

            shut-up : Upper P L s.y p.a p.ca → s.y < height k → clear_from slots p.a s.y ≡ true
            shut-up (inl q) l = edge-clear slots p.a s.y (inl q)
            shut-up (inr (i, q, li, ei, ni, hi)) l =
                rw q (clear-i slots i s.y li (t.others i li (omega arith) (λ (r : i ≡ k). omega (arith, ap height r))).1)

            down : s.y < height k → Lower P L s.y p.b p.cb → joins_up P p s k || joins_down P p s k ≡ true
            down l (inl q) = absurd (omega (arith, h.empty k (after l h.upper) (omega (arith, t.slot))))
            down l (inr (i, q, li, ei, ni, hi)) =
                by_order k i
                (λ u. by_equal i k
                (λ r. let w : get_or L i 0 ≡ get_or L k 0 = ap (λ (n : ℕ). get_or L n 0) r in
                or_right (joins_up P p s k) (joins_down P p s k) (rw (eq-eqb p.b (suc k) (omega arith), lt-ltb k m t.slot, eq-eqb p.cb (suc s.c) (omega arith), shut-up h.upper l)))
                (λ r. absurd (omega (arith, h.empty k (after l h.upper) (omega arith)))))
                (λ u. absurd (by-either (t.others i li (omega arith) (λ (r : i ≡ k). omega arith)).2 (λ v. omega arith) (λ v. omega (arith, G.rising i k u t.slot))))
