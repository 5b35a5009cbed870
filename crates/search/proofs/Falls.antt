-- A larger budget never costs more, so a strip that is none at the full budget is none at every budget. For any rules with laws.
use mathlib.Core.Path.{◌≡◌}
use mathlib.Core.Bool.{Bool, true, cond}
use mathlib.Core.List.{List, [], ◌∷◌}
use Prim.Native.Nat.{ℕ, ◌-◌, ◌≤◌, ◌<◌}
use native.Mathlib.Nat.{le_refl}
use native.Mathlib.Omega.{arith}
use Rattle.lists.proofs.Tests.{by-test}
use Rattle.search.specs.Cost.{plus, least}
use Rattle.search.proofs.Cost.{least-le-top, least-le, least-most, plus-le, plus-mono, plus_comm}
use Rattle.search.specs.Split.{Splitting, conv}
use Rattle.search.proofs.Split.{conv-le-top, conv-low, conv-most}
use Rattle.search.specs.Plan.{Filled, Rules, Laws, T, Rest}
use Rattle.search.proofs.Plan.{T-nil, T-in, T-out, T-le-top, Rest-cons}

-- costs that do not rise with the budget
abbrev pub Falls : (below : ℕ → ℕ → Bool) → (ℕ → ℕ) → Type 0
Falls below f = (w v : ℕ) → below w v ≡ true → f v ≤ f w

module _ (top : ℕ) (below : ℕ → ℕ → Bool) (B : Splitting below) where
  pub conv-falls : (f g : ℕ → ℕ) → Falls below f → Falls below (conv top below f g)
  conv-falls f g h w v e = conv-most top below B f g w _ (conv-le-top top below B f g v) (λ a i. go a i)
    where
      go : (a : ℕ) → below a w ≡ true → conv top below f g v ≤ plus top (f a) (g (w - a))
      go a i =
          let p = B.fits a w i in
          let q = B.fits w v e in
          let rest = B.other a w i in
          let taken : below (v - (w - a)) v ≡ true = B.other (w - a) v (B.trans (w - a) w v rest e) in
          let more : below a (v - (w - a)) ≡ true = rw (back a w p) at (B.less (w - a) w v rest e) in
          let low : conv top below f g v ≤ plus top (f (v - (w - a))) (g (w - a)) = rw (left a w v p q) at (conv-low top below B f g v (v - (w - a)) taken) in
          let f' = h a (v - (w - a)) more in
          let m = plus-mono top (g (w - a)) (f (v - (w - a))) (f a) f' in
          let c = plus_comm top (g (w - a)) (f (v - (w - a))) in
          let d = plus_comm top (g (w - a)) (f a) in
          omega arith
        where
          back : (a w : ℕ) → a ≤ w → w - (w - a) ≡ a
          back a w p = omega arith

          left : (a w v : ℕ) → a ≤ w → w ≤ v → v - (v - (w - a)) ≡ w - a
          left a w v p q = omega arith

least-mono : (top n : ℕ) (f g : ℕ → ℕ) → ((k : ℕ) → k < n → f k ≤ g k) → least top n f ≤ least top n g
least-mono top n f g h = least-most top n g _ (least-le-top top n f) (λ k l. let a = least-le top n f k l in omega (arith, h k l))

module _ {Strip Site : Type 0} (G : Rules Strip Site) (laws : Laws G) where
  open G use {top, m, below, inside, cost, draw, children}

  rest-falls : (ss : List Site) → ((p : Strip) → Falls below (T G ss p)) → (L : List Strip) → Filled L → Falls below (Rest G ss L)
  unfolding Filled
  rest-falls ss h [] f w v e = absurd f
  rest-falls ss h (p ∷ L) f w v e =
      rw (Rest-cons G laws ss p L v, Rest-cons G laws ss p L w) (conv-falls top below laws.splits (T G ss p) (Rest G ss L) (h p) w v e)

  pub table-falls : (ss : List Site) (p : Strip) → Falls below (T G ss p)
  table-falls [] p w v e = rw (T-nil G laws p v, T-nil G laws p w) (omega arith)
  table-falls (s ∷ ss) p w v e =
      by-test (inside p s)
      (λ i. rw (T-in G laws s ss p v i, T-in G laws s ss p w i) (least-mono top m _ _ (λ k l. step k (rest-falls ss (table-falls ss) (children p s k) (laws.filled p s k)))))
      (λ i. rw (T-out G laws s ss p v i, T-out G laws s ss p w i) (table-falls ss p w v e))
    where
      step : (k : ℕ) → Falls below (Rest G ss (children p s k))
          → cond (below (draw p s k) v) (plus top (cost p s k) (Rest G ss (children p s k) (v - draw p s k))) top
          ≤ cond (below (draw p s k) w) (plus top (cost p s k) (Rest G ss (children p s k) (w - draw p s k))) top
      step k f =
          by-test (below (draw p s k) w)
          (λ a. rw (a, laws.splits.trans (draw p s k) w v a e) (plus-mono top (cost p s k) _ _ (f (w - draw p s k) (v - draw p s k) (laws.splits.less (draw p s k) w v a e))))
          (λ a. rw a (by-test (below (draw p s k) v) (λ b. rw b (plus-le top (cost p s k) _)) (λ b. rw b (le_refl top))))

  -- none at a budget that holds all others: none at each
  pub none-at : (ss : List Site) (p : Strip) (w v : ℕ) → below w v ≡ true → T G ss p v ≡ top → T G ss p w ≡ top
  none-at ss p w v e h = let a = table-falls ss p w v e in let b = T-le-top G laws ss p w in omega arith
