-- Laws of splitting a budget: with the cheaper of two, the functions from budgets to costs are a commutative semiring.
use mathlib.Core.Path.{◌≡◌, refl, ap, ◌∙◌, fun_ext}
use mathlib.Core.Bool.{Bool, true, false, cond}
use mathlib.Core.List.{List, [], ◌∷◌}
use Prim.Native.Nat.{ℕ, zero, suc, ◌+◌, ◌-◌, ◌≤◌, min}
use native.Mathlib.Nat.{le_antisymm, le_trans, le_refl, sub-zero, zero-add}
use native.Mathlib.Omega.{arith}
use lib.Dec.{eqb}
use borrow.Author.Tests.{eqb-true, eqb-false, eq-eqb, ne_eqb}
use Rattle.lists.proofs.Tests.{by-test, clash}
use Rattle.search.specs.Cost.{plus, least}
use Rattle.search.proofs.Cost.{plus_comm, plus_assoc, plus-min, plus-top, top-plus, plus-le, plus-mono, least-le-top, least-le, least-most, plus-least}
use Rattle.search.specs.Semi.{Semiring, sum, prod}
use Rattle.search.specs.Split.{Splitting, conv, cheaper, never, just}

pub just-same : (top c e : ℕ) → just top c e e ≡ c
unfolding just
just-same top c e = rw (eq-eqb e e refl)

pub just-other : (top c e w : ℕ) → (w ≡ e → ⊥) → just top c e w ≡ top
unfolding just
just-other top c e w h = rw (ne_eqb w e h)

pub just-le : (top w : ℕ) → just top 0 0 w ≤ top
unfolding just
just-le top w = go (eqb w 0)
  where
    go : (b : Bool) → cond b 0 top ≤ top
    go true = omega arith
    go false = omega arith

module _ (top : ℕ) (below : ℕ → ℕ → Bool) (B : Splitting below) where
  -- each way to split is an upper bound, and what is below all is a lower one
  pub conv-le-top : (f g : ℕ → ℕ) (v : ℕ) → conv top below f g v ≤ top
  unfolding conv
  conv-le-top f g v = least-le-top top (suc v) _

  pub conv-low : (f g : ℕ → ℕ) (v w : ℕ) → below w v ≡ true → conv top below f g v ≤ plus top (f w) (g (v - w))
  unfolding conv
  conv-low f g v w e =
      let h = B.fits w v e in
      let q : conv top below f g v ≤ cond (below w v) (plus top (f w) (g (v - w))) top = least-le top (suc v) (λ w. cond (below w v) (plus top (f w) (g (v - w))) top) w (omega arith) in
      rw e at q

  pub conv-most : (f g : ℕ → ℕ) (v b : ℕ) → b ≤ top → ((w : ℕ) → below w v ≡ true → b ≤ plus top (f w) (g (v - w))) → b ≤ conv top below f g v
  unfolding conv
  conv-most f g v b h q = least-most top (suc v) _ b h (λ w l. by-test (below w v) (λ e. rw e (q w e)) (λ e. rw e h))

  -- and so under a further cost
  pub plus-conv-most : (x : ℕ) (f g : ℕ → ℕ) (v b : ℕ) → b ≤ top → ((w : ℕ) → below w v ≡ true → b ≤ plus top x (plus top (f w) (g (v - w))))
      → b ≤ plus top x (conv top below f g v)
  unfolding conv
  plus-conv-most x f g v b h q =
      rw plus-least (least-most top (suc v) _ b h (λ w l. by-test (below w v) (λ e. rw e (q w e)) (λ e. rw (e, plus-top) h)))

  -- ---- splitting is commutative

  conv-comm-le : (f g : ℕ → ℕ) (v : ℕ) → conv top below f g v ≤ conv top below g f v
  conv-comm-le f g v = conv-most g f v _ (conv-le-top f g v) (λ w e. go w e)
    where
      go : (w : ℕ) → below w v ≡ true → conv top below f g v ≤ plus top (g w) (f (v - w))
      go w e =
          let h = B.fits w v e in
          let s : v - (v - w) ≡ w = omega arith in
          let q : conv top below f g v ≤ plus top (f (v - w)) (g w) = rw s at (conv-low f g v (v - w) (B.other w v e)) in
          rw (plus_comm top (g w) (f (v - w))) q

  pub conv-comm : (f g : ℕ → ℕ) → conv top below f g ≡ conv top below g f
  conv-comm f g = fun_ext (λ v. le_antisymm (conv-comm-le f g v) (conv-comm-le g f v))

  -- ---- splitting is associative

  -- two parts taken one after the other: both together may be taken, and the first from both
  pub both : (a c v : ℕ) → below a v ≡ true → below c (v - a) ≡ true → (below (a + c) v ≡ true) × (below a (a + c) ≡ true)
  both a c v h k =
      let la = B.fits a v h in
      let lc = B.fits c (v - a) k in
      let ov : below (v - a) v ≡ true = B.other a v h in
      let ou : below (v - a - c) (v - a) ≡ true = B.other c (v - a) k in
      let s₁ : v - (v - a - c) ≡ a + c = omega arith in
      let s₂ : v - (v - a - c) - (v - a - (v - a - c)) ≡ a = omega arith in
      let q₁ : below (v - (v - a - c)) v ≡ true = B.other _ v (B.trans _ _ v ou ov) in
      let q₂ : below (v - (v - a - c) - (v - a - (v - a - c))) (v - (v - a - c)) ≡ true = B.other _ _ (B.less _ _ v ou ov) in
      (rw s₁ at q₁, rw (s₂, s₁) at q₂)

  conv-assoc-le : (f g h : ℕ → ℕ) (v : ℕ) → conv top below (conv top below f g) h v ≤ conv top below f (conv top below g h) v
  conv-assoc-le f g h v =
      conv-most f (conv top below g h) v _ (conv-le-top _ h v) (λ a ea. plus-conv-most (f a) g h (v - a) _ (conv-le-top _ h v) (λ c ec. go a c ea ec))
    where
      go : (a c : ℕ) → below a v ≡ true → below c (v - a) ≡ true
          → conv top below (conv top below f g) h v ≤ plus top (f a) (plus top (g c) (h (v - a - c)))
      go a c ea ec =
          let b = both a c v ea ec in
          let s₁ : a + c - a ≡ c = omega arith in
          let s₂ : v - (a + c) ≡ v - a - c = omega arith in
          let p : conv top below (conv top below f g) h v ≤ plus top (conv top below f g (a + c)) (h (v - a - c)) = rw s₂ at (conv-low (conv top below f g) h v (a + c) b.0) in
          let q : conv top below f g (a + c) ≤ plus top (f a) (g c) = rw s₁ at (conv-low f g (a + c) a b.1) in
          let r : plus top (h (v - a - c)) (conv top below f g (a + c)) ≤ plus top (h (v - a - c)) (plus top (f a) (g c)) = plus-mono top (h (v - a - c)) _ _ q in
          rw (← (plus_assoc top (f a) (g c) (h (v - a - c))), plus_comm top (plus top (f a) (g c)) (h (v - a - c))) (le_trans p (rw (plus_comm top (conv top below f g (a + c)) (h (v - a - c))) r))

  pub conv-assoc : (f g h : ℕ → ℕ) → conv top below (conv top below f g) h ≡ conv top below f (conv top below g h)
  conv-assoc f g h = fun_ext (λ v. le_antisymm (conv-assoc-le f g h v) (back v))
    where
      back : (v : ℕ) → conv top below f (conv top below g h) v ≤ conv top below (conv top below f g) h v
      back v = rw (conv-comm f (conv top below g h), conv-comm g h, conv-comm (conv top below f g) h, conv-comm f g) (conv-assoc-le h g f v)

  -- ---- it distributes over the cheaper of two, and what cannot be had stays so

  pub conv-cheaper : (f g h : ℕ → ℕ) → conv top below f (cheaper g h) ≡ cheaper (conv top below f g) (conv top below f h)
  unfolding cheaper
  conv-cheaper f g h = fun_ext (λ v. le_antisymm (to v) (from v))
    where
      to : (v : ℕ) → conv top below f (cheaper g h) v ≤ min (conv top below f g v) (conv top below f h v)
      to v =
          let p : conv top below f (cheaper g h) v ≤ conv top below f g v = conv-most f g v _ (conv-le-top f _ v) (λ w e. le_trans (conv-low f (cheaper g h) v w e) (plus-mono top (f w) _ _ (omega arith))) in
          let q : conv top below f (cheaper g h) v ≤ conv top below f h v = conv-most f h v _ (conv-le-top f _ v) (λ w e. le_trans (conv-low f (cheaper g h) v w e) (plus-mono top (f w) _ _ (omega arith))) in
          omega arith

      from : (v : ℕ) → min (conv top below f g v) (conv top below f h v) ≤ conv top below f (cheaper g h) v
      from v = conv-most f (cheaper g h) v _ (omega (arith, conv-le-top f g v)) (λ w e.
          let p = conv-low f g v w e in
          let q = conv-low f h v w e in
          rw (plus-min top (f w) (g (v - w)) (h (v - w))) (omega arith))

  pub conv-never : (f : ℕ → ℕ) → conv top below f (never top) ≡ never top
  unfolding never
  conv-never f = fun_ext (λ v. le_antisymm (conv-le-top f (never top) v) (conv-most f (never top) v top (le_refl top) (λ w e. rw plus-top (le_refl top))))

  -- ---- a part that is just e

  pub conv-just : (c e : ℕ) (g : ℕ → ℕ) (v : ℕ) → conv top below (just top c e) g v ≡ cond (below e v) (plus top c (g (v - e))) top
  conv-just c e g v =
      by-test (below e v)
      (λ h. rw h (le_antisymm
      (rw (just-same top c e) at (conv-low (just top c e) g v e h))
      (conv-most (just top c e) g v _ (plus-le top c _) (λ w k. by-test (eqb w e)
      (λ q. rw (eqb-true w e q, just-same top c e) (le_refl _))
      (λ q. rw (just-other top c e w (eqb-false w e q), top-plus) (plus-le top c _))))))
      (λ h. rw h (le_antisymm
      (conv-le-top (just top c e) g v)
      (conv-most (just top c e) g v top (le_refl top) (λ w k. by-test (eqb w e)
      (λ q. clash (rw (eqb-true w e q) at k) h)
      (λ q. rw (just-other top c e w (eqb-false w e q), top-plus) (le_refl top))))))

  pub conv-one : (g : ℕ → ℕ) (v : ℕ) → conv top below (just top 0 0) g v ≡ min (g v) top
  unfolding plus
  conv-one g v = rw (conv-just 0 0 g v, B.nothing v, sub-zero v, zero-add (g v))

  -- ---- the semiring

  pub semiring : Semiring (ℕ → ℕ) cheaper (conv top below) (never top) (just top 0 0)
  semiring = record {
    comm = conv-comm;
    assoc = conv-assoc;
    dist = conv-cheaper;
    absorbs = conv-never;
    one-one = fun_ext (λ v. conv-one (just top 0 0) v ∙ below_top (just top 0 0) v (just-le top v));
    one-mul = λ f g. fun_ext (λ v. conv-one (conv top below f g) v ∙ below_top (conv top below f g) v (conv-le-top f g v));
  }
    where
      below_top : (f : ℕ → ℕ) (v : ℕ) → f v ≤ top → min (f v) top ≡ f v
      below_top f v h = omega arith

  -- a sum of functions, at a budget
  pub sum-at : (n : ℕ) (F : ℕ → ℕ → ℕ) (v : ℕ) → sum cheaper (never top) n F v ≡ least top n (λ k. F k v)
  unfolding sum cheaper never least
  sum-at zero F v = refl
  sum-at (suc n) F v = ap (λ (z : ℕ). min z (F n v)) (sum-at n F v)

  free : (g : ℕ → ℕ) (v : ℕ) → g (v - 0) ≡ 0 → conv top below (λ w. 0) g v ≡ 0
  unfolding plus
  free g v e = let h : conv top below (λ w. 0) g v ≤ min (0 + 0) top = rw e at (conv-low (λ w. 0) g v 0 (B.nothing v)) in omega arith

  -- strips with nothing left to do split any budget at no cost
  pub prod-free : {A : Type 0} (p : A) (L : List A) (v : ℕ) → prod (conv top below) (just top 0 0) (λ q w. 0) (p ∷ L) v ≡ 0
  unfolding prod
  prod-free p [] v = rw (conv-comm (λ w. 0) (just top 0 0), conv-one (λ w. 0) v) (omega arith)
  prod-free {A} p (q ∷ L) v = free (prod (conv top below) (just top 0 0) (λ (a : A) w. 0) (q ∷ L)) v (prod-free q L (v - 0))
