-- Which of two comes first, without lists: at the leftmost site where they differ, the lower slot.
-- Assumes nothing.
use mathlib.Core.Path.{◌≡◌, refl, sym, ◌∙◌, ap₂, subst, subst⁻¹}
use mathlib.Core.Logic.{◌⊎◌, inl, inr}
use mathlib.Core.Bool.{Bool, true, false, not, false≢true}
use mathlib.Core.List.{List, [], ◌∷◌}
use Prim.Native.Nat.{ℕ, zero, suc, ◌+◌, ◌≤◌, ◌<◌}
use native.Mathlib.Omega.{arith}
use lib.Dec.{ltb, eqb}
use lib.ListN.{length, get_or, replicate}
use borrow.Author.Tests.{ltb-true, ltb-false, eqb-true}
use Rattle.sheet.specs.Sheet.{Site, Sheet, rank_of, rank_top, has_rank, ranks_differ}
pub use Rattle.labelling.specs.Lawful.{rank_at, Earlier, Better}
use Rattle.labelling.specs.Layout.{tied_of, tied, next_rank, slot_at, by_rank, slots_by_rank, comes_first, first_number, second_number, is_better}
use Rattle.lists.proofs.Tests.{clash, by-test, and_l, and_r, or-e, or_l, or_r, is_false, not_f, tests, eqb-self}
use Rattle.labelling.proofs.Order.{lexb, lex-true, lex-lt, lex-eq, first-asym}
use Rattle.labelling.proofs.ByRank.{from, from_all, from_less, next_of, next-sites, next_le, next-least, next-found}
use Rattle.labelling.proofs.Members.{no_site}
use Rattle.sheet.proofs.Accepted.{Sound, low-x}

-- a slot at an x that no site has
none-at : (x : ℕ) (ss : List Site) (js : List ℕ) → has_rank x ss ≡ false → slot_at x (tied_of ss js) ≡ 0
unfolding slot_at tied_of has_rank
none-at x [] js h = refl
none-at x (s ∷ ss) [] h = refl
none-at x (s ∷ ss) (j ∷ js) h = rw (or_l (eqb (rank_of s) x) (has_rank x ss) h) (none-at x ss js (or_r (eqb (rank_of s) x) (has_rank x ss) h))

-- no site from a on: noughts
spent : (n a : ℕ) (ss : List Site) (js : List ℕ) → length js ≡ length ss → ((x : ℕ) → has_rank x ss ≡ true → (x < a) × (x < rank_top)) →
    by_rank n a (tied_of ss js) ≡ replicate n 0
unfolding by_rank
spent zero a ss js l f = refl
spent (suc n) a ss js l f =
    let y : next_of a rank_top ss ≡ rank_top = by-test (ltb (next_of a rank_top ss) rank_top)
    (λ e. let g = next-found a rank_top ss (ltb-true (next_of a rank_top ss) rank_top e) in absurd (omega (arith, g.1, (f (next_of a rank_top ss) g.0).0)))
    (λ e. omega (arith, tests, next_le a rank_top ss)) in
    let q : next_rank a rank_top (tied_of ss js) ≡ rank_top = next-sites a rank_top ss js l ∙ y in
    rw q (ap₂ (λ (a : ℕ) (b : List ℕ). a ∷ b) (none-at rank_top ss js (is_false (has_rank rank_top ss) λ e. omega (arith, (f rank_top e).1)))
    (spent n (rank_top + 1) ss js l λ x h. (omega (arith, (f x h).1), (f x h).1)))

-- FIRST by x: at x the lower slot, and the same slots before
abbrev pub FirstAt : (from : ℕ) → List Site → (js ks : List ℕ) → ℕ → Type 0
FirstAt a ss js ks x =
    (has_rank x ss ≡ true) × (a ≤ x) × (slot_at x (tied_of ss js) < slot_at x (tied_of ss ks)) ×
    ((z : ℕ) → has_rank z ss ≡ true → a ≤ z → z < x → slot_at z (tied_of ss js) ≡ slot_at z (tied_of ss ks))

comes-at : (n a : ℕ) (ss : List Site) (js ks : List ℕ) → length js ≡ length ss → length ks ≡ length ss → ((x : ℕ) → has_rank x ss ≡ true → x < rank_top) →
    comes_first (by_rank n a (tied_of ss js)) (by_rank n a (tied_of ss ks)) ≡ true → (x : ℕ) × FirstAt a ss js ks x
comes-at zero a ss js ks l k f h = absurd (false≢true (unfold by_rank comes_first in h))
comes-at (suc n) a ss js ks l k f h =
    by-test (ltb (next_of a rank_top ss) rank_top) (λ e. found (next-found a rank_top ss (ltb-true (next_of a rank_top ss) rank_top e)) (opened h) (comes-at n (next_of a rank_top ss + 1) ss js ks l k f))
    λ e. absurd (none e)
  where
    y : ℕ
    y = next_of a rank_top ss

    more : Bool
    more = comes_first (by_rank n (y + 1) (tied_of ss js)) (by_rank n (y + 1) (tied_of ss ks))

    opened : comes_first (by_rank (suc n) a (tied_of ss js)) (by_rank (suc n) a (tied_of ss ks)) ≡ true → lexb (slot_at y (tied_of ss js)) (slot_at y (tied_of ss ks)) more ≡ true
    opened h = unfold by_rank comes_first in rw (next-sites a rank_top ss js l, next-sites a rank_top ss ks k) at h

    found : (has_rank y ss ≡ true) × (a ≤ y) → lexb (slot_at y (tied_of ss js)) (slot_at y (tied_of ss ks)) more ≡ true →
        (more ≡ true → (x : ℕ) × FirstAt (y + 1) ss js ks x) → (x : ℕ) × FirstAt a ss js ks x
    found (g, u) h ih = go (lex-true (slot_at y (tied_of ss js)) (slot_at y (tied_of ss ks)) more h)
      where
        go : (slot_at y (tied_of ss js) < slot_at y (tied_of ss ks)) ⊎ ((slot_at y (tied_of ss js) ≡ slot_at y (tied_of ss ks)) × (more ≡ true)) → (x : ℕ) × FirstAt a ss js ks x
        go (inl p) = (y, (g, u, p, λ z hz az zy. absurd (omega (arith, next-least a rank_top ss z hz az))))
        go (inr (e, t)) =
            let (x, (hx, ax, px, fx)) = ih t in (
              x,
              (
                hx,
                omega arith,
                px,
                λ z hz az zx.
                    by-test (eqb y z) (λ q. subst (λ (v : ℕ). slot_at v (tied_of ss js) ≡ slot_at v (tied_of ss ks)) (eqb-true y z q) e)
                    λ q. fx z hz (omega (arith, tests, next-least a rank_top ss z hz az)) zx,
              ),
            )

    none : ltb y rank_top ≡ false → ⊥
    none e =
        let w : (x : ℕ) → has_rank x ss ≡ true → (x < a) × (x < rank_top) = λ x hx.
        (by-test (ltb x a) (λ p. ltb-true x a p) (λ p. absurd (omega (arith, tests, next-least a rank_top ss x hx (ltb-false x a p), f x hx))), f x hx) in
        let q : comes_first (replicate (suc n) 0) (replicate (suc n) 0) ≡ true = rw (spent (suc n) a ss js l w, spent (suc n) a ss ks k w) at h in
        clash q (first-asym (replicate (suc n) 0) (replicate (suc n) 0) q)

at-comes : (n a : ℕ) (ss : List Site) (js ks : List ℕ) (x : ℕ) → length js ≡ length ss → length ks ≡ length ss → from a ss ≤ n → x < rank_top →
    FirstAt a ss js ks x → comes_first (by_rank n a (tied_of ss js)) (by_rank n a (tied_of ss ks)) ≡ true
unfolding by_rank comes_first
at-comes zero a ss js ks x l k m w (h, u, p, f) = absurd (omega (arith, from_less a x ss u h))
at-comes (suc n) a ss js ks x l k m w (h, u, p, f) =
    let y : ℕ = next_of a rank_top ss in
    let z : y ≤ x = next-least a rank_top ss x h u in
    let g : (has_rank y ss ≡ true) × (a ≤ y) = next-found a rank_top ss (omega arith) in
    rw (next-sites a rank_top ss js l, next-sites a rank_top ss ks k)
    (by-test (eqb y x)
    (λ e. lex-lt _ _ _ (subst⁻¹ (λ (v : ℕ). slot_at v (tied_of ss js) < slot_at v (tied_of ss ks)) (eqb-true y x e) p))
    λ e. lex-eq _ _ _ (f y g.0 g.1 (omega (arith, tests)))
    (at-comes n (y + 1) ss js ks x l k (omega (arith, from_less a y ss g.1 g.0)) w (h, omega (arith, tests), p, λ v hv av vx. f v hv (omega (arith, g.1)) vx)))

-- SLOTS AT X by places
pub slot-at : (ss : List Site) (js : List ℕ) → length js ≡ length ss → ranks_differ ss ≡ true → (i : ℕ) → i < length ss →
    (has_rank (rank_of (get_or ss i no_site)) ss ≡ true) × (slot_at (rank_of (get_or ss i no_site)) (tied_of ss js) ≡ get_or js i 0)
unfolding slot_at tied_of ranks_differ has_rank
slot-at [] js l d i u = absurd (omega arith)
slot-at (s ∷ ss) [] l d i u = absurd (omega arith)
slot-at (s ∷ ss) (j ∷ js) l d zero u = (rw (eqb-self (rank_of s)), rw (eqb-self (rank_of s)))
slot-at (s ∷ ss) (j ∷ js) l d (suc i) u =
    let (g, q) = slot-at ss js (omega arith) (and_r (not (has_rank (rank_of s) ss)) (ranks_differ ss) d) i (omega arith) in
    let e : eqb (rank_of s) (rank_of (get_or ss i no_site)) ≡ false = is_false _ λ e.
    clash g (subst (λ (v : ℕ). has_rank v ss ≡ false) (eqb-true (rank_of s) (rank_of (get_or ss i no_site)) e) (not_f (has_rank (rank_of s) ss) (and_l (not (has_rank (rank_of s) ss)) (ranks_differ ss) d))) in
    (rw (e, g), rw (e, q))

pub place_of : (ss : List Site) (x : ℕ) → has_rank x ss ≡ true → (i : ℕ) × (i < length ss) × (rank_of (get_or ss i no_site) ≡ x)
unfolding has_rank
place_of [] x h = absurd (false≢true h)
place_of (s ∷ ss) x h = go (or-e (eqb (rank_of s) x) (has_rank x ss) h) (place_of ss x)
  where
    go : (eqb (rank_of s) x ≡ true) ⊎ (has_rank x ss ≡ true) → (has_rank x ss ≡ true → (i : ℕ) × (i < length ss) × (rank_of (get_or ss i no_site) ≡ x)) →
        (i : ℕ) × (i < suc (length ss)) × (rank_of (get_or (s ∷ ss) i no_site) ≡ x)
    go (inl e) ih = (0, omega arith, eqb-true (rank_of s) x e)
    go (inr e) ih = let (i, u, q) = ih e in (suc i, omega arith, q)

-- THE CHARACTERISATION: js comes before ks
abbrev pub x_at : Sheet → ℕ → ℕ
x_at s i = (get_or s.sites i no_site).x

module _ (s : Sheet) (o : Sound s) (js ks : List ℕ) (jl : length js ≡ length s.sites) (kl : length ks ≡ length s.sites) where
  slot_j : (i : ℕ) → i < length s.sites → slot_at (rank_at s i) (tied s js) ≡ get_or js i 0
  slot_j i u = (slot-at s.sites js jl o.differ i u).1

  slot_k : (i : ℕ) → i < length s.sites → slot_at (rank_at s i) (tied s ks) ≡ get_or ks i 0
  slot_k i u = (slot-at s.sites ks kl o.differ i u).1

  has_it : (i : ℕ) → i < length s.sites → has_rank (rank_at s i) s.sites ≡ true
  has_it i u = (slot-at s.sites js jl o.differ i u).0

  at_place : (x : ℕ) → FirstAt 0 s.sites js ks x → (i : ℕ) × (i < length s.sites) × (rank_at s i ≡ x) → Earlier s js ks
  at_place x (hx, ax, px, fx) (i, u, e) =
      record {
        place = i;
        inside = u;
        lower = omega (arith, slot_j i u, slot_k i u, subst⁻¹ (λ (v : ℕ). slot_at v (tied s js) < slot_at v (tied s ks)) e px);
        same = λ j w l. omega (arith, slot_j j w, slot_k j w, fx (rank_at s j) (has_it j w) (omega arith) (omega arith));
      }

  pub comes-earlier : comes_first (slots_by_rank s js) (slots_by_rank s ks) ≡ true → Earlier s js ks
  comes-earlier h =
      let t = comes-at (length s.sites) 0 s.sites js ks jl kl (low-x s.sites o.xs o.ys) h in
      at_place t.0 t.1 (place_of s.sites t.0 t.1.0)

  pub earlier-comes : Earlier s js ks → comes_first (slots_by_rank s js) (slots_by_rank s ks) ≡ true
  earlier-comes e =
      at-comes (length s.sites) 0 s.sites js ks (rank_at s e.place) jl kl (from_all 0 s.sites)
      (low-x s.sites o.xs o.ys (rank_at s e.place) (has_it e.place e.inside)) (
        has_it e.place e.inside,
        omega arith,
        omega (arith, slot_j e.place e.inside, slot_k e.place e.inside, e.lower),
        λ z hz az zx. back z zx (place_of s.sites z hz),
      )
    where
      back : (z : ℕ) → z < rank_at s e.place → (i : ℕ) × (i < length s.sites) × (rank_at s i ≡ z) → slot_at z (tied s js) ≡ slot_at z (tied s ks)
      back z zx (i, u, q) =
          subst (λ (v : ℕ). slot_at v (tied s js) ≡ slot_at v (tied s ks)) q
          (slot_j i u ∙ e.same i u (omega arith) ∙ sym (slot_k i u))

-- BETTER, said without tests
module _ (s : Sheet) (o : Sound s) (js ks : List ℕ) (jl : length js ≡ length s.sites) (kl : length ks ≡ length s.sites) where
  third : Bool
  third = comes_first (slots_by_rank s js) (slots_by_rank s ks)

  second : Bool
  second = lexb (second_number s js) (second_number s ks) third

  pub better-e : is_better s js ks ≡ true → Better s js ks
  unfolding third second
  better-e h = one (lex-true (first_number s js) (first_number s ks) second h)
    where
      two : (second_number s js < second_number s ks) ⊎ ((second_number s js ≡ second_number s ks) × (third ≡ true)) →
          (second_number s js < second_number s ks) ⊎ ((second_number s js ≡ second_number s ks) × Earlier s js ks)
      two (inl p) = inl p
      two (inr (p, q)) = inr (p, comes-earlier s o js ks jl kl q)

      one : (first_number s js < first_number s ks) ⊎ ((first_number s js ≡ first_number s ks) × (second ≡ true)) → Better s js ks
      one (inl p) = inl p
      one (inr (p, q)) = inr (p, two (lex-true (second_number s js) (second_number s ks) third q))

  pub better-i : Better s js ks → is_better s js ks ≡ true
  unfolding third second
  better-i (inl p) = lex-lt (first_number s js) (first_number s ks) second p
  better-i (inr (p, inl q)) = lex-eq (first_number s js) (first_number s ks) second p (lex-lt (second_number s js) (second_number s ks) third q)
  better-i (inr (p, inr (q, r))) =
      lex-eq (first_number s js) (first_number s ks) second p (lex-eq (second_number s js) (second_number s ks) third q (earlier-comes s o js ks jl kl r))
