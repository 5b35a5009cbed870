-- What a strip asks for, and that what the whole sheet leads to has the shape that is looked for. Assumes nothing.
use mathlib.Core.Path.{◌≡◌, sym, ◌∙◌, subst}
use mathlib.Core.Logic.{◌⊎◌, inl, inr}
use mathlib.Core.Bool.{true, false, ◌||◌}
use mathlib.Core.List.{List}
use Prim.Native.Nat.{ℕ, suc, ◌<◌, ◌≤◌}
use native.Mathlib.Omega.{arith}
use lib.ListN.{length}
use borrow.Author.Tests.{leb-true, ltb-true}
use Rattle.lists.proofs.Tests.{by-test, by-either, and_both, or-e, clash}
use Rattle.optimum.specs.Strips.{Point, Strip, Instance, inside, opens, joins_up, joins_down, children}
use Rattle.optimum.specs.OneSided.{top_word, has_slot}
use Rattle.optimum.specs.Reached.{In, Asks}
use Rattle.arrays.specs.declared.Measures.{Measures}
use Rattle.strips.specs.Strips.{instance_on, site_opens, WindowOf, rise_cost, fall_cost, risen, fallen}
use Rattle.arrays.specs.Arrays.{slots_by, turn_by}
use Rattle.arrays.specs.Given.{OfSheet, SiteIn, on_slots}
use Rattle.strips.specs.declared.Window.{Window}
use Rattle.rows.specs.Rows.{marked_by, upper_part, lower_part}
use Rattle.rows.proofs.Places.{upper_is, lower-is}
use Rattle.strips.proofs.Joining.{Opening, opening, risen-at, fallen-at, up_least, down-least, join-low}
use Rattle.parts.specs.Parts.{Marked, PartsMarked}

module _ (q : Measures) (hs bs : List ℕ) (p : Strip) (s : Point) where
  abbrev P : Instance
  P = instance_on q hs bs

  -- a site outside of the strip leaves it as it is
  pub asked-out : (x : Strip) → inside P p s ≡ false → Asks P p s x → x ≡ p
  asked-out x o (inl (e, i)) = i
  asked-out x o (inr (e, k)) = clash e o

  -- a label at slot k leaves two parts
  pub record Part (x : Strip) : Type 0 where
    pub k : ℕ
    pub opened : Opening q hs bs p s k
    pub which : (x ≡ upper_part (turn_by hs s k) p s k) ⊎ (x ≡ lower_part p s k)

  -- what a site inside asks for that joins the label above; the label below
  abbrev Rises : Strip → Type 0
  Rises x = (x ≡ risen hs p s) × (rise_cost q hs bs p s < top_word)

  abbrev Falls : Strip → Type 0
  Falls x = (x ≡ fallen hs p s) × (fall_cost q hs bs p s < top_word)

  -- a site inside joins a label, which leaves the strip with its mark, or opens one
  pub asked_in : (x : Strip) → OfSheet (on_slots q hs) → SiteIn q s → inside P p s ≡ true → Asks P p s x
      → Rises x ⊎ (Falls x ⊎ Part x)
  unfolding children In
  asked_in x f g i (inl (e, o)) = clash i e
  asked_in x f g i (inr (e, (k, lk, t, m))) =
      by-test (opens P p s k)
      (λ o. inr (inr (record { k = k; opened = opening q hs bs p s k o; which = two (rw o at m) })))
      (λ o. joins (rw o at t) (one (rw o at m)))
    where
      two : (x ≡ record { a = p.a; ca = p.ca; b = suc k; cb = suc s.c; d = turn_by hs s k }) ⊎ ((x ≡ record { a = suc k; ca = suc s.c; b = p.b; cb = p.cb; d = 0 }) ⊎ ⊥) → (x ≡ upper_part (turn_by hs s k) p s k) ⊎ (x ≡ lower_part p s k)
      two (inl z) = inl (z ∙ sym (upper_is (turn_by hs s k) p s k))
      two (inr (inl z)) = inr (z ∙ sym (lower-is p s k))
      two (inr (inr z)) = elim z [ ]

      one : (x ≡ marked_by (turn_by hs s k) p) ⊎ ⊥ → x ≡ marked_by (turn_by hs s k) p
      one (inl z) = z
      one (inr z) = elim z [ ]

      under : (a b c : ℕ) → a ≤ b → b < c → a < c
      under a b c u v = omega arith

      joins : joins_up P p s k || joins_down P p s k ≡ true → x ≡ marked_by (turn_by hs s k) p → Rises x ⊎ (Falls x ⊎ Part x)
      joins j z =
          by-either (or-e _ _ j)
          (λ u. inl (z ∙ risen-at q hs bs p s k u, under _ _ _ (up_least q hs bs p s k lk u) (join-low q hs bs p s k f g)))
          (λ u. inr (inl (z ∙ fallen-at q hs bs p s k u, under _ _ _ (down-least q hs bs p s k u) (join-low q hs bs p s k f g))))

  -- a label that may be opened leaves two parts that are asked for
  pub asks-parts : (k : ℕ) → inside P p s ≡ true → opens P p s k ≡ true → Asks P p s (upper_part (turn_by hs s k) p s k) × Asks P p s (lower_part p s k)
  unfolding children In
  asks-parts k i o =
      let l = (opening q hs bs p s k o).slot in
      (inr (i, (k, l, rw o, rw o (inl (upper_is (turn_by hs s k) p s k)))), inr (i, (k, l, rw o, rw o (inr (inl (lower-is p s k))))))

  -- where the site lies outside, all that is asked for is marked if the strip is
  pub marked-out : (work : List ℕ) (low : ℕ) → inside P p s ≡ false → Marked work low (length hs) q.colours q.budgets p
      → (x : Strip) → Asks P p s x → Marked work low (length hs) q.colours q.budgets x
  marked-out work low o h x a = subst (Marked work low (length hs) q.colours q.budgets) (sym (asked-out x o a)) h

  -- where it lies inside, if the strip is as the site leaves it that joins, and both parts are at each slot of the window that is not barred, should it open a label
  pub marked-in : (work : List ℕ) (low : ℕ) (w : Window) → OfSheet (on_slots q hs) → SiteIn q s → inside P p s ≡ true
      → (rise_cost q hs bs p s < top_word → Marked work low (length hs) q.colours q.budgets (risen hs p s))
      → (fall_cost q hs bs p s < top_word → Marked work low (length hs) q.colours q.budgets (fallen hs p s))
      → (site_opens P p s ≡ true → WindowOf (slots_by q hs) p s w × ((k : ℕ) → w.from ≤ k → k < w.to → has_slot s.barred k ≡ false → PartsMarked q work low (length hs) p s k (turn_by hs s k)))
      → (x : Strip) → Asks P p s x → Marked work low (length hs) q.colours q.budgets x
  marked-in work low w f g i up down parts x a =
      by-either (asked_in x f g i a)
      (λ z. subst (Marked work low (length hs) q.colours q.budgets) (sym z.0) (up z.1))
      (λ y. by-either y
      (λ z. subst (Marked work low (length hs) q.colours q.budgets) (sym z.0) (down z.1))
      (λ z. let o = z.opened in
      let b = parts o.site in
      let t = and_both _ _ (sym (b.0.leaves z.k (omega (arith, o.above)) o.under) ∙ o.gap) in
      let d = b.1 z.k (leb-true _ _ t.0) (ltb-true _ _ t.1) o.free in
      by-either z.which
      (λ e. subst (Marked work low (length hs) q.colours q.budgets) (sym e) d.upper)
      (λ e. subst (Marked work low (length hs) q.colours q.budgets) (sym e) d.lower)))
