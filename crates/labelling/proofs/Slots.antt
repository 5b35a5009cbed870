-- A count at first sites is the number of different slots that the sites have, as a statement about the set; and rule 2 by it. Assumes nothing.
use mathlib.Core.Path.{◌≡◌, sym, subst, subst⁻¹}
use mathlib.Core.Logic.{◌⊎◌, inl, inr, ◌↔◌}
use mathlib.Core.Bool.{Bool, true, false, ◌&&◌, ◌||◌, cond}
use mathlib.Core.List.{List}
use Prim.Native.Nat.{ℕ, zero, suc, ◌+◌, ◌<◌}
use native.Mathlib.Omega.{arith}
use lib.Dec.{eqb, leb}
use lib.ListN.{length, get_or}
use borrow.Author.Tests.{eqb-true, eq-eqb, leb-true, le-leb}
use Rattle.lists.specs.Number.{NumberOf}
use Rattle.lists.proofs.Number.{number-none, number_same, number_more, number-one}
use Rattle.lists.proofs.Tests.{clash, by-test, by_order, by-either, and_l, and_r, or-e, or_l, or_r}
use Rattle.sheet.specs.Limits.{unbounded}
use Rattle.sheet.specs.Sheet.{Sheet}
use Rattle.labelling.specs.Layout.{site_at, tied, used_of, slots_of, no_colour}
use Rattle.labelling.specs.Lawful.{Bounded, RuleTwo}
use Rattle.labelling.specs.Slots.{ColourHas, OverBound}
use Rattle.labelling.specs.Counted.{all_before, sum_before, is_taken, is_first, sum_firsts, of_colour, colours_counted}
use Rattle.labelling.proofs.Best.{low_ties}
use Rattle.labelling.proofs.Counted.{all-before, one-fails, taken_at, at-taken, colour-counted}

-- the slots that the sites before one have, of those that pass
abbrev Taken : (passes : ℕ → Bool) → (ties : List ℕ) → (before slot : ℕ) → Type 0
Taken p js n k = is_taken p js k n ≡ true

-- SITE n, by whether it passes and is the first to have its slot
module _ (p : ℕ → Bool) (js : List ℕ) (n : ℕ) where
  abbrev k : ℕ
  k = get_or js n 0

  later : (j : ℕ) → Taken p js n j → Taken p js (suc n) j
  later j h = let (i, l, q, e) = taken_at p js j n h in at-taken p js j (suc n) i (omega arith) q e

  -- a slot that the sites up to n have is one of those before, or site n's
  split : (j : ℕ) → Taken p js (suc n) j → Taken p js n j ⊎ ((p n ≡ true) × (j ≡ k))
  unfolding is_taken
  split j h =
      by-either (or-e (is_taken p js j n) (p n && eqb k j) h) (λ t. inl t) λ t. inr (and_l (p n) (eqb k j) t, sym (eqb-true k j (and_r (p n) (eqb k j) t)))

  same-slots : {m : ℕ} → (p n ≡ true → Taken p js n k) → NumberOf (Taken p js n) m → NumberOf (Taken p js (suc n)) m
  same-slots f = number_same later (λ j h. by-either (split j h) (λ t. t) λ t. subst⁻¹ (Taken p js n) t.1 (f t.0))

  one_more : {m : ℕ} → p n ≡ true → is_taken p js k n ≡ false → NumberOf (Taken p js n) m → NumberOf (Taken p js (suc n)) (suc m)
  one_more h f a =
      number_same (λ j t. by-either t (later j) λ e. at-taken p js j (suc n) n (omega arith) h (sym e))
      (λ j t. by-either (split j t) (λ u. inl u) λ u. inr u.1)
      (number_more k (λ t. clash t f) a)

-- THE COUNT at first sites is the number of different slots
slots-taken : (p : ℕ → Bool) (js : List ℕ) (n : ℕ) → NumberOf (Taken p js n) (sum_firsts p (λ k. 1) js n)
unfolding sum_before
slots-taken p js zero = number-none (λ k h. let (i, l, q, e) = taken_at p js k 0 h in absurd (omega arith))
slots-taken p js (suc n) =
    let a = slots-taken p js n in
    by-test (p n)
    (λ h. by-test (is_taken p js (get_or js n 0) n)
    (λ t. subst (NumberOf (Taken p js (suc n))) (kept _ h t) (same-slots p js n (λ q. t) a))
    λ t. subst (NumberOf (Taken p js (suc n))) (grown _ h t) (one_more p js n h t a))
    λ h. subst (NumberOf (Taken p js (suc n))) (skipped _ h) (same-slots p js n (λ q. clash q h) a)
  where
    kept : (m : ℕ) → p n ≡ true → is_taken p js (get_or js n 0) n ≡ true → m ≡ m + cond (is_first p js n) 1 0
    kept m h t = rw (h, t) (omega arith)

    grown : (m : ℕ) → p n ≡ true → is_taken p js (get_or js n 0) n ≡ false → suc m ≡ m + cond (is_first p js n) 1 0
    grown m h t = rw (h, t) (omega arith)

    skipped : (m : ℕ) → p n ≡ false → m ≡ m + cond (is_first p js n) 1 0
    skipped m h = rw h (omega arith)

-- A COLOUR'S: its count at first sites is the number of different slots that its sites have, and no other number is
colour-taken : (s : Sheet) (js : List ℕ) (c : ℕ) → NumberOf (ColourHas s js c) (colours_counted s js c)
colour-taken s js c =
    number_same
    (λ k h. let (i, l, q, e) = taken_at (of_colour s c) js k (length s.sites) h in (i, l, eqb-true (site_at s i).colour c q, e))
    (λ k (i, l, q, e). at-taken (of_colour s c) js k (length s.sites) i l (eq-eqb (site_at s i).colour c q) e)
    (slots-taken (of_colour s c) js (length s.sites))

pub colour-number : (s : Sheet) (js : List ℕ) (c n : ℕ) → (n ≡ colours_counted s js c) ↔ NumberOf (ColourHas s js c) n
colour-number s js c n = (λ e. subst⁻¹ (NumberOf (ColourHas s js c)) e (colour-taken s js c), λ a. number-one n (colours_counted s js c) a (colour-taken s js c))

-- RULE 2, by the set
module _ (s : Sheet) (js : List ℕ) (long : length js ≡ length s.sites) (low : low_ties (length s.slots) js ≡ true) where
  abbrev labels : (colour : ℕ) → ℕ
  labels c = length (used_of s (slots_of c (tied s js)))

  abbrev bound : (colour : ℕ) → ℕ
  bound c = (get_or s.colours c no_colour).bound

  abbrev is_kept : (colour : ℕ) → Bool
  is_kept c = eqb (bound c) unbounded || leb (labels c) (bound c)

  kept-bounded : (c : ℕ) → is_kept c ≡ true → Bounded s js c (get_or s.colours c no_colour)
  kept-bounded c h =
      by-either (or-e (eqb (bound c) unbounded) (leb (labels c) (bound c)) h) (λ t. inl (eqb-true (bound c) unbounded t)) λ t. inr (leb-true (labels c) (bound c) t)

  -- what a colour that fails has
  fails-over : (c : ℕ) → c < length s.colours → is_kept c ≡ false → OverBound s js
  fails-over c l h =
      record {
        colour = c;
        known = l;
        bounded = λ e. clash (eq-eqb (bound c) unbounded e) (or_l (eqb (bound c) unbounded) (leb (labels c) (bound c)) h);
        number = labels c;
        different = (colour-number s js c (labels c)).0 (colour-counted s js long low c);
        over = by_order (labels c) (bound c) (λ o. clash (le-leb (labels c) (bound c) o) (or_r (eqb (bound c) unbounded) (leb (labels c) (bound c)) h)) (λ o. omega arith);
      }

  pub over-bound : (RuleTwo s js → ⊥) ↔ OverBound s js
  over-bound = (search-for, λ o r. by-either (r o.colour o.known) o.bounded λ l. omega (arith, (colour-number s js o.colour o.number).1 o.different, colour-counted s js long low o.colour, o.over))
    where
      search-for : (RuleTwo s js → ⊥) → OverBound s js
      search-for n =
          by-test (all_before is_kept (length s.colours))
          (λ t. absurd (n λ c l. kept-bounded c (all-before is_kept (length s.colours) t c l)))
          λ t. let (c, l, e) = one-fails is_kept (length s.colours) t in fails-over c l e
