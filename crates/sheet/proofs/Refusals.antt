-- Laws of refusals in their order: which is given, and what acceptance gives. Assumes nothing.
use mathlib.Core.Path.{◌≡◌, refl, ◌∙◌}
use mathlib.Core.Bool.{Bool, true, false, ◌&&◌, not, cond}
use mathlib.Core.List.{List, [], ◌∷◌, ◌++◌}
use Prim.Native.Nat.{ℕ, ◌≤◌, ◌<◌}
use native.Mathlib.Omega.{arith}
use lib.Dec.{ltb, leb, eqb}
use borrow.Author.Tests.{ltb-true, leb-true, lt-ltb, le-ltb, lt-leb, le-leb, ne_eqb}
use Rattle.lists.proofs.Tests.{by-test, by_order, and_both}
use Rattle.sheet.specs.Refusals.{Refusal, unless, given, AllPass, numbered_to}

-- WHICH IS GIVEN: the first whose test fails
pub here : {b : Bool} (n : ℕ) (rs : List Refusal) → b ≡ false → given (unless b n ∷ rs) ≡ n
unfolding given
here n rs e = rw e

pub later : {b : Bool} (n : ℕ) (rs : List Refusal) → b ≡ true → given (unless b n ∷ rs) ≡ given rs
unfolding given
later n rs e = rw e

-- the number is not 0 and at most the top
number : (m : ℕ) (r : Refusal) (rs : List Refusal) → numbered_to m (r ∷ rs) ≡ true → (0 < r.number) × (r.number ≤ m) × (numbered_to m rs ≡ true)
unfolding numbered_to
number m r rs o =
    let p = and_both (ltb 0 r.number && leb r.number m) (numbered_to m rs) o in
    let n = and_both (ltb 0 r.number) (leb r.number m) p.0 in
    (ltb-true 0 r.number n.0, leb-true r.number m n.1, p.1)

-- those of a list come before those that are appended
pub after : (m : ℕ) (rs qs : List Refusal) → numbered_to m rs ≡ true → given (rs ++ qs) ≡ cond (not (eqb (given rs) 0)) (given rs) (given qs)
unfolding given
after m [] qs o = refl
after m (r ∷ rs) qs o =
    let n = number m r rs o in
    by-test r.passes (λ e. rw e (after m rs qs n.2)) (λ e. rw (e, ne_eqb r.number 0 (λ q. omega (arith, n.0))))

-- WHAT ACCEPTANCE GIVES: every test passes; and where each does, nothing is refused
pub all_pass : (m : ℕ) (rs : List Refusal) → numbered_to m rs ≡ true → given rs ≡ 0 → AllPass rs
unfolding given AllPass
all_pass m [] o h = tt
all_pass m (r ∷ rs) o h =
    let n = number m r rs o in
    by-test r.passes (λ e. (e, all_pass m rs n.2 (rw e at h))) (λ e. absurd (omega (arith, n.0, fails r.passes e h)))
  where
    fails : (b : Bool) → b ≡ false → cond b (given rs) r.number ≡ 0 → r.number ≡ 0
    fails b e h = rw e at h

pub accepted : (rs : List Refusal) → AllPass rs → given rs ≡ 0
unfolding AllPass
accepted [] a = unfold given in refl
accepted (r ∷ rs) a = later r.number rs a.0 ∙ accepted rs a.1

-- a refusal is no greater than the numbers of its list
pub at_most : (m : ℕ) (rs : List Refusal) → numbered_to m rs ≡ true → given rs ≤ m
unfolding given
at_most m [] o = omega arith
at_most m (r ∷ rs) o =
    let n = number m r rs o in
    by-test r.passes (λ e. rw e (at_most m rs n.2)) (λ e. rw e n.1)

-- a test by its other side
pub turned : (m n : ℕ) → leb m n ≡ not (ltb n m)
turned m n = by_order m n (λ h. rw (le-leb m n h, le-ltb n m h)) (λ h. rw (lt-leb m n h, lt-ltb n m h))
