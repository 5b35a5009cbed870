-- The numbers of slots, colours and sites are the counts of the words' kinds. Assumes nothing.
use mathlib.Core.Path.{◌≡◌, refl}
use mathlib.Core.Bool.{true, false}
use mathlib.Core.List.{List, [], ◌∷◌}
use Prim.Native.Nat.{ℕ, zero, suc, ◌≤◌}
use native.Mathlib.Omega.{arith}
use lib.Dec.{eqb}
use lib.ListN.{length, drop}
use borrow.Author.Tests.{ne_eqb, eqb-true}
use Rattle.lists.proofs.Tests.{by-test}
use Rattle.sheet.specs.Sheet.{kind_of, slots_in, colours_in, sites_in, sites_run}
use Rattle.sheet.specs.Words.{count_kind}

pub slots-count : (ws : List ℕ) → length (slots_in ws) ≡ count_kind 2 ws
unfolding slots_in count_kind
slots-count [] = refl
slots-count (w ∷ ws) = by-test (eqb (kind_of w) 2) (λ e. rw e (omega (arith, slots-count ws))) (λ e. rw e (omega (arith, slots-count ws)))

pub colours-count : (ws : List ℕ) → length (colours_in ws) ≡ count_kind 3 ws
unfolding colours_in count_kind
colours-count [] = refl
colours-count (w ∷ ws) = by-test (eqb (kind_of w) 3) (λ e. rw e (omega (arith, colours-count ws))) (λ e. rw e (omega (arith, colours-count ws)))

-- a word of kind 3 is not of kind 4
pub colour-no-site : (n : ℕ) → eqb n 3 ≡ true → eqb n 4 ≡ false
colour-no-site n e = ne_eqb n 4 (λ q. omega (arith, eqb-true n 3 e))

pub sites-count : (c : ℕ) (ws : List ℕ) → length (sites_in c ws) ≡ count_kind 4 ws
unfolding sites_in count_kind
sites-count c [] = refl
sites-count c (w ∷ ws) =
    by-test (eqb (kind_of w) 3)
    (λ e. rw (e, colour-no-site (kind_of w) e) (omega (arith, sites-count (suc c) ws)))
    λ e. rw e (by-test (eqb (kind_of w) 4) (λ f. rw f (omega (arith, sites-count c ws))) λ f. rw f (omega (arith, sites-count c ws)))

-- a colour's sites are among all
pub run-le : (ws : List ℕ) → sites_run ws ≤ count_kind 4 ws
unfolding sites_run count_kind
run-le [] = omega arith
run-le (w ∷ ws) = by-test (eqb (kind_of w) 4) (λ e. rw e (omega (arith, run-le ws))) (λ e. rw e (omega arith))

pub count-drop : (k i : ℕ) (ws : List ℕ) → count_kind k (drop i ws) ≤ count_kind k ws
unfolding count_kind
count-drop k zero ws = omega arith
count-drop k (suc i) [] = omega arith
count-drop k (suc i) (w ∷ ws) = by-test (eqb (kind_of w) k) (λ e. rw e (omega (arith, count-drop k i ws))) (λ e. rw e (omega (arith, count-drop k i ws)))

pub run_at : (s : List ℕ) (i : ℕ) → sites_run (drop i s) ≤ count_kind 4 s
run_at s i = omega (arith, run-le (drop i s), count-drop 4 i s)
