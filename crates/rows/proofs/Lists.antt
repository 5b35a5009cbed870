-- How the lists grow, number by number and row by row. Assumes nothing.
use mathlib.Core.Path.{◌≡◌, refl, ◌∙◌}
use mathlib.Core.Bool.{true, false}
use mathlib.Core.Logic.{∥∥₁_map}
use mathlib.Core.List.{List}
use Prim.Native.Nat.{ℕ, ◌+◌, ◌<◌, min}
use native.Mathlib.Omega.{arith}
use native.Mathlib.Numerals.{add-one}
use Rattle.std.proofs.Common.{add-zero}
use lib.ListN.{length, get_or, set}
use mir.Val.{bool_byte}
use lib.Seq.{get_or-set_same, get_or-set_other}
use Rattle.lists.proofs.Tests.{by-test, by_order, clash}
use Rattle.search.specs.Cost.{plus, least}
use Rattle.search.proofs.Cost.{least-le-top}
use Rattle.search.specs.Radix.{below}
use Rattle.optimum.specs.OneSided.{top_word}
use Rattle.rows.specs.Budgets.{Others, Listed}

pub listed-none : (rs : List ℕ) (v : ℕ) (at : ℕ → ℕ) → Listed rs v 0 0 at
listed-none rs v at =
    record { few = omega arith; small = λ i l. absurd (omega arith); sound = λ i l. absurd (omega arith); whole = λ x l e. absurd (omega arith) }

pub listed-skip : (rs : List ℕ) (v w n : ℕ) (at : ℕ → ℕ) → below rs w v ≡ false → Listed rs v w n at → Listed rs v (w + 1) n at
listed-skip rs v w n at f r = record {
  few = omega (arith, r.few);
  small = λ i l. omega (arith, r.small i l);
  sound = r.sound;
  whole = λ x l e. by_order w x (λ h. let q : x ≡ w = omega arith in clash (rw q at e) f) (λ h. r.whole x h e);
}

pub listed_more : (rs : List ℕ) (v w n : ℕ) (old at : ℕ → ℕ) → below rs w v ≡ true → ((i : ℕ) → i < n → at i ≡ old i) → at n ≡ w
    → Listed rs v w n old → Listed rs v (w + 1) (n + 1) at
listed_more rs v w n old at t same last r = record {
  few = omega (arith, r.few);
  small = λ i l. by_order n i (λ h. let q : i ≡ n = omega arith in rw (q, last) (omega arith)) (λ h. omega (arith, r.small i h, same i h));
  sound = λ i l. by_order n i (λ h. let q : i ≡ n = omega arith in rw (q, last) t) (λ h. rw (same i h) (r.sound i h));
  whole = λ x l e. by_order w x
      (λ h. ∣ (n, omega arith, last ∙ omega arith) ∣₁)
      (λ h. ∥∥₁_map (r.whole x h e) (λ q. (q.0, omega (arith, q.1), same q.0 q.1 ∙ q.2)));
}

pub listed_same : (rs : List ℕ) (v w n : ℕ) (old at : ℕ → ℕ) → ((i : ℕ) → i < n → at i ≡ old i) → Listed rs v w n old → Listed rs v w n at
listed_same rs v w n old at same r = record {
  few = r.few;
  small = λ i l. omega (arith, r.small i l, same i l);
  sound = λ i l. rw (same i l) (r.sound i l);
  whole = λ x l e. ∥∥₁_map (r.whole x l e) (λ q. (q.0, q.1, same q.0 q.1 ∙ q.2));
}

-- the next number is written down, and counted if it may be taken
pub listed_next : (rs : List ℕ) (v w n : ℕ) (old at : ℕ → ℕ) → ((i : ℕ) → i < n → at i ≡ old i) → at n ≡ w
    → Listed rs v w n old → Listed rs v (w + 1) (n + bool_byte (below rs w v)) at
listed_next rs v w n old at same last r =
    by-test (below rs w v)
    (λ e. rw e (listed_more rs v w n old at e same last r))
    (λ e. rw (e, add-zero n) (listed-skip rs v w n at e (listed_same rs v w n old at same r)))

pub others-none : (old : List ℕ) (from count : ℕ) → Others old old from count
others-none old from count = record { before = λ i l. refl; after = λ i l. refl }

pub others-set : (old new : List ℕ) (from count i x : ℕ) → i < count → Others old new from count → Others old (set new (from + i) x) from count
others-set old new from count i x h o = record {
  before = λ k l. get_or-set_other new (from + i) k x 0 (λ e. omega arith) ∙ o.before k l;
  after = λ k l. get_or-set_other new (from + i) k x 0 (λ e. omega arith) ∙ o.after k l;
}

-- one share more; min with a number up to the sentinel needs no cap
pub least_more : (F : ℕ → ℕ) (i best x y : ℕ) → best ≡ least top_word i F → F i ≡ plus top_word x y → min best (x + y) ≡ least top_word (i + 1) F
unfolding least plus
least_more F i best x y e f = rw (add-one, ← e, f) (omega (arith, least-le-top top_word i F))

pub least-none : (F : ℕ → ℕ) → top_word ≡ least top_word 0 F
unfolding least
least-none F = refl

-- one entry more of an area that is written from the front
pub entries-more : (Q : ℕ → ℕ → Type 0) (l : List ℕ) (v n : ℕ) → v < length l → ((x : ℕ) → x < v → Q x (get_or l x 0)) → Q v n → (x : ℕ) → x < v + 1 → Q x (get_or (set l v n) x 0)
entries-more Q l v n h f q x l1 =
    by_order v x
    (λ k. let e : x ≡ v = omega arith in rw (e, get_or-set_same l v n 0 h) q)
    (λ k. rw (get_or-set_other l v x n 0 (λ e. omega arith)) (f x k))
