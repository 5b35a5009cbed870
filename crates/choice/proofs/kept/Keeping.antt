-- Labels with one changed, and a step that is not lawful. Assumes nothing.
use mathlib.Core.Path.{◌≡◌, ◌∙◌}
use mathlib.Core.Bool.{false}
use mathlib.Core.List.{List}
use Prim.Native.Nat.{ℕ, suc, ◌+◌, ◌<◌}
use native.Mathlib.Omega.{arith}
use lib.Dec.{eqb}
use lib.ListN.{length, get_or, set, length-set}
use lib.Seq.{ext_get_or, get_or-set_same, get_or-set_other}
use Rattle.lists.proofs.Tests.{by-test, by_equal}
use borrow.Author.Tests.{ne_eqb}
use Rattle.search.specs.Cost.{plus}
use Rattle.optimum.specs.OneSided.{top_word}
use Rattle.choice.specs.Choice.{MarksIn, marked_at}

-- a list of small numbers with one changed
pub small-set : (L : List ℕ) (k c n : ℕ) → ((j : ℕ) → get_or L j 0 < n) → k < length L → c < n → (j : ℕ) → get_or (set L k c) j 0 < n
small-set L k c n f l h j = by_equal j k (λ e. rw (e, get_or-set_same L k c 0 l) h) (λ e. rw (get_or-set_other L k j c 0 e) (f j))

-- marks after a step
module _ {L M : List ℕ} {a k : ℕ} (i : MarksIn L M a k) (d : ℕ) where
  below-low : suc k < length M
  below-low = omega (arith, i.slot_low, i.marks_long)

  pub marked-long : length (marked_at L M a d k) ≡ length M
  marked-long =
      by-test (eqb (get_or L k 0) 0)
      (λ e. rw e (length-set (set M (suc k) 0) a d ∙ length-set M (suc k) 0))
      (λ e. rw e (length-set M a d))

  pub marked-low : (n : ℕ) → ((j : ℕ) → get_or M j 0 < n) → d < n → (j : ℕ) → get_or (marked_at L M a d k) j 0 < n
  marked-low n f h =
      by-test (eqb (get_or L k 0) 0)
      (λ e. rw e (small-set (set M (suc k) 0) a d n (small-set M (suc k) 0 n f below-low (omega arith)) (rw (length-set M (suc k) 0) i.place_low) h))
      (λ e. rw e (small-set M a d n f i.place_low h))

  marked_other : (j : ℕ) → (j ≡ a → ⊥) → (j ≡ suc k → ⊥) → get_or (marked_at L M a d k) j 0 ≡ get_or M j 0
  marked_other j x y =
      by-test (eqb (get_or L k 0) 0)
      (λ e. rw e (get_or-set_other (set M (suc k) 0) a j d 0 x ∙ get_or-set_other M (suc k) j 0 0 y))
      (λ e. rw e (get_or-set_other M a j d 0 x))

  -- what was written is taken back
  pub taken_back : set (set (marked_at L M a d k) a (get_or M a 0)) (k + 1) (get_or M (k + 1) 0) ≡ M
  taken_back =
      ext_get_or 0 _ M (length-set (set (marked_at L M a d k) a (get_or M a 0)) (k + 1) (get_or M (k + 1) 0) ∙ length-set (marked_at L M a d k) a (get_or M a 0) ∙ marked-long) (λ j h.
      by_equal j (k + 1)
      (λ e. rw e (get_or-set_same (set (marked_at L M a d k) a (get_or M a 0)) (k + 1) (get_or M (k + 1) 0) 0 (rw (length-set (marked_at L M a d k) a (get_or M a 0), marked-long) (omega (arith, below-low)))))
      (λ e. get_or-set_other (set (marked_at L M a d k) a (get_or M a 0)) (k + 1) j (get_or M (k + 1) 0) 0 e ∙ by_equal j a
      (λ f. rw f (get_or-set_same (marked_at L M a d k) a (get_or M a 0) 0 (rw marked-long i.place_low)))
      (λ f. get_or-set_other (marked_at L M a d k) a j (get_or M a 0) 0 f ∙ marked_other j f (λ (z : j ≡ suc k). e (omega arith)))))

-- a step that is not lawful keeps no cost below none
pub never-keeps : (c z here : ℕ) → c ≡ top_word → here < top_word → eqb (plus top_word c z) here ≡ false
unfolding plus
never-keeps c z here e l = ne_eqb _ _ (λ (h : plus top_word c z ≡ here). omega arith)
