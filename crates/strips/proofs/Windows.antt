-- The slots that leave the gap to both ends of a strip are consecutive, since heights rise. Assumes nothing but that.
use mathlib.Core.Path.{◌≡◌, refl, sym, ap₂, ◌∙◌}
use mathlib.Core.Bool.{true, false, ◌&&◌}
use mathlib.Core.List.{List}
use Prim.Native.Nat.{ℕ, zero, suc, ◌+◌, ◌-◌, ◌<◌, ◌≤◌}
use native.Mathlib.Omega.{arith}
use native.Mathlib.Numerals.{add-one}
use lib.Dec.{leb, ltb}
use lib.ListN.{length, get_or}
use borrow.Author.Tests.{le-leb, lt-leb, lt-ltb, le-ltb}
use Rattle.lists.proofs.Tests.{by_order}
use Rattle.labelling.specs.Layout.{far_by}
use Rattle.labelling.proofs.Distances.{far-down as further-down, far-up as further-up}
use Rattle.optimum.specs.Slots.{Slots, far_from}
use Rattle.optimum.specs.Strips.{Point, Strip}
use Rattle.arrays.specs.declared.Measures.{Measures}
use Rattle.optimum.proofs.Slots.{rise-le}
use Rattle.arrays.specs.Arrays.{slots_by}
use Rattle.strips.specs.declared.Window.{Window}
use Rattle.strips.specs.Strips.{gap_left, FirstFar, FarEnd, WindowOf}

-- ---- the window

module _ (q : Measures) (hs : List ℕ) (rising : (j k : ℕ) → j < k → k < length hs → get_or hs j 0 < get_or hs k 0) where
  abbrev S : Slots
  S = slots_by q hs

  -- further down from the upper end, further up from the lower one
  far-down : (a e j k c : ℕ) → a ≤ j → j ≤ k → k < length hs → far_from S a e j c ≡ true → far_from S a e k c ≡ true
  unfolding far_from
  far-down zero e j k c ha hj hk f = refl
  far-down (suc i) e j k c ha hj hk f =
      let m : leb (length hs) i ≡ false = lt-leb (length hs) i (omega arith) in
      let d : far_by q.head.gap (get_or hs i 0) (get_or hs j 0) ≡ true = rw m at f in
      rw m (further-down q.head.gap (get_or hs i 0) (get_or hs j 0) (get_or hs k 0) (rising i j ha (omega arith)) (rise-le (slots_by q hs) rising j k hj hk) d)

  far-up : (b e j k c : ℕ) → j ≤ k → k + 1 < b → far_from S b e k c ≡ true → far_from S b e j c ≡ true
  unfolding far_from
  far-up zero e j k c hj hb f = refl
  far-up (suc i) e j k c hj hb f =
      by_order (length hs) i
      (λ l. rw (le-leb (length hs) i l))
      (λ l.
      let m : leb (length hs) i ≡ false = lt-leb (length hs) i l in
      let d : far_by q.head.gap (get_or hs i 0) (get_or hs k 0) ≡ true = rw m at f in
      rw m (further-up q.head.gap (get_or hs i 0) (get_or hs k 0) (get_or hs j 0) (rising k i (omega arith) l) (rise-le (slots_by q hs) rising j k hj (omega arith)) d))

  module _ (p : Strip) (s : Point) (w : Window) (low : p.b < length hs + 2) (u : FirstFar S p s w.from) (v : FarEnd S p s w.from w.to) where
    leaves : (k : ℕ) → p.a ≤ k → k + 1 < p.b → gap_left S p s k ≡ leb w.from k && ltb k w.to
    unfolding gap_left
    leaves k ha hb =
        rw (← (add-one s.c))
        (by_order w.from k
        (λ f. ap₂ ◌&&◌ (far-down p.a p.ca w.from k _ u.low f (omega arith) (u.far (omega arith)) ∙ sym (le-leb w.from k f))
        (by_order w.to k
        (λ t. v.near k t hb ∙ sym (le-ltb k w.to t))
        (λ t. far-up p.b p.cb k (w.to - 1) _ (omega arith) (omega (arith, v.high (omega arith))) (v.far (omega arith)) ∙ sym (lt-ltb k w.to t))))
        (λ f. rw (u.near k ha f, lt-leb w.from k f)))

    pub window-of : WindowOf S p s w
    window-of = record { low = u.low; ordered = v.low; high = v.high; leaves = leaves }
