-- Where there is but one budget, opening a label is one sum. Assumes nothing.
use mathlib.Core.Path.{◌≡◌, sym, ap, ◌∙◌}
use mathlib.Core.Logic.{inl, inr}
use mathlib.Core.Bool.{true, false}
use mathlib.Core.List.{List}
use Prim.Native.Nat.{ℕ, ◌+◌, ◌-◌, ◌<◌, ◌≤◌, min}
use native.Mathlib.Nat.{le_antisymm}
use native.Mathlib.Omega.{arith}
use native.Mathlib.Numerals.{add-one}
use lib.Dec.{eqb}
use lib.ListN.{length, get_or, set}
use lib.Seq.{get_or-set_same, get_or-set_other}
use borrow.Author.Tests.{lt-ltb, eqb-true}
use Rattle.lists.proofs.Tests.{by-test, by_order, by-either, and_both, or-e}
use Rattle.search.specs.Cost.{plus, least}
use Rattle.search.proofs.Cost.{plus-top, top-plus, plus-le, least-le, least-le-top, least-most}
use Rattle.optimum.specs.Strips.{Point, Strip}
use Rattle.optimum.specs.OneSided.{top_word}
use Rattle.arrays.specs.declared.Measures.{Measures}
use Rattle.arrays.specs.Arrays.{slots_by, turn_by}
use Rattle.strips.specs.declared.Window.{Window}
use Rattle.strips.specs.Strips.{WindowOf, gap_left, open_cost}
use Rattle.rows.specs.Budgets.{Others, part_at, split_by}
use Rattle.entries.specs.Entries.{open_by, no_part, slot_term, slots_least, single_term, Single, is_single}
use Rattle.rows.specs.Rows.{row_in, upper_part, lower_part}
use Rattle.entries.proofs.Terms.{window-gap, window-shut}

-- by its test
pub single_of : (n : ℕ) (parts counts left : List ℕ) → is_single n parts counts left ≡ true → Single n parts counts left
single_of n parts counts left h =
    let a = and_both (eqb n 1) _ h in
    let b = and_both (eqb (get_or parts 0 0) 0) _ a.1 in
    let c = and_both (eqb (get_or counts 0 0) 1) _ b.1 in
    record { one = eqb-true _ _ a.0; own = eqb-true _ _ b.0; counted = eqb-true _ _ c.0; drawn = eqb-true _ _ c.1 }

-- the least of one slot more
pub single_more : (old best t n : ℕ) (f : ℕ → ℕ) → best ≡ min old (least top_word n f) → t ≡ f n → min best t ≡ min old (least top_word (n + 1) f)
unfolding least
single_more old best t n f e g = rw (add-one n, e, g) (omega arith)

pub single-none : (old : ℕ) (f : ℕ → ℕ) → old ≤ top_word → old ≡ min old (least top_word 0 f)
unfolding least
single-none old f h = omega arith

module _ (q : Measures) (hs parts counts left : List ℕ) (row : Strip → ℕ → ℕ) (p : Strip) (s : Point) (one : Single q.budgets parts counts left) where
  -- the whole of the budget goes to both parts
  shared : (f g : ℕ → ℕ) → split_by parts counts f g 0 ≡ plus top_word (f 0) (g 0)
  unfolding least
  shared f g =
      let e : part_at parts 0 0 ≡ 0 = one.own in
      rw (one.counted, e) (omega (arith, plus-le top_word (f 0) (g 0)))

  some : (k : ℕ) → open_by parts counts q.budgets (open_cost q hs s k) (get_or left 0 0) (row (upper_part (turn_by hs s k) p s k)) (row (lower_part p s k)) ≡ single_term q hs row p s k
  some k =
      rw (one.drawn, lt-ltb 0 q.budgets (omega (arith, one.one)))
      (ap (plus top_word (open_cost q hs s k)) (shared (row (upper_part (turn_by hs s k) p s k)) (row (lower_part p s k))))

  none : (k : ℕ) → no_part q hs parts counts left row p s k ≡ true → top_word ≡ single_term q hs row p s k
  none k e =
      let z : q.budgets - 1 ≡ 0 = omega (arith, one.one) in
      by-either (or-e _ _ e)
      (λ x. let f : row (upper_part (turn_by hs s k) p s k) 0 ≡ top_word = ap (row (upper_part (turn_by hs s k) p s k)) (sym z) ∙ eqb-true _ _ x in
      sym (ap (λ (y : ℕ). plus top_word (open_cost q hs s k) (plus top_word y (row (lower_part p s k) 0))) f ∙ ap (plus top_word (open_cost q hs s k)) (top-plus top_word _) ∙ plus-top top_word _))
      (λ x. let f : row (lower_part p s k) 0 ≡ top_word = ap (row (lower_part p s k)) (sym z) ∙ eqb-true _ _ x in
      sym (ap (λ (y : ℕ). plus top_word (open_cost q hs s k) (plus top_word (row (upper_part (turn_by hs s k) p s k) 0) y)) f ∙ ap (plus top_word (open_cost q hs s k)) (plus-top top_word _) ∙ plus-top top_word _))

  term : (k : ℕ) → gap_left (slots_by q hs) p s k ≡ true → slot_term q hs parts counts left row p s k 0 ≡ single_term q hs row p s k
  unfolding slot_term
  term k g = by-test (no_part q hs parts counts left row p s k) (λ e. rw (g, e) (none k e)) (λ e. rw (g, e) (some k))

  shut : (k : ℕ) → gap_left (slots_by q hs) p s k ≡ false → slot_term q hs parts counts left row p s k 0 ≡ top_word
  unfolding slot_term
  shut k g = rw g

  -- the slots of the window are all that count
  pub single-slots : (w : Window) → WindowOf (slots_by q hs) p s w → w.from < w.to
      → least top_word (w.to - w.from) (λ i. single_term q hs row p s (w.from + i)) ≡ slots_least q hs parts counts left row p s (p.b - 1 - p.a) 0
  single-slots w f l =
      le_antisymm
      (least-most top_word (p.b - 1 - p.a) (λ i. slot_term q hs parts counts left row p s (p.a + i) 0) _ (least-le-top top_word (w.to - w.from) _) each)
      (least-most top_word (w.to - w.from) (λ i. single_term q hs row p s (w.from + i)) _ (least-le-top top_word (p.b - 1 - p.a) _) own)
    where
      at : (k : ℕ) → w.from ≤ k → k < w.to → least top_word (w.to - w.from) (λ i. single_term q hs row p s (w.from + i)) ≤ slot_term q hs parts counts left row p s k 0
      at k a b =
          let e : w.from + (k - w.from) ≡ k = omega arith in
          let m : least top_word (w.to - w.from) (λ i. single_term q hs row p s (w.from + i)) ≤ single_term q hs row p s (w.from + (k - w.from)) = least-le top_word (w.to - w.from) (λ i. single_term q hs row p s (w.from + i)) (k - w.from) (omega arith) in
          rw (term k (window-gap q hs p s f k a b)) (rw e at m)

      out : (k : ℕ) → gap_left (slots_by q hs) p s k ≡ false → least top_word (w.to - w.from) (λ i. single_term q hs row p s (w.from + i)) ≤ slot_term q hs parts counts left row p s k 0
      out k g = rw (shut k g) (least-le-top top_word (w.to - w.from) _)

      each : (i : ℕ) → i < p.b - 1 - p.a → least top_word (w.to - w.from) (λ i. single_term q hs row p s (w.from + i)) ≤ slot_term q hs parts counts left row p s (p.a + i) 0
      each i h =
          by_order w.from (p.a + i)
          (λ a. by_order w.to (p.a + i)
          (λ b. out (p.a + i) (window-shut q hs p s w f (p.a + i) (omega arith) (omega arith) (inr b)))
          (λ b. at (p.a + i) a b))
          (λ a. out (p.a + i) (window-shut q hs p s w f (p.a + i) (omega arith) (omega arith) (inl a)))

      own : (i : ℕ) → i < w.to - w.from → slots_least q hs parts counts left row p s (p.b - 1 - p.a) 0 ≤ single_term q hs row p s (w.from + i)
      own i h =
          let e : p.a + (w.from + i - p.a) ≡ w.from + i = omega (arith, f.low) in
          let m : slots_least q hs parts counts left row p s (p.b - 1 - p.a) 0 ≤ slot_term q hs parts counts left row p s (p.a + (w.from + i - p.a)) 0 = least-le top_word (p.b - 1 - p.a) (λ i. slot_term q hs parts counts left row p s (p.a + i) 0) (w.from + i - p.a) (omega (arith, f.low, f.high l)) in
          rw (← (term (w.from + i) (window-gap q hs p s f (w.from + i) (omega arith) (omega arith)))) (rw e at m)

-- the row of one word
pub single-row : (q : Measures) (hs parts counts left old : List ℕ) (base low : ℕ) (p : Strip) (s : Point) → Single q.budgets parts counts left → (w : Window) (t : ℕ) → base < length old
    → WindowOf (slots_by q hs) p s w → w.from < w.to
    → t ≡ min (get_or old base 0) (least top_word (w.to - w.from) (λ i. single_term q hs (row_in old low (length hs) q.colours q.budgets) p s (w.from + i)))
    → Others old (set old base t) base q.budgets
    × ((v : ℕ) → v < q.budgets → get_or (set old base t) (base + v) 0 ≡ min (get_or old (base + v) 0) (slots_least q hs parts counts left (row_in old low (length hs) q.colours q.budgets) p s (p.b - 1 - p.a) v))
single-row q hs parts counts left old base low p s one w t h f l e = (
  record {
    before = λ i k. get_or-set_other old base i t 0 (λ (z : i ≡ base). omega arith);
    after = λ i k. get_or-set_other old base i t 0 (λ (z : i ≡ base). omega (arith, one.one));
  },
  λ v k. first v (omega (arith, one.one)),
)
  where
    first : (v : ℕ) → v ≡ 0 → get_or (set old base t) (base + v) 0 ≡ min (get_or old (base + v) 0) (slots_least q hs parts counts left (row_in old low (length hs) q.colours q.budgets) p s (p.b - 1 - p.a) v)
    first v z =
        let b : base + 0 ≡ base = omega arith in
        rw (z, b) (get_or-set_same old base t 0 h ∙ e ∙ ap (min (get_or old base 0)) (single-slots q hs parts counts left (row_in old low (length hs) q.colours q.budgets) p s one w f l))
