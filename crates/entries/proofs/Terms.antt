-- The terms of an entry, as the rows are written. Assumes nothing.
use mathlib.Core.Path.{◌≡◌, refl, sym, ap, ap₂, ◌∙◌, subst}
use mathlib.Core.Logic.{◌⊎◌, inl, inr}
use mathlib.Core.Bool.{Bool, true, false, ◌&&◌, ◌||◌}
use mathlib.Core.List.{List}
use Prim.Native.Nat.{ℕ, zero, suc, ◌+◌, ◌*◌, ◌-◌, ◌<◌, ◌≤◌, min}
use native.Mathlib.Omega.{arith}
use native.Mathlib.Numerals.{add-one}
use lib.Dec.{eqb, leb, ltb}
use lib.ListN.{length, get_or}
use borrow.Author.Tests.{le-leb, lt-leb, lt-ltb, le-ltb}
use Rattle.lists.proofs.Tests.{and-of, by-test, by_order}
use Rattle.search.specs.Cost.{plus, least}
use Rattle.search.proofs.Cost.{top-plus, least-le-top}
use Rattle.optimum.specs.Strips.{Point, Strip, inside}
use Rattle.optimum.specs.OneSided.{top_word}
use Rattle.arrays.specs.declared.Measures.{Measures}
use Rattle.arrays.specs.Arrays.{slots_by, turn_by}
use Rattle.strips.specs.declared.Window.{Window}
use Rattle.strips.specs.Strips.{instance_on, WindowOf, gap_left, site_opens, open_cost, rise_cost, fall_cost, risen, fallen}
use Rattle.rows.specs.Budgets.{Others}
use Rattle.entries.proofs.Places.{same_rows}
use Rattle.entries.specs.Entries.{open_by, no_part, slot_term, slots_least, join_entry, inside_entry, entry_by}
use Rattle.rows.specs.Rows.{row_of, row_in, upper_part, lower_part}

-- slots in a window, and out of it
pub window-gap : (q : Measures) (hs : List ℕ) (p : Strip) (s : Point) {w : Window} → WindowOf (slots_by q hs) p s w → (k : ℕ) → w.from ≤ k → k < w.to → gap_left (slots_by q hs) p s k ≡ true
window-gap q hs p s {w} f k a b =
    f.leaves k (omega (arith, f.low)) (omega (arith, f.high (omega arith))) ∙ and-of _ _ (le-leb _ _ a) (lt-ltb _ _ b)

pub window-shut : (q : Measures) (hs : List ℕ) (p : Strip) (s : Point) (w : Window) → WindowOf (slots_by q hs) p s w → (k : ℕ) → p.a ≤ k → k + 1 < p.b → (k < w.from) ⊎ (w.to ≤ k)
    → gap_left (slots_by q hs) p s k ≡ false
window-shut q hs p s w f k a b (inl h) = f.leaves k a b ∙ rw (lt-leb w.from k h)
window-shut q hs p s w f k a b (inr h) = f.leaves k a b ∙ rw (le-ltb k w.to h) (and-false (leb w.from k))
  where
    and-false : (b : Bool) → b && false ≡ false
    and-false true = refl
    and-false false = refl

module _ (q : Measures) (hs parts counts left : List ℕ) where
  -- a slot that leaves the gap, and a part that is none
  pub slot-none : (work : List ℕ) (low : ℕ) (p : Strip) (s : Point) (k v old upper lower : ℕ) → old ≤ top_word → gap_left (slots_by q hs) p s k ≡ true
      → upper ≡ low + row_of (length hs) q.colours (upper_part (turn_by hs s k) p s k) * q.budgets → lower ≡ low + row_of (length hs) q.colours (lower_part p s k) * q.budgets
      → eqb (get_or work (upper + (q.budgets - 1)) 0) top_word || eqb (get_or work (lower + (q.budgets - 1)) 0) top_word ≡ true
      → old ≡ min old (slot_term q hs parts counts left (row_in work low (length hs) q.colours q.budgets) p s k v)
  unfolding slot_term
  slot-none work low p s k v old upper lower o g f h z =
      let t : no_part q hs parts counts left (row_in work low (length hs) q.colours q.budgets) p s k ≡ true = rw (← f, ← h) z in
      rw (g, t) (omega arith)

  -- a slot that leaves the gap, and two parts that are some
  pub slot-open : (work : List ℕ) (low : ℕ) (p : Strip) (s : Point) (k v c upper lower : ℕ) → gap_left (slots_by q hs) p s k ≡ true → c ≡ open_cost q hs s k
      → upper ≡ low + row_of (length hs) q.colours (upper_part (turn_by hs s k) p s k) * q.budgets → lower ≡ low + row_of (length hs) q.colours (lower_part p s k) * q.budgets
      → eqb (get_or work (upper + (q.budgets - 1)) 0) top_word || eqb (get_or work (lower + (q.budgets - 1)) 0) top_word ≡ false
      → open_by parts counts q.budgets c (get_or left v 0) (λ w. get_or work (upper + w) 0) (λ w. get_or work (lower + w) 0)
      ≡ slot_term q hs parts counts left (row_in work low (length hs) q.colours q.budgets) p s k v
  unfolding slot_term
  slot-open work low p s k v c upper lower g e f h z =
      let t : no_part q hs parts counts left (row_in work low (length hs) q.colours q.budgets) p s k ≡ false = rw (← f, ← h) z in
      rw (g, t, e, f, h)

  -- a slot that is barred to the site: no label is to be had there
  pub slot-barred : (row : Strip → ℕ → ℕ) (p : Strip) (s : Point) (k v : ℕ) → open_cost q hs s k ≡ top_word → slot_term q hs parts counts left row p s k v ≡ top_word
  unfolding slot_term
  slot-barred row p s k v e =
      by-test (gap_left (slots_by q hs) p s k)
      (λ g. by-test (no_part q hs parts counts left row p s k)
      (λ t. rw (g, t))
      (λ t. rw (g, t, e) (by-test (ltb (get_or left v 0) q.budgets) (λ u. rw u (top-plus top_word _)) (λ u. rw u))))
      (λ g. rw g)

  -- slots too near an end add nothing
  pub slots-closed : (row : Strip → ℕ → ℕ) (p : Strip) (s : Point) (count d v : ℕ) → ((i : ℕ) → count ≤ i → i < count + d → gap_left (slots_by q hs) p s (p.a + i) ≡ false)
      → slots_least q hs parts counts left row p s (count + d) v ≡ slots_least q hs parts counts left row p s count v
  unfolding slot_term
  slots-closed row p s count zero v h = ap (λ (n : ℕ). least top_word n (λ i. slot_term q hs parts counts left row p s (p.a + i) v)) (omega arith)
  slots-closed row p s count (suc d) v h =
      let e : count + suc d ≡ suc (count + d) = omega arith in
      let g = h (count + d) (omega arith) (omega arith) in
      ap (λ (n : ℕ). least top_word n (λ i. slot_term q hs parts counts left row p s (p.a + i) v)) e
      ∙ one (count + d) g ∙ slots-closed row p s count d v (λ i a b. h i a (omega arith))
    where
      one : (n : ℕ) → gap_left (slots_by q hs) p s (p.a + n) ≡ false
          → least top_word (suc n) (λ i. slot_term q hs parts counts left row p s (p.a + i) v) ≡ least top_word n (λ i. slot_term q hs parts counts left row p s (p.a + i) v)
      one n g = unfold least in rw g (omega (arith, least-le-top top_word n (λ i. slot_term q hs parts counts left row p s (p.a + i) v)))

  -- a row after so many of the slots between the strip's ends
  pub record Tried (old new : List ℕ) (base low : ℕ) (p : Strip) (s : Point) (count : ℕ) : Type 0 where
    pub long : length new ≡ length old
    pub others : Others old new base q.budgets
    pub row : (v : ℕ) → v < q.budgets → get_or new (base + v) 0
        ≡ min (get_or old (base + v) 0) (slots_least q hs parts counts left (row_in old low (length hs) q.colours q.budgets) p s count v)

  pub tried-none : (old : List ℕ) (base low : ℕ) (p : Strip) (s : Point) → ((i : ℕ) → get_or old i 0 ≤ top_word) → Tried old old base low p s 0
  unfolding least
  tried-none old base low p s h = record { long = refl; others = record { before = λ i l. refl; after = λ i l. refl }; row = λ v l. omega (arith, h (base + v)) }

  pub tried-more : (old new last : List ℕ) (base low : ℕ) (p : Strip) (s : Point) (count : ℕ) → base + q.budgets ≤ low → Tried old new base low p s count
      → length last ≡ length new → Others new last base q.budgets
      → ((v : ℕ) → v < q.budgets → get_or last (base + v) 0
      ≡ min (get_or new (base + v) 0) (slot_term q hs parts counts left (row_in new low (length hs) q.colours q.budgets) p s (p.a + count) v))
      → Tried old last base low p s (count + 1)
  unfolding least
  tried-more old new last base low p s count h t l o f = record {
    long = l ∙ t.long;
    others = record { before = λ i k. o.before i k ∙ t.others.before i k; after = λ i k. o.after i k ∙ t.others.after i k };
    row = λ v k.
        let g = f v k ∙ ap₂ (λ (x : ℕ) (r : Strip → ℕ → ℕ). min x (slot_term q hs parts counts left r p s (p.a + count) v)) (t.row v k) (same_rows old new base q.budgets low (length hs) q.colours q.budgets h t.others) in
        rw add-one (g ∙ omega arith);
  }

  pub tried-closed : (old new : List ℕ) (base low : ℕ) (p : Strip) (s : Point) (count d : ℕ) → Tried old new base low p s count
      → ((i : ℕ) → count ≤ i → i < count + d → gap_left (slots_by q hs) p s (p.a + i) ≡ false) → Tried old new base low p s (count + d)
  tried-closed old new base low p s count d t h = record {
    long = t.long;
    others = t.others;
    row = λ v k. t.row v k ∙ ap (min (get_or old (base + v) 0)) (sym (slots-closed (row_in old low (length hs) q.colours q.budgets) p s count d v h));
  }

  -- up to a window, and from its end on
  pub tried-start : (old : List ℕ) (base low : ℕ) (p : Strip) (s : Point) (w : Window) → WindowOf (slots_by q hs) p s w → w.from < w.to → ((i : ℕ) → get_or old i 0 ≤ top_word)
      → Tried old old base low p s (w.from - p.a)
  tried-start old base low p s w f l h =
      subst (Tried old old base low p s) (omega arith)
      (tried-closed old old base low p s 0 (w.from - p.a) (tried-none old base low p s h) (λ i a b. window-shut q hs p s w f (p.a + i) (omega arith) (omega (arith, f.low, f.high l)) (inl (omega (arith, f.low)))))

  pub tried-end : (old new : List ℕ) (base low : ℕ) (p : Strip) (s : Point) (w : Window) (k : ℕ) → WindowOf (slots_by q hs) p s w → w.from < w.to → k ≡ w.to
      → Tried old new base low p s (k - p.a) → Tried old new base low p s (p.b - 1 - p.a)
  tried-end old new base low p s w k f l e t =
      subst (Tried old new base low p s) (omega (arith, f.low, f.high l, e))
      (tried-closed old new base low p s (k - p.a) (p.b - 1 - k) t (λ i a b. window-shut q hs p s w f (p.a + i) (omega arith) (omega (arith, f.low, f.high l, e)) (inr (omega (arith, f.low, e)))))

  pub tried-empty : (old : List ℕ) (base low : ℕ) (p : Strip) (s : Point) (w : Window) → WindowOf (slots_by q hs) p s w → w.to ≤ w.from → ((i : ℕ) → get_or old i 0 ≤ top_word)
      → Tried old old base low p s (p.b - 1 - p.a)
  tried-empty old base low p s w f l h =
      subst (Tried old old base low p s) (omega arith)
      (tried-closed old old base low p s 0 (p.b - 1 - p.a) (tried-none old base low p s h) (λ i a b. window-shut q hs p s w f (p.a + i) (omega arith) (omega arith) (by_order w.from (p.a + i) (λ x. inr (omega arith)) (λ x. inl x))))

-- what joining costs: by the words of two rows; at most none
pub joined_by : (q : Measures) (hs bs work : List ℕ) (low : ℕ) (p : Strip) (s : Point) (v rise fall up down : ℕ) → rise ≡ rise_cost q hs bs p s → fall ≡ fall_cost q hs bs p s
    → up ≡ low + row_of (length hs) q.colours (risen hs p s) * q.budgets → down ≡ low + row_of (length hs) q.colours (fallen hs p s) * q.budgets
    → min (plus top_word rise (get_or work (up + v) 0)) (plus top_word fall (get_or work (down + v) 0)) ≡ join_entry q hs bs (row_in work low (length hs) q.colours q.budgets) p s v
unfolding join_entry
joined_by q hs bs work low p s v rise fall up down e f g h = rw (e, f, g, h)

join-low : (q : Measures) (hs bs : List ℕ) (row : Strip → ℕ → ℕ) (p : Strip) (s : Point) (v : ℕ) → join_entry q hs bs row p s v ≤ top_word
unfolding join_entry plus
join-low q hs bs row p s v = omega arith

module _ (q : Measures) (hs bs parts counts left : List ℕ) where
  -- the row of a strip that the site lies outside; that of one in which it may only join; that of one in which it may open a label
  pub row_copied : (old new : List ℕ) (base low same : ℕ) (p : Strip) (s : Point) → inside (instance_on q hs bs) p s ≡ false
      → same ≡ low + row_of (length hs) q.colours p * q.budgets → ((v : ℕ) → v < q.budgets → get_or new (base + v) 0 ≡ get_or old (same + v) 0)
      → (v : ℕ) → v < q.budgets → get_or new (base + v) 0 ≡ entry_by q hs bs parts counts left (row_in old low (length hs) q.colours q.budgets) p s v
  unfolding entry_by
  row_copied old new base low same p s e f g v h = rw e (g v h ∙ ap (λ (z : ℕ). get_or old (z + v) 0) f)

  pub row-joined : (old new : List ℕ) (base low : ℕ) (p : Strip) (s : Point) → inside (instance_on q hs bs) p s ≡ true → site_opens (instance_on q hs bs) p s ≡ false
      → ((v : ℕ) → v < q.budgets → get_or new (base + v) 0 ≡ join_entry q hs bs (row_in old low (length hs) q.colours q.budgets) p s v)
      → (v : ℕ) → v < q.budgets → get_or new (base + v) 0 ≡ entry_by q hs bs parts counts left (row_in old low (length hs) q.colours q.budgets) p s v
  unfolding entry_by inside_entry
  row-joined old new base low p s e o g v h = rw (e, o) (g v h ∙ omega (arith, join-low q hs bs (row_in old low (length hs) q.colours q.budgets) p s v))

  pub row_opened : (old mid new : List ℕ) (base low : ℕ) (p : Strip) (s : Point) → base + q.budgets ≤ low
      → inside (instance_on q hs bs) p s ≡ true → site_opens (instance_on q hs bs) p s ≡ true → Others old mid base q.budgets
      → ((v : ℕ) → v < q.budgets → get_or mid (base + v) 0 ≡ join_entry q hs bs (row_in old low (length hs) q.colours q.budgets) p s v)
      → ((v : ℕ) → v < q.budgets → get_or new (base + v) 0
      ≡ min (get_or mid (base + v) 0) (slots_least q hs parts counts left (row_in mid low (length hs) q.colours q.budgets) p s (p.b - 1 - p.a) v))
      → (v : ℕ) → v < q.budgets → get_or new (base + v) 0 ≡ entry_by q hs bs parts counts left (row_in old low (length hs) q.colours q.budgets) p s v
  unfolding entry_by inside_entry
  row_opened old mid new base low p s b e o others g k v h =
      rw (e, o) (k v h ∙ ap₂ (λ (x : ℕ) (r : Strip → ℕ → ℕ). min x (slots_least q hs parts counts left r p s (p.b - 1 - p.a) v)) (g v h) (same_rows old mid base q.budgets low (length hs) q.colours q.budgets b others))
