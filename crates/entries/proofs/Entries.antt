-- An entry as code works it out is the model's. Assumes nothing but that the lists of budgets are right.
use mathlib.Core.Path.{◌≡◌, refl, sym, ap, ap₂, ◌∙◌, subst, fun_ext}
use mathlib.Core.Logic.{◌⊎◌, inl, inr}
use mathlib.Core.Bool.{Bool, true, false, cond, ◌&&◌, ◌||◌}
use mathlib.Core.List.{List}
use Prim.Native.Nat.{ℕ, suc, ◌+◌, ◌*◌, ◌-◌, ◌<◌, ◌≤◌, min}
use native.Mathlib.Nat.{le_antisymm, le_trans}
use native.Mathlib.Omega.{arith}
use lib.Dec.{ltb}
use lib.ListN.{length, get_or, drop}
use borrow.Author.Tests.{lt-ltb, le-ltb, ltb-true, eqb-true}
use Rattle.lists.proofs.Tests.{by-test, by_order, by-either, and_both, or-e}
use Rattle.search.specs.Cost.{plus, least}
use Rattle.search.proofs.Cost.{plus-top, top-plus, plus-le, least-le, least-le-top, least-most}
use Rattle.search.specs.Split.{conv}
use Rattle.search.specs.Radix.{below}
use Rattle.optimum.specs.Strips.{Point, Strip, Instance, inside, opens, joins_up, joins_down}
use Rattle.optimum.specs.OneSided.{top_word, has_slot, mark_count}
use Rattle.optimum.specs.Cells.{cell_of, split_cells, step_cell}
use Rattle.optimum.proofs.Loops.{at_drop}
use Rattle.arrays.specs.declared.Measures.{Measures}
use Rattle.arrays.specs.Arrays.{slots_by, turn_by, instance_by}
use Rattle.strips.specs.Strips.{instance_on, gap_left, site_opens, open_cost, join_cost, rise_cost, fall_cost, risen, fallen}
use Rattle.strips.proofs.Decisions.{inside_on, opens-on, joins-up-on, joins-down-on}
use Rattle.rows.specs.Budgets.{Within, SplitsOf, part_at, split_by, left_by, not_drawn}
use Rattle.rows.proofs.Splitting.{split-by}
use Rattle.rows.proofs.Places.{upper_is, lower-is}
use Rattle.strips.proofs.Joining.{opening, opens_of, shut, up_at, down-at, risen-at, fallen-at, up_least, down-least}
use Rattle.entries.specs.Entries.{open_by, no_part, slot_term, slots_least, join_entry, inside_entry, entry_by, entry_in}
use Rattle.entries.proofs.Terms.{slot-barred}
use Rattle.rows.specs.Rows.{row_of, row_in, Lies, marked_by, upper_part, lower_part}

-- the place of a cell, by its row
pub cell_row : (P : Instance) (C R : ℕ) (p : Strip) (v : ℕ) → P.mark_count ≡ mark_count → cell_of P C R p v ≡ row_of P.slots.m C p * R + v
unfolding cell_of
cell_row P C R p v k = rw k

-- none at the full budget, so none at every budget
abbrev pub Falls : (n : ℕ) → (f : ℕ → ℕ) → Type 0
Falls n f = f (n - 1) ≡ top_word → (w : ℕ) → w < n → f w ≡ top_word

-- a label of which a part is none
open_none : (parts counts : List ℕ) (n c u : ℕ) (f g : ℕ → ℕ) → Within n parts counts → ((w : ℕ) → w < n → f w ≡ top_word) ⊎ ((w : ℕ) → w < n → g w ≡ top_word)
    → open_by parts counts n c u f g ≡ top_word
open_none parts counts n c u f g l h =
    by_order n u
    (λ k. rw (le-ltb u n k))
    (λ k. rw (lt-ltb u n k) (ap (plus top_word c) (shared k) ∙ plus-top top_word c))
  where
    each : u < n → (i : ℕ) → i < get_or counts u 0 → plus top_word (f (part_at parts u i)) (g (u - part_at parts u i)) ≡ top_word
    each k i j =
        let w = l.small u i k j in
        by-either h
        (λ e. rw (e (part_at parts u i) (omega (arith, w))) (top-plus top_word _))
        (λ e. rw (e (u - part_at parts u i) (omega arith)) (plus-top top_word _))

    shared : u < n → split_by parts counts f g u ≡ top_word
    shared k = le_antisymm (least-le-top top_word (get_or counts u 0) _) (least-most top_word (get_or counts u 0) _ top_word (omega arith) (λ i j. let e = each k i j in omega arith))

module _ (q : Measures) (hs bs rs ds work parts counts left : List ℕ) (low : ℕ) (p : Strip) (s : Point) (v : ℕ)
    (splits : SplitsOf rs q.budgets parts counts) (drawn : get_or left v 0 ≡ left_by rs (get_or ds s.c 0) v) (lies : Lies (length hs) q.colours p) (low-v : v < q.budgets)
    (falls : inside (instance_on q hs bs) p s ≡ true → (k : ℕ) → opens (instance_on q hs bs) p s k ≡ true
    → Falls q.budgets (row_in work low (length hs) q.colours q.budgets (upper_part (turn_by hs s k) p s k)) × Falls q.budgets (row_in work low (length hs) q.colours q.budgets (lower_part p s k))) where
  abbrev P : Instance
  P = instance_by q hs bs rs ds

  abbrev row : Strip → ℕ → ℕ
  row = row_in work low (length hs) q.colours q.budgets

  abbrev step : ℕ → ℕ
  step k = step_cell P q.colours q.budgets (drop low work) p s k v

  abbrev term : ℕ → ℕ
  term k = slot_term q hs parts counts left row p s k v

  cell : (x : Strip) (w : ℕ) → get_or (drop low work) (cell_of P q.colours q.budgets x w) 0 ≡ row x w
  cell x w =
      at_drop work low _ ∙ ap (λ (z : ℕ). get_or work z 0)
      (let e = cell_row P q.colours q.budgets x w refl in omega arith)

  -- two rows share a budget as their cells do
  shared : (x y : Strip) (u : ℕ) → u < q.budgets → split_cells P q.colours q.budgets (drop low work) x y u ≡ split_by parts counts (row x) (row y) u
  unfolding split_cells conv
  shared x y u h =
      ap₂ (λ (f g : ℕ → ℕ). conv top_word (below rs) f g u) (fun_ext (cell x)) (fun_ext (cell y))
      ∙ sym (split-by rs q.budgets parts counts splits (row x) (row y) u h)

  -- a label whose draw the budget has, or has not
  by-draw : (k : ℕ) (t : Bool) → below rs (get_or ds s.c 0) v ≡ t
      → cond t (plus top_word (open_cost q hs s k) (split_cells P q.colours q.budgets (drop low work) (upper_part (turn_by hs s k) p s k) (lower_part p s k) (v - get_or ds s.c 0))) top_word
      ≡ open_by parts counts q.budgets (open_cost q hs s k) (get_or left v 0) (row (upper_part (turn_by hs s k) p s k)) (row (lower_part p s k))
  by-draw k true e =
      let u : get_or left v 0 ≡ v - get_or ds s.c 0 = drawn ∙ rw e in
      rw (u, lt-ltb (v - get_or ds s.c 0) q.budgets (omega arith))
      (ap (plus top_word (open_cost q hs s k)) (shared (upper_part (turn_by hs s k) p s k) (lower_part p s k) (v - get_or ds s.c 0) (omega arith)))
  by-draw k false e =
      let u : get_or left v 0 ≡ not_drawn = drawn ∙ rw e in
      rw (u, le-ltb not_drawn q.budgets (omega (arith, splits.within.few)))

  -- if a part is none at the full budget, so is the label
  by_part : inside (instance_on q hs bs) p s ≡ true → (k : ℕ) → opens (instance_on q hs bs) p s k ≡ true → (t : Bool) → no_part q hs parts counts left row p s k ≡ t
      → open_by parts counts q.budgets (open_cost q hs s k) (get_or left v 0) (row (upper_part (turn_by hs s k) p s k)) (row (lower_part p s k))
      ≡ cond t top_word (open_by parts counts q.budgets (open_cost q hs s k) (get_or left v 0) (row (upper_part (turn_by hs s k) p s k)) (row (lower_part p s k)))
  by_part i k o false e = refl
  by_part i k o true e =
      open_none parts counts q.budgets (open_cost q hs s k) (get_or left v 0) (row (upper_part (turn_by hs s k) p s k)) (row (lower_part p s k)) splits.within
      (by-either (or-e _ _ e) (λ x. inl ((falls i k o).0 (eqb-true _ _ x))) (λ x. inr ((falls i k o).1 (eqb-true _ _ x))))

  -- what it costs where the slot is not barred
  open_is : (k : ℕ) → has_slot s.barred k ≡ false → open_cost q hs s k ≡ P.word 1 (P.lead s.x + P.slots.share (get_or hs k 0) s.y)
  open_is k e = rw e

  step-open : inside (instance_on q hs bs) p s ≡ true → (k : ℕ) → opens (instance_on q hs bs) p s k ≡ true → step k ≡ term k
  unfolding step_cell slot_term
  step-open i k o =
      rw (opens-on q hs bs rs ds p s k, o, (opening q hs bs p s k o).gap, ← (upper_is (turn_by hs s k) p s k), ← (lower-is p s k))
      (ap (λ (c : ℕ). cond (below rs (get_or ds s.c 0) v) (plus top_word c (split_cells P q.colours q.budgets (drop low work) (upper_part (turn_by hs s k) p s k) (lower_part p s k) (v - get_or ds s.c 0))) top_word)
      (sym (open_is k (opening q hs bs p s k o).free))
      ∙ by-draw k (below rs (get_or ds s.c 0) v) refl ∙ by_part i k o (no_part q hs parts counts left row p s k) refl)

  step-join : (k : ℕ) → opens (instance_on q hs bs) p s k ≡ false → joins_up (instance_on q hs bs) p s k || joins_down (instance_on q hs bs) p s k ≡ true
      → step k ≡ plus top_word (join_cost q hs s k) (row (marked_by (turn_by hs s k) p) v)
  unfolding step_cell
  step-join k o j =
      rw (opens-on q hs bs rs ds p s k, joins-up-on q hs bs rs ds p s k, joins-down-on q hs bs rs ds p s k, o, j) (ap (plus top_word (join_cost q hs s k)) (cell (marked_by (turn_by hs s k) p) v))

  step-none : (k : ℕ) → opens (instance_on q hs bs) p s k ≡ false → joins_up (instance_on q hs bs) p s k || joins_down (instance_on q hs bs) p s k ≡ false → step k ≡ top_word
  unfolding step_cell
  step-none k o j = rw (opens-on q hs bs rs ds p s k, joins-up-on q hs bs rs ds p s k, joins-down-on q hs bs rs ds p s k, o, j)

  -- ---- no step costs less than what is worked out

  abbrev worked : ℕ
  worked = inside_entry q hs bs parts counts left row p s v

  worked-rises : worked ≤ plus top_word (rise_cost q hs bs p s) (row (risen hs p s) v)
  unfolding inside_entry join_entry
  worked-rises = omega arith

  worked-falls : worked ≤ plus top_word (fall_cost q hs bs p s) (row (fallen hs p s) v)
  unfolding inside_entry join_entry
  worked-falls = omega arith

  worked-opens : site_opens (instance_on q hs bs) p s ≡ true → worked ≤ slots_least q hs parts counts left row p s (p.b - 1 - p.a) v
  unfolding inside_entry
  worked-opens e = rw e (omega arith)

  raised : (a b r : ℕ) → a ≤ b → plus top_word a r ≤ plus top_word b r
  unfolding plus
  raised a b r h = omega arith

  worked-low : inside (instance_on q hs bs) p s ≡ true → (k : ℕ) → k < length hs → worked ≤ step k
  worked-low i k h =
      by-test (opens (instance_on q hs bs) p s k)
      (λ o.
      let g = opening q hs bs p s k o in
      let e : p.a + (k - p.a) ≡ k = omega (arith, g.above) in
      let l : slots_least q hs parts counts left row p s (p.b - 1 - p.a) v ≤ term (p.a + (k - p.a)) = least-le top_word (p.b - 1 - p.a) (λ j. term (p.a + j)) (k - p.a) (omega (arith, g.above, g.under)) in
      rw (step-open i k o) (le_trans (worked-opens g.site) (rw e at l)))
      (λ o. by-test (joins_up (instance_on q hs bs) p s k || joins_down (instance_on q hs bs) p s k)
      (λ j. rw (step-join k o j) (by-either (or-e _ _ j)
      (λ u. subst (λ (x : Strip). worked ≤ plus top_word (join_cost q hs s k) (row x v)) (sym (risen-at q hs bs p s k u)) (le_trans worked-rises (raised _ _ (row (risen hs p s) v) (up_least q hs bs p s k h u))))
      (λ u. subst (λ (x : Strip). worked ≤ plus top_word (join_cost q hs s k) (row x v)) (sym (fallen-at q hs bs p s k u)) (le_trans worked-falls (raised _ _ (row (fallen hs p s) v) (down-least q hs bs p s k u))))))
      (λ j. rw (step-none k o j) (le_trans worked-rises (plus-le top_word _ _))))

  -- ---- nor less than the least step

  abbrev total : ℕ
  total = least top_word (length hs) step

  total-join : (k : ℕ) → k < length hs → (p.a ≡ suc k) ⊎ (p.b ≡ suc k) → joins_up (instance_on q hs bs) p s k || joins_down (instance_on q hs bs) p s k ≡ true
      → total ≤ plus top_word (join_cost q hs s k) (row (marked_by (turn_by hs s k) p) v)
  total-join k h e j = rw (step-join k (shut q hs bs p s k e) j) at (least-le top_word (length hs) step k h)

  total-none : (r : ℕ) → total ≤ plus top_word top_word r
  unfolding plus
  total-none r = omega (arith, least-le-top top_word (length hs) step)

  or_left : (a b : Bool) → a ≡ true → a || b ≡ true
  or_left a b e = rw e

  or_right : (a b : Bool) → b ≡ true → a || b ≡ true
  or_right true b e = refl
  or_right false b e = e

  total-rises : total ≤ plus top_word (rise_cost q hs bs p s) (row (risen hs p s) v)
  unfolding rise_cost
  total-rises =
      by-test (ltb (p.a - 1) (length hs) && joins_up (instance_on q hs bs) p s (p.a - 1))
      (λ e. let w = and_both _ _ e in rw e (total-join (p.a - 1) (ltb-true _ _ w.0) (inl (up_at q hs bs p s (p.a - 1) w.1)) (or_left _ _ w.1)))
      (λ e. rw e (total-none _))

  total_falls : total ≤ plus top_word (fall_cost q hs bs p s) (row (fallen hs p s) v)
  unfolding fall_cost
  total_falls =
      by-test (joins_down (instance_on q hs bs) p s (p.b - 1))
      (λ e. let w = down-at q hs bs p s (p.b - 1) e in rw e (total-join (p.b - 1) w.1 (inr w.0) (or_right (joins_up (instance_on q hs bs) p s (p.b - 1)) _ e)))
      (λ e. rw e (total-none _))

  term-shut : (k : ℕ) → gap_left (slots_by q hs) p s k ≡ false → term k ≡ top_word
  unfolding slot_term
  term-shut k e = rw e

  total-slot : inside (instance_on q hs bs) p s ≡ true → site_opens (instance_on q hs bs) p s ≡ true → (i : ℕ) → i < p.b - 1 - p.a → total ≤ term (p.a + i)
  total-slot e o i h =
      by-test (gap_left (slots_by q hs) p s (p.a + i))
      (λ g. by-test (has_slot s.barred (p.a + i))
      (λ b. rw (slot-barred q hs parts counts left row p s (p.a + i) v (rw b)) (least-le-top top_word (length hs) step))
      (λ b.
      let k : p.a + i < length hs = omega (arith, lies.b_low) in
      let t = opens_of q hs bs p s (p.a + i) (record { above = omega arith; under = omega arith; slot = k; gap = g; site = o; free = b }) in
      rw (step-open e (p.a + i) t) at (least-le top_word (length hs) step (p.a + i) k)))
      (λ g. rw (term-shut (p.a + i) g) (least-le-top top_word (length hs) step))

  total-opens : inside (instance_on q hs bs) p s ≡ true → total ≤ cond (site_opens (instance_on q hs bs) p s) (slots_least q hs parts counts left row p s (p.b - 1 - p.a) v) top_word
  total-opens e =
      by-test (site_opens (instance_on q hs bs) p s)
      (λ o. rw o (least-most top_word (p.b - 1 - p.a) (λ i. term (p.a + i)) total (least-le-top top_word (length hs) step) (total-slot e o)))
      (λ o. rw o (least-le-top top_word (length hs) step))

  lesser-of : (t a b : ℕ) → t ≤ a → t ≤ b → t ≤ min a b
  lesser-of t a b h k = omega arith

  total-low : inside (instance_on q hs bs) p s ≡ true → total ≤ worked
  unfolding inside_entry join_entry
  total-low e = lesser-of total _ _ (lesser-of total _ _ total-rises total_falls) (total-opens e)

  -- THE ENTRY is the model's
  pub entry-by : entry_by q hs bs parts counts left (row_in work low (length hs) q.colours q.budgets) p s v
      ≡ entry_in (instance_by q hs bs rs ds) q.colours q.budgets work low p s v
  unfolding entry_by
  entry-by =
      rw (inside_on q hs bs rs ds p s)
      (by-test (inside (instance_on q hs bs) p s)
      (λ i. rw i (le_antisymm (least-most top_word (length hs) step worked (le_trans worked-rises (plus-le top_word _ _)) (worked-low i)) (total-low i)))
      (λ i. rw i (sym (cell p v))))
