-- The table in the work area, row by row: a row has the entries of one strip, by budget. What is asked of the numbers, and an
-- entry as code works it out from the rows a level below. Definitions.
use Rattle.std.specs.Prelude.{◌≡◌, Bool, true, cond, ◌&&◌, ◌||◌, List, ℕ, ◌+◌, ◌-◌, ◌<◌, ◌≤◌, min, eqb, ltb, length, get_or, drop}
use Rattle.search.specs.Cost.{plus, least}
use Rattle.optimum.specs.Strips.{Point, Strip, Instance, inside}
use Rattle.optimum.specs.OneSided.{top_word}
use Rattle.optimum.specs.Cells.{cell_of, step_cell}
use Rattle.arrays.specs.declared.Measures.{Measures}
use Rattle.arrays.specs.Arrays.{slots_by, turn_by}
use Rattle.arrays.specs.Given.{Given}
use Rattle.rows.specs.Rows.{row_in, Lies, upper_part, lower_part}
use Rattle.parts.specs.Parts.{parts_cost}
use Rattle.rows.specs.Budgets.{Others, split_by}
use Rattle.strips.specs.Strips.{rise_cost, fall_cost, risen, fallen, instance_on, gap_left, site_opens, open_cost}
use Rattle.strips.specs.declared.Window.{Window}
use Rattle.rows.specs.Level.{Level, slots_in, colours_in, budgets_in, words_in}

-- ---- what is asked of the numbers

-- a list says what it costs the site to open a label at each slot
pub record OpeningListed (q : Measures) (heights : List ℕ) (s : Point) (opening : List ℕ) : Type 0 where
  pub long : length heights ≤ length opening
  pub costs : (k : ℕ) → k < length heights → get_or opening k 0 ≡ open_cost q heights s k

-- the row of the strip p, at the word `base`, stands above the level at the word `low`, which lies in an area of so many words
pub record RowFits (l : Level) (p : Strip) (area : ℕ) : Type 0 where
  pub apart : l.base + budgets_in l ≤ l.low
  pub within : l.low + words_in l ≤ area
  pub lies : Lies (slots_in l) (colours_in l) p

-- two rows of n words stand in an area of so many words, past the row at `base`
pub record PartsFit (n base area upper lower : ℕ) : Type 0 where
  pub some : 0 < n
  pub upper_in : upper + n ≤ area
  pub lower_in : lower + n ≤ area
  pub upper_apart : base + n ≤ upper
  pub lower_apart : base + n ≤ lower

-- a label may stand at slot k as far as the strip's ends go
abbrev pub LeavesGap : Level → Strip → (k : ℕ) → Type 0
LeavesGap l p k = (k + 1 < p.b) × (gap_left (slots_by l.arrays.measures l.arrays.heights) p l.site k ≡ true)

-- so at each slot of a window, which has some
pub record WindowReady (l : Level) (p : Strip) (w : Window) (area : ℕ) : Type 0 where
  pub within : l.low + words_in l ≤ area
  pub lies : Lies (slots_in l) (colours_in l) p
  pub some : w.from < w.to
  pub high : w.to < p.b

-- ---- rows

-- the n words from `base` on are f 0, f 1, ..; nothing else changed
abbrev pub RowIs : (base n : ℕ) → (f : ℕ → ℕ) → (old new : List ℕ) → Type 0
RowIs base n f old new = Others old new base n × ((v : ℕ) → v < n → get_or new (base + v) 0 ≡ f v)

-- each of them is the lesser of what it was and f 0, f 1, ..
abbrev pub RowLowered : (base n : ℕ) → (f : ℕ → ℕ) → (old new : List ℕ) → Type 0
RowLowered base n f old new = RowIs base n (λ v. min (get_or old (base + v) 0) (f v)) old new

-- ---- an entry

-- a label that costs c and leaves u of the budget, the rest shared between the rows f and g; none if u is no budget below n
abbrev pub open_by : (parts counts : List ℕ) → (n c u : ℕ) → (f g : ℕ → ℕ) → ℕ
open_by parts counts n c u f g = cond (ltb u n) (plus top_word c (split_by parts counts f g u)) top_word

-- the same with the rows at two words of an area
abbrev pub open_at : (parts counts work : List ℕ) → (n c u upper lower : ℕ) → ℕ
open_at parts counts work n c u upper lower = open_by parts counts n c u (λ w. get_or work (upper + w) 0) (λ w. get_or work (lower + w) 0)

-- opening a label at slot k where there is but one budget: the whole of it goes to both parts
abbrev pub single_term : Measures → (heights : List ℕ) → (row : Strip → ℕ → ℕ) → Strip → Point → (k : ℕ) → ℕ
single_term q hs row p s k = plus top_word (open_cost q hs s k) (parts_cost row p s k (turn_by hs s k))

-- the least of it at the slots of a window; rows of the level at the word `low`
abbrev pub window_least : Given → (work : List ℕ) → (low : ℕ) → Strip → Point → Window → ℕ
window_least g work low p s w =
    least top_word (w.to - w.from)
    (λ i. single_term g.measures g.heights (row_in work low (length g.heights) g.measures.colours g.measures.budgets) p s (w.from + i))

module _ (q : Measures) (heights parts counts left : List ℕ) (row : Strip → ℕ → ℕ) where
  -- a part of the strip, once a label is open at slot k, is none at the full budget, so at every budget
  abbrev pub no_part : Strip → Point → (k : ℕ) → Bool
  no_part p s k = eqb (row (upper_part (turn_by heights s k) p s k) (q.budgets - 1)) top_word || eqb (row (lower_part p s k) (q.budgets - 1)) top_word

  -- opening a label at slot k, which stands between the strip's ends
  unfoldable pub slot_term : Strip → Point → (k v : ℕ) → ℕ
  slot_term p s k v =
      cond (gap_left (slots_by q heights) p s k)
      (cond (no_part p s k) top_word
      (open_by parts counts q.budgets (open_cost q heights s k) (get_or left v 0) (row (upper_part (turn_by heights s k) p s k)) (row (lower_part p s k)))) top_word

  -- the first so many slots between the strip's ends
  abbrev pub slots_least : Strip → Point → (count v : ℕ) → ℕ
  slots_least p s n v = least top_word n (λ i. slot_term p s (p.a + i) v)

module _ (q : Measures) (heights bounds : List ℕ) (row : Strip → ℕ → ℕ) where
  -- joining the label above or the label below, by the row of the strip as the site leaves it
  unfoldable pub join_entry : Strip → Point → (v : ℕ) → ℕ
  join_entry p s v =
      min (plus top_word (rise_cost q heights bounds p s) (row (risen heights p s) v)) (plus top_word (fall_cost q heights bounds p s) (row (fallen heights p s) v))

module _ (q : Measures) (heights bounds parts counts left : List ℕ) (row : Strip → ℕ → ℕ) where
  unfoldable pub inside_entry : Strip → Point → (v : ℕ) → ℕ
  inside_entry p s v =
      min (join_entry q heights bounds row p s v)
      (cond (site_opens (instance_on q heights bounds) p s) (slots_least q heights parts counts left row p s (p.b - 1 - p.a) v) top_word)

  -- the entry of the strip p at the budget v, where the site s comes next
  unfoldable pub entry_by : Strip → Point → (v : ℕ) → ℕ
  entry_by p s v = cond (inside (instance_on q heights bounds) p s) (inside_entry p s v) (row p v)

-- ---- the same of a level

-- the rows of the level below
abbrev pub rows_below : Level → (work : List ℕ) → Strip → (v : ℕ) → ℕ
rows_below l work = row_in work l.low (slots_in l) (colours_in l) (budgets_in l)

-- the row at `base` holds what joining a label costs; nothing else changed
abbrev pub RowJoined : Level → Strip → (old new : List ℕ) → Type 0
RowJoined l p old new =
    (bs : List ℕ) → RowIs l.base (budgets_in l) (join_entry l.arrays.measures l.arrays.heights bs (rows_below l old) p l.site) old new

-- the row at `base`, once a label was tried at slot k; at all slots between the strip's ends
abbrev pub SlotTried : Level → Strip → (k : ℕ) → (old new : List ℕ) → Type 0
SlotTried l p k old new =
    RowLowered l.base (budgets_in l) (slot_term l.arrays.measures l.arrays.heights l.arrays.parts l.arrays.counts l.left (rows_below l old) p l.site k) old new

abbrev pub SlotsTried : Level → Strip → (old new : List ℕ) → Type 0
SlotsTried l p old new =
    RowLowered l.base (budgets_in l) (slots_least l.arrays.measures l.arrays.heights l.arrays.parts l.arrays.counts l.left (rows_below l old) p l.site (p.b - 1 - p.a)) old new

-- the row at `base` holds the strip's entries, if it was marked; nothing else changed
abbrev pub EntriesFilled : Level → Strip → (old new : List ℕ) → Type 0
EntriesFilled l p old new =
    Others old new l.base (budgets_in l)
    × (get_or old l.base 0 ≡ 1 → (v : ℕ) → v < budgets_in l → get_or new (l.base + v) 0
    ≡ entry_by l.arrays.measures l.arrays.heights l.arrays.bounds l.arrays.parts l.arrays.counts l.left (rows_below l old) p l.site v)

-- one budget, from which nothing but itself may be taken, and which a label may be opened with
pub record Single (n : ℕ) (parts counts left : List ℕ) : Type 0 where
  pub one : n ≡ 1
  pub own : get_or parts 0 0 ≡ 0
  pub counted : get_or counts 0 0 ≡ 1
  pub drawn : get_or left 0 0 ≡ 0

-- the test of it
abbrev pub is_single : (n : ℕ) (parts counts left : List ℕ) → Bool
is_single n parts counts left = eqb n 1 && (eqb (get_or parts 0 0) 0 && (eqb (get_or counts 0 0) 1 && eqb (get_or left 0 0) 0))

-- the same by the model, from the level that begins at the word `low`: C colours, budgets below R
abbrev pub entry_in : (P : Instance) (C R : ℕ) → (work : List ℕ) → (low : ℕ) → Strip → Point → (v : ℕ) → ℕ
entry_in P C R work low p s v =
    cond (inside P p s) (least P.top P.slots.m (λ k. step_cell P C R (drop low work) p s k v)) (get_or (drop low work) (cell_of P C R p v) 0)
