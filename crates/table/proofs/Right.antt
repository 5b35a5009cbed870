-- A level filled from one that is right is right where it is asked for, and so is a table of such levels. Assumes nothing but the
-- arrays of a sheet.
use mathlib.Core.Path.{◌≡◌, refl, sym, ap, ◌∙◌, subst}
use mathlib.Core.Bool.{true}
use mathlib.Core.List.{List, ◌∷◌}
use Prim.Native.Nat.{ℕ, suc, ◌+◌, ◌*◌, ◌-◌, ◌<◌, ◌≤◌}
use native.Mathlib.Omega.{arith}
use native.Mathlib.Numerals.{add-one}
use lib.ListN.{length, get_or, drop, drop_of_length-le, length-drop}
use lib.Seq.{ext_get_or}
use Rattle.lists.proofs.Tests.{by_order}
use Rattle.search.specs.Plan.{T}
use Rattle.search.proofs.Plan.{T-nil}
use Rattle.optimum.specs.Strips.{Point, Strip, Instance, inside, opens, rules_of}
use Rattle.optimum.specs.Cells.{cells}
use Rattle.optimum.specs.Reached.{no_point, Asks, Reached, TableOf}
use Rattle.optimum.proofs.Slots.{Rising}
use Rattle.optimum.proofs.StripsHeld.{laws}
use Rattle.optimum.proofs.Levels.{Row, entry-asked}
use Rattle.optimum.proofs.Full.{none-at-full}
use Rattle.optimum.proofs.Loops.{at_drop}
use Rattle.arrays.specs.declared.Measures.{Measures}
use Rattle.arrays.specs.Arrays.{turn_by}
use Rattle.arrays.specs.Given.{Given, instance_of, point_in, points_of, OfSheet, SiteIn}
use Rattle.strips.specs.Strips.{instance_on}
use Rattle.rows.specs.Budgets.{Others, SplitsOf, left_by}
use Rattle.rows.specs.Rows.{row_of, rows_of, row_in, level_of, upper_part, lower_part}
use Rattle.rows.proofs.Places.{row_low, row_fits}
use Rattle.entries.proofs.Entries.{Falls, cell_row, entry-by}
use Rattle.marks.specs.Marks.{Shaped, ReachMarked}
use Rattle.parts.specs.Parts.{Marked}
use Rattle.rows.proofs.Levels.{next_level, level-within, row_within}
use Rattle.arrays.proofs.Points.{points-long, point-at}
use Rattle.marks.proofs.Points.{drop-point}
use Rattle.marks.proofs.Asked.{asks-parts}
use Rattle.marks.proofs.Reach.{asks-by, reached-on, reached-shape}
use Rattle.table.specs.Levels.{RowFilled, LevelRight, LevelMarked}

module _ {g : Given} (o : OfSheet g) where
  abbrev q : Measures
  q = g.measures

  abbrev hs : List ℕ
  hs = g.heights

  abbrev bs : List ℕ
  bs = g.bounds

  abbrev rs : List ℕ
  rs = g.radices

  abbrev ds : List ℕ
  ds = g.draws

  abbrev xs : List ℕ
  xs = g.xs

  abbrev P : Instance
  P = instance_of g

  abbrev ss : List Point
  ss = points_of g

  rising : Rising P.slots
  rising = o.rising

  sites-many : length ss ≡ length xs
  sites-many = points-long q hs xs g.ys g.colours

  -- what is reached has a row
  shape : (j : ℕ) → j ≤ length xs → (p : Strip) → Reached P ss j p → Shaped (length hs) q.colours p
  shape j h p r = reached-shape o j h p (reached-on q hs bs rs ds ss j p r)

  -- past the last site nothing is left: the level of zeros
  pub last-right : (work : List ℕ) (base : ℕ) → ((i : ℕ) → i < level_of q hs → get_or work (base + i) 0 ≡ 0) → LevelRight P q ss (length xs) work base
  last-right work base z p v r u =
      let l = (shape (length xs) (omega arith) p r).lies in
      z _ (row_inside (row_of (length hs) q.colours p) (rows_of (length hs) q.colours) q.budgets v (row_low (length hs) q.colours p l) u)
      ∙ sym (T-nil (rules_of P) (laws P rising) p v)
      ∙ ap (λ (l : List Point). T (rules_of P) l p v) (sym (drop_of_length-le ss {i = length xs} (omega (arith, sites-many))))
    where
      row_inside : (r rows n v : ℕ) → r < rows → v < n → r * n + v < rows * n
      row_inside r rows n v h k = omega (arith, row_within r rows n h)

  -- a level from the one below it
  pub level-right : (old new parts counts left : List ℕ) (j base low : ℕ) (s : Point) → s ≡ point_in g j
      → SplitsOf rs q.budgets parts counts → j < length xs
      → ((v : ℕ) → v < q.budgets → get_or left v 0 ≡ left_by rs (get_or ds s.c 0) v)
      → ((p : Strip) → Shaped (length hs) q.colours p → RowFilled q hs bs parts counts left old new base low s p)
      → LevelMarked P q ss j old base → LevelRight P q ss (j + 1) old low → LevelRight P q ss j new base
  unfolding Reached
  level-right old new parts counts left j base low s is splits h drawn f m r p v a u =
      let t = shape j (omega arith) p a in
      ap (λ (z : ℕ). get_or new z 0) (omega arith)
      ∙ f p t (m p a) v u
      ∙ entry-by q hs bs rs ds old parts counts left low p s v splits (drawn v u) t.lies u falls
      ∙ entry-asked P q.colours q.budgets rising (drop low old) s (drop (j + 1) ss) p v rows u
      ∙ ap (λ (l : List Point). T (rules_of P) l p v) (sym (drop-point ss j (omega (arith, sites-many)) ∙ ap (λ (x : Point). x ∷ drop (j + 1) ss) here))
    where
      here : get_or ss j no_point ≡ s
      here = point-at q hs xs g.ys g.colours j h ∙ sym is

      next : (x : Strip) → Asks P p s x → Reached P ss (j + 1) x
      next x w = subst (λ (n : ℕ). Reached P ss n x) (sym (add-one j)) (p, a, subst (λ (y : Point). Asks P p y x) (sym here) w)

      rows : (x : Strip) → Asks P p s x → Row P q.colours q.budgets (drop low old) (drop (j + 1) ss) x
      rows x w k lk =
          at_drop old low _ ∙ ap (λ (z : ℕ). get_or old (low + z) 0) (cell_row P q.colours q.budgets x k refl) ∙ r x k (next x w) lk

      -- a row that is asked for is none where it is none at the full budget
      none : (x : Strip) → Asks P p s x → Falls q.budgets (row_in old low (length hs) q.colours q.budgets x)
      none x w e k lk =
          let z : (i : ℕ) → low + (row_of (length hs) q.colours x * q.budgets + i) ≡ low + row_of (length hs) q.colours x * q.budgets + i = λ i. omega arith in
          let here : (i : ℕ) → i < q.budgets → row_in old low (length hs) q.colours q.budgets x i ≡ T (rules_of P) (drop (j + 1) ss) x i = λ i li. ap (λ (n : ℕ). get_or old n 0) (sym (z i)) ∙ r x i (next x w) li in
          here k lk ∙ none-at-full P rising q.budgets (q.budgets - 1) o.full (drop (j + 1) ss) x (sym (here (q.budgets - 1) (omega (arith, o.some_budget))) ∙ e) k lk

      falls : inside (instance_on q hs bs) p s ≡ true → (k : ℕ) → opens (instance_on q hs bs) p s k ≡ true
          → Falls q.budgets (row_in old low (length hs) q.colours q.budgets (upper_part (turn_by hs s k) p s k)) × Falls q.budgets (row_in old low (length hs) q.colours q.budgets (lower_part p s k))
      falls i k e =
          let a = asks-parts q hs bs p s k i e in
          (none _ (asks-by q hs bs rs ds p s _ a.0), none _ (asks-by q hs bs rs ds p s _ a.1))

  -- the site of rank j stands on the sheet
  pub site-stands : (j : ℕ) (s : Point) → s ≡ point_in g j → j < length xs → SiteIn q s
  site-stands j s e h = subst (SiteIn q) (sym e) (o.site_in j h)

  -- THE TABLE, from its levels
  pub table-right : (work : List ℕ) → ((j : ℕ) → j ≤ length xs → LevelRight P q ss j work (j * level_of q hs)) → TableOf P q.colours q.budgets ss work
  unfolding TableOf
  table-right work levels j p v l r u =
      let h : j ≤ length xs = omega (arith, sites-many) in
      ap (λ (z : ℕ). get_or work (j * cells P q.colours q.budgets + z) 0) (cell_row P q.colours q.budgets p v refl) ∙ levels j h p v r u

  -- what is known when the levels from j on are filled: those before are marked
  pub record Done (old new : List ℕ) (size j : ℕ) : Type 0 where
    pub long : length new ≡ length old
    pub levels : (i : ℕ) → j ≤ i → i ≤ length xs → LevelRight P q ss i new (i * size)
    pub marked : (i : ℕ) → i < j → LevelMarked P q ss i new (i * size)
    pub past : (i : ℕ) → (length xs + 1) * size ≤ i → get_or new i 0 ≡ get_or old i 0

  -- a row of a level stands before a later level
  before-level : (p : Strip) (i k size : ℕ) → size ≡ level_of q hs → i < k → i ≤ length xs → Reached P ss i p → i * size + row_of (length hs) q.colours p * q.budgets < k * size
  before-level p i k size e h l r =
      earlier (row_of (length hs) q.colours p * q.budgets) q.budgets o.some_budget
      (subst (λ (z : ℕ). row_of (length hs) q.colours p * q.budgets + q.budgets ≤ z) (sym e) (row_fits (length hs) q.colours q.budgets p (shape i l p r).lies))
    where
      earlier : (r n : ℕ) → 0 < n → r + n ≤ size → i * size + r < k * size
      earlier r n u v = let z : k ≡ suc i + (k - suc i) = omega arith in omega (arith, ap (λ (z : ℕ). z * size) z)

  pub done-last : (old new : List ℕ) (size : ℕ) → size ≡ level_of q hs → ReachMarked (instance_on q hs bs) q ss old (level_of q hs) (length xs + 1)
      → Others old new (length xs * size) size → ((i : ℕ) → i < size → get_or new (length xs * size + i) 0 ≡ 0) → Done new new size (length xs)
  done-last old new size e m d z = record {
    long = refl;
    levels = λ i a b. let n : i ≡ length xs = omega arith in rw n (last-right new (length xs * size) (λ k h. z k (omega (arith, e))));
    marked = λ i h p r. d.before _ (before-level p i (length xs) size e h (omega arith) r) ∙ subst (λ (n : ℕ). Marked old (i * n) (length hs) q.colours q.budgets p) (sym e) (m i (omega arith) p (reached-on q hs bs rs ds ss i p r));
    past = λ i h. refl;
  }

  pub done_more : (old new last : List ℕ) (size j k : ℕ) → size ≡ level_of q hs → j ≡ k + 1 → j ≤ length xs → length last ≡ length new → Others new last (k * size) size
      → (LevelMarked P q ss k new (k * size) → LevelRight P q ss (k + 1) new ((k + 1) * size) → LevelRight P q ss k last (k * size))
      → Done old new size j → Done old last size k
  done_more old new last size j k e n lj l c f d = record {
    long = l ∙ d.long;
    levels = λ i a b. by_order (k + 1) i
        (λ u p v r w. c.after _ (later i _ (omega arith)) ∙ d.levels i (omega arith) b p v r w)
        (λ u. let z : i ≡ k = omega arith in rw z (f (d.marked k (omega arith)) (d.levels (k + 1) (omega arith) (omega arith))));
    marked = λ i h p r. c.before _ (before-level p i k size e h (omega arith) r) ∙ d.marked i (omega arith) p r;
    past = λ i h. c.after i (omega (arith, level-within k (length xs) size size _ refl (omega arith) h)) ∙ d.past i h;
  }
    where
      later : (i x : ℕ) → k < i → k * size + size ≤ i * size + x
      later i x h = let n : i ≡ suc k + (i - suc k) = omega arith in omega (arith, ap (λ (z : ℕ). z * size) n)

  -- all levels: the table is right, and what lies past it is as it was
  pub done_all : (first mid old new : List ℕ) (size : ℕ) → size ≡ level_of q hs → length old ≡ length first
      → ((i : ℕ) → (length xs + 1) * level_of q hs ≤ i → get_or mid i 0 ≡ get_or first i 0) → Others mid old (length xs * size) size → Done old new size 0
      → TableOf P q.colours q.budgets ss new × (drop ((length xs + 1) * level_of q hs) new ≡ drop ((length xs + 1) * level_of q hs) first)
  done_all first mid old new size e l m c d = (
    table-right new (λ j l. rw e at (d.levels j (omega arith) l)),
    ext_get_or 0 _ _ (length-drop _ new ∙ ap (λ (n : ℕ). n - (length xs + 1) * level_of q hs) (d.long ∙ l) ∙ sym (length-drop _ first))
        (λ i h. at_drop new _ i ∙ past i ∙ sym (at_drop first _ i)),
  )
    where
      past : (i : ℕ) → get_or new ((length xs + 1) * level_of q hs + i) 0 ≡ get_or first ((length xs + 1) * level_of q hs + i) 0
      past i =
          let s = ap (λ (z : ℕ). (length xs + 1) * z) e in
          d.past _ (omega arith) ∙ c.after _ (omega (arith, next_level (length xs) size)) ∙ m _ (omega arith)
