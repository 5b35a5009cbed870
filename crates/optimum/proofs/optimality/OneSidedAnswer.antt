-- One-sided, for the code: with the levels filled and the walk walked, the answer, and what the call gives and leaves.
use mathlib.Core.Path.{◌≡◌, refl, sym, ap, ap₂, ◌∙◌, subst}
use mathlib.Core.Bool.{Bool, true, false, cond}
use mathlib.Core.List.{List, [], ◌∷◌, ◌++◌}
use mathlib.Core.Option.{none, some}
use Prim.Native.Nat.{ℕ, suc, ◌+◌, ◌*◌, ◌≤◌, ◌<◌, ◌^◌}
use native.Mathlib.Omega.{arith}
use native.Mathlib.Nat.{pow-suc, pow-zero}
use lib.ListN.{length, get_or, replicate, drop}
use borrow.Author.Tests.{ltb-true, lt-ltb, le-ltb}
use Rattle.search.specs.Plan.{T, Rest}
use Rattle.search.proofs.Plan.{Rest-one}
use Rattle.search.specs.Walk.{answer_by, walk_by}
use Rattle.sheet.specs.Sheet.{all, Sheet, sheet_in, product_of, work_for}
use Rattle.sheet.proofs.Accepted.{Sound, sound, colour_low, sites-coloured}
use Rattle.labelling.specs.Layout.{count_of, length_of, layout_words, best, is_used}
use Rattle.labelling.specs.Promise.{TakesSheet}
use Rattle.labelling.proofs.Members.{no_site, all-at, used-head, used-tail}
use Rattle.labelling.proofs.Maker.{First, best-none-iff, Result, made, unmade, cleared}
use Rattle.optimum.specs.Strips.{Strip, rules_of, strips, labels, value, walked}
use Rattle.optimum.specs.CostWord.{layout_cost}
use Rattle.optimum.specs.OneSided.{top_word, mark_count, instance_of, order, points_at, ties_of, one_sided}
use Rattle.optimum.specs.Cells.{cells, cell_of, level, value_cells}
use Rattle.optimum.proofs.StripsHeld.{laws, walked-first, walked-cost}
use Rattle.optimum.proofs.Pairs.{zeros}
use Rattle.optimum.proofs.Budgets.{full-low}
use Rattle.optimum.proofs.optimality.CostWord.{layout-count, layout-length}
use Rattle.optimum.proofs.optimality.Order.{ordered}
use Rattle.optimum.proofs.optimality.Distances.{good}
use Rattle.optimum.proofs.Marks.{some-mark}
use Rattle.optimum.proofs.optimality.Instance.{turn_low}
use Rattle.optimum.proofs.optimality.OneSidedBest.{full_budget, put_back, found-long, found_first, found-cost, one-sided-best}
use Rattle.optimum.proofs.Levels.{Coloured, level_holds, Kept, walk-cells}
use Rattle.optimum.proofs.Reached.{empty-strips}
unfoldable pub use Rattle.optimum.specs.CostWord.{count_in, length_in}

-- the whole sheet: the strip between the edges
abbrev pub whole_strip : Sheet → Strip
whole_strip s = record { a = 0; ca = 0; b = suc (length s.slots); cb = 0; d = 0 }

-- the cell that has the least cost of the sheet
unfoldable pub first_cell : Sheet → ℕ
first_cell s =
    get_or (level (instance_of s) (length s.colours) (product_of s.colours) (points_at s (order s)))
    (cell_of (instance_of s) (length s.colours) (product_of s.colours) (whole_strip s) (full_budget s)) 0

-- the slots by rising x that the walk finds
unfoldable pub slots_walked : Sheet → List ℕ
slots_walked s =
    walk_by (labels (instance_of s)) (value_cells (instance_of s) (length s.colours) (product_of s.colours)) (replicate (length s.slots) 0, full_budget s, replicate (suc (length s.slots)) 0) (points_at s (order s))

-- the same in sheet order
abbrev pub ties_walked : Sheet → List ℕ
ties_walked s = put_back s (slots_walked s)

coloured-at : (s : Sheet) (c : ℕ) → ((i : ℕ) → i < length s.sites → (get_or s.sites i no_site).colour < c) → (is : List ℕ) → ((i : ℕ) → is_used i is ≡ true → i < length s.sites) → Coloured c (points_at s is)
unfolding Coloured points_at
coloured-at s c h [] f = tt
coloured-at s c h (i ∷ is) f = (h i (f i (used-head i is)), coloured-at s c h is (λ j u. f j (used-tail j i is u)))

module _ (s : Sheet) (o : Sound s) (one : s.is_two_sided ≡ false) (low : all (colour_low (length s.colours)) s.sites ≡ true) where
  coloured : Coloured (length s.colours) (points_at s (order s))
  coloured =
      coloured-at s (length s.colours) (λ i h. ltb-true _ _ (all-at (colour_low (length s.colours)) no_site s.sites low i h)) (order s) (λ i u. ((ordered s o).low i u).0)

  start-kept : Kept (instance_of s) (length s.colours) (product_of s.colours) (good s o).rising (turn_low s) (replicate (length s.slots) 0, full_budget s, replicate (suc (length s.slots)) 0)
  start-kept = (λ j. omega (arith, zeros (length s.slots) j), full-low s, λ j. omega (arith, some-mark, zeros (suc (length s.slots)) j))

  -- the first cell is the table at the whole sheet with the full budget, and the slots are those of the walk by the table
  pub first-cell : first_cell s ≡ T (rules_of (instance_of s)) (points_at s (order s)) (whole_strip s) (full_budget s)
  unfolding first_cell
  first-cell =
      level_holds (instance_of s) (length s.colours) (product_of s.colours) (good s o).rising (turn_low s) (points_at s (order s)) coloured (whole_strip s) (full_budget s)
      (record { ra = omega arith; rca = omega arith; rb = omega arith; rcb = omega arith; rd = some-mark }) (full-low s)

  pub slots-walked : slots_walked s ≡ walk_by (labels (instance_of s)) (value (instance_of s)) (replicate (length s.slots) 0, full_budget s, replicate (suc (length s.slots)) 0) (points_at s (order s))
  unfolding slots_walked
  slots-walked = walk-cells (instance_of s) (length s.colours) (product_of s.colours) (good s o).rising (turn_low s) (points_at s (order s)) coloured _ start-kept

  -- the first cell is the value of the empty sheet
  pub cell-value : first_cell s ≡ value (instance_of s) (replicate (length s.slots) 0, full_budget s, replicate (suc (length s.slots)) 0) (points_at s (order s))
  unfolding first_cell value strips
  cell-value =
      first-cell
      ∙ sym (Rest-one (rules_of (instance_of s)) (laws (instance_of s) (good s o).rising) (points_at s (order s)) (whole_strip s) (full_budget s))
      ∙ ap (λ (L : List Strip). Rest (rules_of (instance_of s)) (points_at s (order s)) L (full_budget s))
      (sym (empty-strips (instance_of s) (replicate (length s.slots) 0) (replicate (suc (length s.slots)) 0) (zeros (length s.slots)) refl (length s.slots) 0
      ∙ ap (λ (b : ℕ). record { a = 0; ca = 0; b = suc b; cb = 0; d = 0 } ∷ []) (omega arith)))

  walked-some : first_cell s < top_word → walked (instance_of s) (full_budget s) (points_at s (order s)) ≡ some (slots_walked s)
  unfolding walked answer_by slots_walked
  walked-some h =
      let v : value (instance_of s) (replicate (length s.slots) 0, full_budget s, replicate (suc (length s.slots)) 0) (points_at s (order s)) < top_word = omega (arith, cell-value) in
      rw (lt-ltb _ top_word v)
      (ap some (sym slots-walked))

  walked-nothing : top_word ≤ first_cell s → walked (instance_of s) (full_budget s) (points_at s (order s)) ≡ none
  unfolding walked answer_by
  walked-nothing h =
      let v : top_word ≤ value (instance_of s) (replicate (length s.slots) 0, full_budget s, replicate (suc (length s.slots)) 0) (points_at s (order s)) = omega (arith, cell-value) in
      rw (le-ltb _ top_word v)

  -- A LAYOUT: where the first cell is below the sentinel, the walk's ties are first, and the cell has their count and length
  pub walk_first : first_cell s < top_word → First s (ties_walked s)
  walk_first h = found_first s o one (slots_walked s) (walked-first (instance_of s) (good s o).rising (full_budget s) (points_at s (order s)) (slots_walked s) (walked-some h))

  pub walk-long : first_cell s < top_word → length (slots_walked s) ≡ length s.sites
  walk-long h = found-long s o one (slots_walked s) (walked-first (instance_of s) (good s o).rising (full_budget s) (points_at s (order s)) (slots_walked s) (walked-some h))

  cell-word : first_cell s < top_word → first_cell s ≡ layout_cost s (ties_walked s)
  cell-word h =
      let w = walked-cost (instance_of s) (good s o).rising (full_budget s) (points_at s (order s)) (slots_walked s) (walked-some h) in
      cell-value ∙ sym w.0
      ∙ found-cost s o one (slots_walked s) (walked-first (instance_of s) (good s o).rising (full_budget s) (points_at s (order s)) (slots_walked s) (walked-some h))

  pub walk-count : first_cell s < top_word → count_in s (first_cell s) ≡ count_of s (ties_walked s)
  walk-count h = ap (count_in s) (cell-word h) ∙ layout-count s o (ties_walked s)

  pub walk-length : first_cell s < top_word → length_in s (first_cell s) ≡ length_of s (ties_walked s)
  walk-length h = ap (length_in s) (cell-word h) ∙ layout-length s o (ties_walked s)

  -- NONE: where it is the sentinel, there is none
  pub walk_none : top_word ≤ first_cell s → best s ≡ none
  walk_none h = one-sided-best s o one ∙ (unfold one_sided in ap (ties_of s) (walked-nothing h))

-- the work words needed are the cells of all levels
pub work-cells : (s : Sheet) → s.is_two_sided ≡ false → work_for s ≡ (length s.sites + 1) * cells (instance_of s) (length s.colours) (product_of s.colours)
unfolding mark_count
work-cells s one =
    ap (λ (b : Bool). cond b ((length s.slots + 2) * (length s.colours + 1) * product_of s.colours)
    ((length s.slots + 2) ^ 2 * (length s.colours + 1) ^ 2 * (length s.sites + 1) * product_of s.colours)) one
    ∙ squares (length s.slots + 2) (length s.colours + 1) (length s.sites + 1) (product_of s.colours)
  where
    squares : (a b n r : ℕ) → a ^ 2 * b ^ 2 * n * r ≡ n * (a * b * a * b * 1 * r)
    squares a b n r = rw (pow-suc a 1, pow-suc a 0, pow-zero a, pow-suc b 1, pow-suc b 0, pow-zero b) (omega arith)

-- ---- THE CALL on a one-sided sheet, whatever the areas held
module _ (ws k out : List ℕ) (t : TakesSheet ws k out) where
  pub call-made : first_cell (sheet_in ws) < top_word →
      Result ws k out 0 (layout_words (count_in (sheet_in ws) (first_cell (sheet_in ws))) (length_in (sheet_in ws) (first_cell (sheet_in ws))) (ties_walked (sheet_in ws))
      ++ drop (length (sheet_in ws).sites + 1) out) (cleared ws k)
  call-made h =
      let s = sheet_in ws in
      let o = sound ws t.1 in
      let c = sites-coloured ws t.1 in
      subst (λ (a : List ℕ). Result ws k out 0 (a ++ drop (length s.sites + 1) out) (cleared ws k))
      (ap₂ (λ (c l : ℕ). layout_words c l (ties_walked s)) (sym (walk-count s o t.4 c h)) (sym (walk-length s o t.4 c h))) (made ws k out _ t (walk_first s o t.4 c h))

  pub call-unmade : top_word ≤ first_cell (sheet_in ws) → Result ws k out 10 out (cleared ws k)
  call-unmade h = unmade ws k out t ((best-none-iff (sheet_in ws)).0 (walk_none (sheet_in ws) (sound ws t.1) t.4 (sites-coloured ws t.1) h))
