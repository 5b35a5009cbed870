-- REST, as code folds it: the strips of the open labels take their shares one after the other, by rising slot. The table's
-- entries are words of the work area, and lists say which shares may be taken from each budget. Definitions.
use Rattle.std.specs.Prelude.{cond, List, ℕ, zero, suc, ◌+◌, ◌*◌, ◌≤◌, ◌<◌, eqb, length, get_or}
use Rattle.sheet.specs.Limits.{most_slots, most_colours}
use Rattle.search.specs.Split.{just}
use Rattle.search.specs.Sums.{listing}
use Rattle.optimum.specs.OneSided.{top_word, mark_count}
use Rattle.rows.specs.Budgets.{split_by}
use Rattle.rows.specs.Rows as rows
use Rattle.rows.specs.Rows.{level_size}

-- where the entries of a strip begin in its level: m slots, C colours, R budgets
abbrev pub row_start : (m C R a ca b cb d : ℕ) → ℕ
row_start m C R a ca b cb d = rows.row_of m C (record { a = a; ca = ca; b = b; cb = cb; d = d }) * R

-- a level of C colours and R budgets, which has a slot for each label, stands in the work area from the word `base` on, and the labels'
-- colours and the marks are in range
pub record LevelIn (work : List ℕ) (base C R : ℕ) (labels marks : List ℕ) : Type 0 where
  pub few_slots : length labels ≤ most_slots
  pub few_colours : C ≤ most_colours
  pub within : base + level_size (length labels) C R ≤ length work
  pub coloured : (i : ℕ) → get_or labels i 0 < C + 1
  pub marked : (i : ℕ) → get_or marks i 0 < mark_count

-- one strip more, whose row begins at the word `row`, takes its share of each budget
abbrev pub split_row : (parts counts acc work : List ℕ) → (row v : ℕ) → ℕ
split_row parts counts acc work row v = split_by parts counts (λ w. get_or acc w 0) (λ w. get_or work (row + w) 0) v

unfoldable pub join_row : (parts counts acc work : List ℕ) → (row : ℕ) → List ℕ
join_row parts counts acc work row = listing (split_row parts counts acc work row) 0 (length acc)

module _ (parts counts work : List ℕ) (base m C R : ℕ) where
  -- all strips of the open labels L with their marks M, from slot i on; r slots are left, and a is the last label passed, of colour ca
  unfoldable pub fold_rows : (r i a ca : ℕ) → (labels marks acc : List ℕ) → List ℕ
  fold_rows zero i a ca L M acc = join_row parts counts acc work (base + row_start m C R a ca (suc i) 0 (get_or M a 0))
  fold_rows (suc r) i a ca L M acc =
      cond (eqb (get_or L i 0) 0) (fold_rows r (suc i) a ca L M acc)
      (fold_rows r (suc i) (suc i) (get_or L i 0) L M (join_row parts counts acc work (base + row_start m C R a ca (suc i) (get_or L i 0) (get_or M a 0))))

  -- REST at the budget v, of the level that begins at the word `base`
  unfoldable pub rest_rows : (labels marks : List ℕ) → (v : ℕ) → ℕ
  rest_rows L M v = get_or (fold_rows m 0 0 0 L M (listing (just top_word 0 0) 0 R)) v 0
