-- A one-sided sheet laid out from its arrays: the answer and both areas, by the least cost and the walk. Definitions.
use Rattle.std.specs.Prelude.{cond, List, ℕ, suc, ◌+◌, ◌-◌, ◌*◌, ◌<◌, ltb, length, set, replicate}
use Rattle.search.specs.Walk.{walk_by}
use Rattle.labelling.specs.Entry.{zeroed}
use Rattle.optimum.specs.Strips.{Point, Instance, State, labels, value}
use Rattle.optimum.specs.OneSided.{top_word, write_ties}
use Rattle.optimum.specs.Reached.{TableOf}
use Rattle.arrays.specs.declared.Measures.{Measures}
use Rattle.arrays.specs.Given.{Given, instance_of, points_of}
use Rattle.costs.specs.Costs.{first_word_by}
use Rattle.walk.specs.Walk.{LevelsFit, level_words}

-- no label is open, and the budget is full: R budgets
abbrev pub empty_sheet : (P : Instance) → (R : ℕ) → State P
empty_sheet P R = (replicate P.slots.m 0, R - 1, replicate (suc P.slots.m) 0)

abbrev pub least_cost : (P : Instance) → (R : ℕ) → List Point → ℕ
least_cost P R points = value P (empty_sheet P R) points

-- BY AN INSTANCE AND ITS POINTS
-- 0, or 10 where there is none
abbrev pub fault_by : (P : Instance) → (R : ℕ) → List Point → ℕ
fault_by P R points = cond (ltb (least_cost P R points) top_word) 0 10

-- the answer area: the first word, and the ties of the walk; as it was where there is none
abbrev pub written_by : (P : Instance) → Measures → List Point → (order out : List ℕ) → List ℕ
written_by P q points order out =
    write_ties (set out 0 (first_word_by q (least_cost P q.budgets points))) order (walk_by (labels P) (value P) (empty_sheet P q.budgets) points)

abbrev pub out_by : (P : Instance) → Measures → List Point → (order out : List ℕ) → List ℕ
out_by P q points order out = cond (ltb (least_cost P q.budgets points) top_word) (written_by P q points order out) out

-- BY A SHEET'S ARRAYS
abbrev pub laid_fault : Given → ℕ
laid_fault g = fault_by (instance_of g) g.measures.budgets (points_of g)

abbrev pub laid_out : Given → (out : List ℕ) → List ℕ
laid_out g out = out_by (instance_of g) g.measures (points_of g) g.order out

-- the work area: the words of all levels zeroed
abbrev pub laid_work : Given → (work : List ℕ) → List ℕ
laid_work g work = zeroed 0 ((length (points_of g) + 1) * level_words g) work

-- what is asked where the table stands filled: there is room for the answer
pub record FilledIn (g : Given) (work out : List ℕ) : Type 0 where
  pub whole : LevelsFit g work
  pub table : TableOf (instance_of g) g.measures.colours g.measures.budgets (points_of g) work
  pub answer_fits : length g.order < length out
