-- ONE STEP OF THE WALK over the words of a table: what it costs, and which slots keep the least cost. Definitions.
use Rattle.std.specs.Prelude.{◌≡◌, Bool, cond, List, ℕ, suc, ◌+◌, ◌<◌, ◌≤◌, eqb, length, get_or, set}
use Rattle.sheet.specs.Limits.{most_slots}
use Rattle.search.specs.Cost.{plus, first}
use Rattle.optimum.specs.Strips.{Point, Strip}
use Rattle.optimum.specs.OneSided.{top_word, mark_count}
use Rattle.arrays.specs.Arrays.{turn_by}
use Rattle.arrays.specs.Given.{Given, instance_of, SiteIn}
use Rattle.strips.specs.Steps.{price_in, budget_left}
use Rattle.rows.specs.Rest.{LevelIn, rest_rows}
use Rattle.choice.specs.declared.Left.{Left}
use Rattle.choice.specs.declared.kept.Tie.{Tie}

-- ---- one step, of the site s in the strip p

-- the labels after it
abbrev pub labelled : (labels : List ℕ) → Point → (k : ℕ) → List ℕ
labelled L s k = set L k (suc s.c)

-- the marks after it: the site leaves the mark d below the place a, and a label that is new at slot k has the mark 0 below it
abbrev pub marked_at : (labels marks : List ℕ) → (a d k : ℕ) → List ℕ
marked_at L M a d k = cond (eqb (get_or L k 0) 0) (set (set M (suc k) 0) a d) (set M a d)

-- a price, and REST of these labels and marks at the budget v, come to the cost
abbrev pub comes_to : (parts counts work : List ℕ) (base C R : ℕ) → (labels marks : List ℕ) → (v price cost : ℕ) → Bool
comes_to parts counts work base C R L M v price cost = eqb (plus top_word price (rest_rows parts counts work base (length L) C R L M v)) cost

-- slot k keeps the least cost `here`; the next level begins at the word `base`
abbrev pub keeps_cost : Given → (work : List ℕ) → (base : ℕ) → Strip → Point → (labels marks : List ℕ) → (v here k : ℕ) → Bool
keeps_cost g work base p s L M v here k =
    eqb (plus top_word (price_in (instance_of g) p s v k)
    (rest_rows g.parts g.counts work base (length g.heights) g.measures.colours g.measures.budgets (labelled L s k) (marked_at L M p.a (turn_by g.heights s k) k) (budget_left (instance_of g) p s v k))) here

-- the lowest slot that does; the number of slots if none does
abbrev pub lowest_kept : Given → (work : List ℕ) → (base : ℕ) → Strip → Point → (labels marks : List ℕ) → Left → ℕ
lowest_kept g work base p s L M left = first (length g.heights) (keeps_cost g work base p s L M left.budget left.cost)

-- ---- what is asked

-- where the marks of a step are written: the slot has a label and a mark, and so has the place
pub record MarksIn (labels marks : List ℕ) (a k : ℕ) : Type 0 where
  pub slot_low : k < length labels
  pub few : length labels ≤ most_slots
  pub marks_long : length marks ≡ length labels + 1
  pub place_low : a < length marks

-- where a slot is tried: the next level, of C colours and R budgets, stands in the work area, and slot, place, mark, colour, budget and cost
-- are in range
pub record TriedIn (work : List ℕ) (base C R : ℕ) (labels marks : List ℕ) (tie : Tie) (v cost : ℕ) : Type 0 where
  pub level : LevelIn work base C R labels marks
  pub places : MarksIn labels marks tie.above tie.slot
  pub mark_low : tie.mark < mark_count
  pub colour_low : tie.colour < C + 1
  pub budget : v < R
  pub low : cost < top_word

-- where a slot is chosen for the site s, in the strip below the place a
pub record ChosenIn (g : Given) (work : List ℕ) (base : ℕ) (labels marks : List ℕ) (a : ℕ) (s : Point) (left : Left) : Type 0 where
  pub level : LevelIn work base g.measures.colours g.measures.budgets labels marks
  pub site : SiteIn g.measures s
  pub labels_long : length labels ≡ length g.heights
  pub marks_long : length marks ≡ length g.heights + 1
  pub place_low : a < length marks
  pub budget : left.budget < g.measures.budgets
  pub low : left.cost < top_word
