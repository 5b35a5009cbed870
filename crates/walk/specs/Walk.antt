-- THE WALK over the words of a table: the value of a state read off its level, and what the code asks for. Definitions.
use Rattle.std.specs.Prelude.{◌≡◌, List, [], ◌∷◌, ℕ, ◌+◌, ◌-◌, ◌*◌, ◌≤◌, ◌<◌, length, get_or, drop}
use Rattle.search.specs.Walk.{Process, choose_by, walk_by}
use Rattle.optimum.specs.Strips.{Point, Instance, State, labels as process}
use Rattle.optimum.specs.OneSided.{top_word, mark_count, write_ties}
use Rattle.arrays.specs.Given.{Given, instance_of, points_of, OfSheet, Bounded, Ranked}
use Rattle.arrays.specs.Budgets.{SplitsOf}
use Rattle.rows.specs.Rows.{level_size}
use Rattle.rows.specs.Rest.{rest_rows}

-- each step of the walk by these values finds its slot
unfoldable pub Found : {X Site : Type 0} (G : Process X Site) → (X → List Site → ℕ) → X → List Site → Type 0
Found G value x [] = Unit
Found G value x (s ∷ ss) = (choose_by G value x s ss < G.m) × Found G value (G.next x s (choose_by G value x s ss)) ss

-- the value of a state with the sites ss left, of n sites in all: REST of their level
unfoldable pub value_in : (P : Instance) (parts counts work : List ℕ) (C R n : ℕ) → State P → List Point → ℕ
value_in P parts counts work C R n x ss = rest_rows parts counts work ((n - length ss) * level_size P.slots.m C R) P.slots.m C R x.0 x.2 x.1

-- the same from a sheet's arrays, and the words of one of its levels
abbrev pub worth_in : (g : Given) → (work : List ℕ) → State (instance_of g) → List Point → ℕ
worth_in g work = value_in (instance_of g) g.parts g.counts work g.measures.colours g.measures.budgets (length (points_of g))

abbrev pub level_words : Given → ℕ
level_words g = level_size (length g.heights) g.measures.colours g.measures.budgets

-- ---- what is asked: a table fits the work area
abbrev pub LevelsFit : Given → (work : List ℕ) → Type 0
LevelsFit g work = (length g.order + 1) * level_words g ≤ length work

-- with what the ranked sheet says of itself: the arrays are a sheet's, lists say what may be taken from each budget
pub record WalkIn (g : Given) (work : List ℕ) : Type 0 where
  pub sheet : OfSheet g
  pub bounded : Bounded g
  pub ranked : Ranked g
  pub splits : SplitsOf g.radices g.measures.budgets g.parts g.counts
  pub whole : LevelsFit g work

-- the state with these labels open, their marks and the budget v
abbrev pub state_of : (g : Given) → (labels marks : List ℕ) → (v : ℕ) → State (instance_of g)
state_of g L M v = (L, v, M)

-- where the walk stands with the first j sites tied: the open labels and their marks, the budget v, and the least cost `here` of the sites left,
-- which the words hold and which is not none; and every step finds its slot
pub record Standing (g : Given) (work labels marks out : List ℕ) (j v here : ℕ) : Type 0 where
  pub tied : j ≤ length (points_of g)
  pub answer_fits : length (points_of g) < length out
  pub labels_long : length labels ≡ length g.heights
  pub coloured : (i : ℕ) → get_or labels i 0 < g.measures.colours + 1
  pub marks_long : length marks ≡ length g.heights + 1
  pub marked : (i : ℕ) → get_or marks i 0 < mark_count
  pub budget : v < g.measures.budgets
  pub low : here < top_word
  pub worth : here ≡ worth_in g work (state_of g labels marks v) (drop j (points_of g))
  pub found : Found (process (instance_of g)) (worth_in g work) (state_of g labels marks v) (drop j (points_of g))

-- the answer area with the ties of the walk from there on
abbrev pub tied_from : (g : Given) → (work labels marks out : List ℕ) → (j v : ℕ) → List ℕ
tied_from g work L M out j v =
    write_ties out (drop j g.order) (walk_by (process (instance_of g)) (worth_in g work) (state_of g L M v) (drop j (points_of g)))
