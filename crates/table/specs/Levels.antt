-- The one-sided table, level by level: level j, where the first j sites are tied, stands from word j * level_of on. Definitions.
use Rattle.std.specs.Prelude.{◌≡◌, List, ℕ, ◌+◌, ◌*◌, ◌<◌, length, get_or, drop}
use Rattle.search.specs.Plan.{T}
use Rattle.optimum.specs.Strips.{Point, Strip, Instance, rules_of}
use Rattle.optimum.specs.Reached.{Reached, TableOf}
use Rattle.arrays.specs.declared.Measures.{Measures}
use Rattle.arrays.specs.Given.{Given, instance_of, points_of}
use Rattle.rows.specs.declared.End.{End}
use Rattle.rows.specs.Budgets.{Others}
use Rattle.rows.specs.Rows.{row_of, level_of, row_in, end_place, end_words}
use Rattle.parts.specs.Parts.{Marked}
use Rattle.rows.specs.Level.{Level, slots_in, colours_in, words_in}
use Rattle.marks.specs.Marks.{Shaped, HasEnd}
use Rattle.entries.specs.Entries.{entry_by}

-- if the strip p was marked, its row holds its entries, worked out from the rows of the level at the word `low`
abbrev pub RowFilled : (q : Measures) → (heights bounds parts counts left old new : List ℕ) → (base low : ℕ) → Point → Strip → Type 0
RowFilled q hs bs parts counts left old new base low s p =
    Marked old base (length hs) q.colours q.budgets p → (v : ℕ) → v < q.budgets →
    get_or new (base + row_of (length hs) q.colours p * q.budgets + v) 0
    ≡ entry_by q hs bs parts counts left (row_in old low (length hs) q.colours q.budgets) p s v

abbrev pub StripFilled : Level → (old new : List ℕ) → Strip → Type 0
StripFilled l old new =
    RowFilled l.arrays.measures l.arrays.heights l.arrays.bounds l.arrays.parts l.arrays.counts l.left old new l.base l.low l.site

-- so for all strips of one upper end; for all strips. Nothing else changed
abbrev pub EndFilled : Level → End → (old new : List ℕ) → Type 0
EndFilled l e old new =
    Others old new (l.base + end_place (colours_in l) e.slot e.colour * end_words l.arrays.measures l.arrays.heights) (end_words l.arrays.measures l.arrays.heights)
    × ((p : Strip) → Shaped (slots_in l) (colours_in l) p → HasEnd l e p → StripFilled l old new p)

abbrev pub LevelFilled : Level → (old new : List ℕ) → Type 0
LevelFilled l old new = Others old new l.base (words_in l) × ((p : Strip) → Shaped (slots_in l) (colours_in l) p → StripFilled l old new p)

-- ---- all levels

-- level j of the table of the sites ss, which begins at the word `base`: right at every strip that is asked for; marked there
abbrev pub LevelRight : (P : Instance) → Measures → List Point → (j : ℕ) → (work : List ℕ) → (base : ℕ) → Type 0
LevelRight P q ss j work base =
    (p : Strip) (v : ℕ) → Reached P ss j p → v < q.budgets →
    get_or work (base + (row_of P.slots.m q.colours p * q.budgets + v)) 0 ≡ T (rules_of P) (drop j ss) p v

abbrev pub LevelMarked : (P : Instance) → Measures → List Point → (j : ℕ) → (work : List ℕ) → (base : ℕ) → Type 0
LevelMarked P q ss j work base = (p : Strip) → Reached P ss j p → Marked work base P.slots.m q.colours q.budgets p

-- the same where level j begins at word j * size
abbrev pub RightAt : Given → (size j : ℕ) → (work : List ℕ) → Type 0
RightAt g size j work = LevelRight (instance_of g) g.measures (points_of g) j work (j * size)

abbrev pub MarkedAt : Given → (size j : ℕ) → (work : List ℕ) → Type 0
MarkedAt g size j work = LevelMarked (instance_of g) g.measures (points_of g) j work (j * size)

-- level j, if it was marked, is right where level j + 1 was; nothing else changed
abbrev pub SiteFilled : Given → (size j : ℕ) → (old new : List ℕ) → Type 0
SiteFilled g size j old new = Others old new (j * size) size × (MarkedAt g size j old → RightAt g size (j + 1) old → RightAt g size j new)

-- THE TABLE is the model's, and the words past it are as before
abbrev pub TableRight : Given → (old new : List ℕ) → Type 0
TableRight g old new =
    TableOf (instance_of g) g.measures.colours g.measures.budgets (points_of g) new
    × (drop ((length g.xs + 1) * level_of g.measures g.heights) new ≡ drop ((length g.xs + 1) * level_of g.measures g.heights) old)
