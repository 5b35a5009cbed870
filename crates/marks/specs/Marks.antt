-- Marks: the first word of a strip's row is 1 where the whole sheet leads to the strip. Only marked rows are filled. Definitions.
use Rattle.std.specs.Prelude.{◌≡◌, Bool, true, false, List, ℕ, ◌+◌, ◌*◌, ◌<◌, ◌≤◌, length, get_or}
use Rattle.optimum.specs.Strips.{Point, Strip, Instance}
use Rattle.optimum.specs.OneSided.{top_word, has_slot}
use Rattle.optimum.specs.Reached.{Asks, Reached, no_point}
use Rattle.arrays.specs.declared.Measures.{Measures}
use Rattle.arrays.specs.Given.{Given, points_of}
use Rattle.arrays.specs.Arrays.{turn_by}
use Rattle.strips.specs.Strips.{instance_on, rise_cost, fall_cost, risen, fallen}
use Rattle.strips.specs.declared.Window.{Window}
use Rattle.rows.specs.declared.End.{End}
use Rattle.parts.specs.Parts.{Marked, Marking, PartsMarked}
use Rattle.rows.specs.Rows.{upper_end, level_of, Lies, end_place}
use Rattle.rows.specs.Level.{Level, slots_in, colours_in, budgets_in, words_in}

-- what the whole sheet leads to has this shape: its upper end stands above its lower end
pub record Shaped (m C : ℕ) (p : Strip) : Type 0 where
  pub lies : Lies m C p
  pub falls : p.a < p.b
  pub ends : upper_end p.a p.ca ≡ true

-- the strips of a level's sheet
abbrev pub strips_in : Level → Instance
strips_in l = instance_on l.arrays.measures l.arrays.heights l.arrays.bounds

-- an upper end of a strip
abbrev pub EndIn : Level → End → Type 0
EndIn l e = (e.slot ≤ slots_in l) × (e.colour ≤ colours_in l)

-- the strip p may have this upper end
abbrev pub HasEnd : Level → End → Strip → Type 0
HasEnd l e p = end_place (colours_in l) p.a p.ca ≡ end_place (colours_in l) e.slot e.colour

-- ---- marking

-- from a word on all is as before. Of clearing marks no more is asked: a mark that is left costs time and nothing else
pub record KeptFrom (place : ℕ) (old new : List ℕ) : Type 0 where
  pub kept : (i : ℕ) → place ≤ i → get_or new i 0 ≡ get_or old i 0

-- in the level at the word `low`, of m slots, some words became 1 and nothing else changed: among them the mark of the strip's row, if it is to
-- stay; those of the strip as a site leaves it that joins the label above, and the label below, where that is lawful; those of both parts, at
-- each slot of a window that is not barred to the site
abbrev pub StripMarked : Given → (low : ℕ) → Strip → (stays : Bool) → (old new : List ℕ) → Type 0
StripMarked g low p stays old new =
    Marking old new low (level_of g.measures g.heights)
    × (stays ≡ true → Marked new low (length g.heights) g.measures.colours g.measures.budgets p)

abbrev pub JoinsMarked : Level → Strip → (old new : List ℕ) → Type 0
JoinsMarked l p old new =
    Marking old new l.low (words_in l)
    × ((bs : List ℕ) → rise_cost l.arrays.measures l.arrays.heights bs p l.site < top_word → Marked new l.low (slots_in l) (colours_in l) (budgets_in l) (risen l.arrays.heights p l.site))
    × ((bs : List ℕ) → fall_cost l.arrays.measures l.arrays.heights bs p l.site < top_word → Marked new l.low (slots_in l) (colours_in l) (budgets_in l) (fallen l.arrays.heights p l.site))

abbrev pub WindowMarked : Level → Strip → Window → (old new : List ℕ) → Type 0
WindowMarked l p w old new =
    Marking old new l.low (words_in l)
    × ((k : ℕ) → w.from ≤ k → k < w.to → has_slot l.site.barred k ≡ false → PartsMarked l.arrays.measures new l.low (slots_in l) p l.site k (turn_by l.arrays.heights l.site k))

-- rows of the level at the word `low` may be marked for the strip p
abbrev pub StripFits : Given → (low : ℕ) → Strip → (area : ℕ) → Type 0
StripFits g low p area = (low + level_of g.measures g.heights ≤ area) × Lies (length g.heights) g.measures.colours p

-- the same for what a strip asks for whose row is at the word `base`
pub record MarkReady (l : Level) (p : Strip) (area : ℕ) : Type 0 where
  pub fits : l.low + words_in l ≤ area
  pub lies : Lies (slots_in l) (colours_in l) p
  pub here : l.base < area

-- if the row at `base` is marked, all that the strip p asks for is marked in the level at `low`
abbrev pub RowLed : Level → Strip → (old new : List ℕ) → Type 0
RowLed l p old new =
    Marking old new l.low (words_in l)
    × (get_or old l.base 0 ≡ 1 → (x : Strip) → Asks (strips_in l) p l.site x → Marked new l.low (slots_in l) (colours_in l) (budgets_in l) x)

-- if the strip p is marked in the level at the word `base`, all that it asks for is marked in the level at the word `low`
abbrev pub Led : (P : Instance) → Measures → (old new : List ℕ) → (base low : ℕ) → Point → Strip → Type 0
Led P q old new base low s p =
    Marked old base P.slots.m q.colours q.budgets p → (x : Strip) → Asks P p s x → Marked new low P.slots.m q.colours q.budgets x

-- so for all strips of one upper end; for all strips
abbrev pub EndLed : Level → End → (old new : List ℕ) → Type 0
EndLed l e old new =
    Marking old new l.low (words_in l)
    × ((p : Strip) → Shaped (slots_in l) (colours_in l) p → HasEnd l e p → Led (strips_in l) l.arrays.measures old new l.base l.low l.site p)

abbrev pub LevelLed : Level → (old new : List ℕ) → Type 0
LevelLed l old new =
    Marking old new l.low (words_in l)
    × ((p : Strip) → Shaped (slots_in l) (colours_in l) p → Led (strips_in l) l.arrays.measures old new l.base l.low l.site p)

-- ---- all levels: level j stands from word j * size on

-- the levels of all sites stand in an area of so many words
abbrev pub TableFits : Given → (area : ℕ) → Type 0
TableFits g area = (length g.xs + 1) * level_of g.measures g.heights ≤ area

-- level j, of so many words, is one of them, and a site comes next
abbrev pub LevelAt : Given → (size j : ℕ) → Type 0
LevelAt g size j = (size ≡ level_of g.measures g.heights) × (j < length g.xs)

-- what level j leads to is marked in level j + 1
abbrev pub SiteLed : Given → (size j : ℕ) → (old new : List ℕ) → Type 0
SiteLed g size j old new =
    Marking old new ((j + 1) * size) size
    × ((p : Strip) → Shaped (length g.heights) g.measures.colours p
    → Led (instance_on g.measures g.heights g.bounds) g.measures old new (j * size) ((j + 1) * size) (get_or (points_of g) j no_point) p)

-- ALL THAT THE WHOLE SHEET LEADS TO IS MARKED, at the first so many levels; levels of `size` words
abbrev pub ReachMarked : (P : Instance) → Measures → List Point → (work : List ℕ) → (size levels : ℕ) → Type 0
ReachMarked P q ss work size levels =
    (i : ℕ) → i < levels → (p : Strip) → Reached P ss i p → Marked work (i * size) P.slots.m q.colours q.budgets p

-- at all levels, and the words past them are as before
abbrev pub SheetMarked : Given → (old new : List ℕ) → Type 0
SheetMarked g old new =
    ReachMarked (instance_on g.measures g.heights g.bounds) g.measures (points_of g) new (level_of g.measures g.heights) (length g.xs + 1)
    × ((i : ℕ) → (length g.xs + 1) * level_of g.measures g.heights ≤ i → get_or new i 0 ≡ get_or old i 0)
