-- What the layout maker answers and leaves: document 01, "Layout maker". Assumes nothing: these are definitions, each for every
-- sheet, work area and answer area, as lists of words.
use Rattle.std.specs.Prelude.{◌≡◌, Bool, true, false, ◌||◌, not, cond, List, [], ◌∷◌, ◌++◌, ℕ, ◌-◌, ◌≤◌, eqb, leb, length, take, drop, replicate}
use Rattle.std.proofs.Math.Option.{Option, none, some}
use Rattle.sheet.specs.Refusals.{Refusal, unless, given}
use Rattle.sheet.specs.Sheet.{sheet_in, sheet_refusals, sheet_fault, work_for}
use Rattle.labelling.specs.Layout.{best, answer, words_for}

-- there is none
abbrev pub is_none : Option (List ℕ) → Bool
is_none none = true
is_none (some x) = false

-- the sheet is accepted and one-sided, and the areas are long enough
abbrev pub Serves : (sheet work out : List ℕ) → Type 0
Serves ws k o =
    (sheet_fault ws ≡ 0) × (work_for (sheet_in ws) ≤ length k) × (words_for (sheet_in ws) ≤ length o) × ((sheet_in ws).is_two_sided ≡ false)

-- the refusal: 1 to 7 as the reader; 18, a two-sided sheet (document 02, (n)); 8, the work area is shorter than needed; 9, the answer area has fewer than n + 1 words; 10, no
-- layout obeys rules 1 to 5; or 0, success
abbrev pub make_refusals : (sheet work out : List ℕ) → List Refusal
make_refusals ws k o =
    sheet_refusals ws ++
    (unless (not (sheet_in ws).is_two_sided) 18 ∷
    unless (leb (work_for (sheet_in ws)) (length k)) 8 ∷
    unless (leb (words_for (sheet_in ws)) (length o)) 9 ∷
    unless (not (is_none (best (sheet_in ws)))) 10 ∷
    [])

abbrev pub make_fault : (sheet work out : List ℕ) → ℕ
make_fault ws k o = given (make_refusals ws k o)

-- the answer area afterwards: success puts the layout in its first n + 1 words
abbrev pub make_answer : (sheet work out : List ℕ) → List ℕ
make_answer ws k o =
    cond (eqb (make_fault ws k o) 0) (answer (sheet_in ws) ++ drop (words_for (sheet_in ws)) o) o

-- the work area with its needed words zero
abbrev pub cleared : (sheet work : List ℕ) → List ℕ
cleared ws k = replicate (work_for (sheet_in ws)) 0 ++ drop (work_for (sheet_in ws)) k

-- the work area afterwards: on success and on 10 the needed words are all zero and the rest is as before
abbrev pub make_work : (sheet work out : List ℕ) → List ℕ
make_work ws k o =
    cond (eqb (make_fault ws k o) 0 || eqb (make_fault ws k o) 10) (cleared ws k) k

-- an area with its words from a place up to another zeroed
abbrev pub zeroed : (from to : ℕ) → List ℕ → List ℕ
zeroed a b k = take a k ++ (replicate (b - a) 0 ++ drop b k)
