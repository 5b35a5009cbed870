-- What is asked where a one-sided sheet is laid out, and what is left of a call. Definitions.
use Rattle.std.specs.Prelude.{◌≡◌, List, [], ℕ, ◌<◌, length}
use Rattle.sheet.specs.Sheet.{Sheet, sheet_in, product_of}
use Rattle.labelling.specs.Entry.{make_fault, make_work, make_answer}
use Rattle.labelling.specs.Promise.{TakesSheet}
use Rattle.optimum.specs.OneSided.{order}
use Rattle.optimum.specs.Budgets.{radices_of}
use Rattle.arrays.specs.Arrays.{measures_of, bounds_of, draws_list, xs_of, ys_of, colours_of, gathered}
use Rattle.decoding.specs.declared.Numbers.{Numbers}
use Rattle.decoding.specs.Decoding.{numbers_by, SheetRead}
use Rattle.arrays.specs.Given.{Given, given}
use Rattle.marks.specs.Marks.{TableFits}

-- an accepted one-sided sheet by its numbers and P, its areas long enough; the words are there for the contract alone
pub record TakesOneSided (d : Numbers) (budgets : ℕ) (work out : List ℕ) : Type 0 where
  pub read : SheetRead d
  pub takes : TakesSheet read.words work out
  pub product : budgets ≡ product_of (sheet_in read.words).colours

-- THE CALL: what it returns, and both areas after it, by what they were before
pub record Made (ws work out : List ℕ) (fault : ℕ) (work_after out_after : List ℕ) : Type 0 where
  pub fault-is : fault ≡ make_fault ws work out
  pub work-is : work_after ≡ make_work ws work out
  pub out-is : out_after ≡ make_answer ws work out

-- the same of every sheet that has these numbers
abbrev pub MadeBy : Numbers → (work out : List ℕ) → (fault : ℕ) → (work_after out_after : List ℕ) → Type 0
MadeBy d k o f k' o' = (ws : List ℕ) → TakesSheet ws k o → d ≡ numbers_by (sheet_in ws) → Made ws k o f k' o'

-- the arrays are those of the sheet's sites, by rising rank
pub record RankedSites (s : Sheet) (xs ys colours os : List ℕ) : Type 0 where
  pub xs_is : xs ≡ gathered (xs_of s.sites) (order s)
  pub ys_is : ys ≡ gathered (ys_of s.sites) (order s)
  pub colours_is : colours ≡ gathered (colours_of s.sites) (order s)
  pub order_is : os ≡ order s

-- ALL ARRAYS of a sheet; what may be taken from each budget is not listed yet
abbrev pub arrays_of : Sheet → Given
arrays_of s =
    given (measures_of s) s.slots (bounds_of s.colours) (radices_of s.colours) (draws_list s)
    (gathered (xs_of s.sites) (order s)) (gathered (ys_of s.sites) (order s)) (gathered (colours_of s.sites) (order s)) (order s) [] []

-- what is asked where a ranked sheet is laid out: a table fits the work area, and the layout the answer area
pub record LaysOut (g : Given) (area : ℕ) (out : List ℕ) : Type 0 where
  pub fits : TableFits g area
  pub answer_fits : length g.order < length out
