-- Rule 2 as a budget: a number with a digit for each colour, of radix bound + 1, or 1 if the colour is unbounded. There are P budgets.
use Rattle.std.specs.Prelude.{Bool, cond, List, [], ◌∷◌, ℕ, ◌+◌, ◌-◌, eqb, get_or}
use Rattle.search.specs.Radix.{digit_of, place}
use Rattle.sheet.specs.Limits.{unbounded}
use Rattle.sheet.specs.Sheet.{Colour, Sheet, product_of}
use Rattle.labelling.specs.Layout.{no_colour}

-- a colour's label bound
abbrev pub bound_of : Sheet → (colour : ℕ) → ℕ
bound_of s c = (get_or s.colours c no_colour).bound

-- 255 means unbounded
abbrev pub is_unbounded : Sheet → (colour : ℕ) → Bool
is_unbounded s c = eqb (bound_of s c) unbounded

-- the radix of a colour's digit, and those of all colours
abbrev pub radix_of : Colour → ℕ
radix_of k = cond (eqb k.bound unbounded) 1 (k.bound + 1)

unfoldable pub radices_of : List Colour → List ℕ
radices_of [] = []
radices_of (k ∷ ks) = radix_of k ∷ radices_of ks

-- a colour's digit of a budget: how many labels it may still get
abbrev pub digit_in : Sheet → (colour budget : ℕ) → ℕ
digit_in s c v = digit_of (radices_of s.colours) c v

-- what a label of the colour draws: one from its digit, nothing if it is unbounded
abbrev pub draw_at : (radices : List ℕ) → (colour : ℕ) → (without : Bool) → ℕ
draw_at rs c u = cond u 0 (place rs c)

unfoldable pub draws_of : Sheet → (colour : ℕ) → ℕ
draws_of s c = draw_at (radices_of s.colours) c (is_unbounded s c)

-- the budget at the start, whose digits are the bounds: the greatest
abbrev pub full_budget : Sheet → ℕ
full_budget s = product_of s.colours - 1
