-- What the reader gives: document 01, "Reader". Assumes nothing: these are definitions.
use Rattle.std.specs.Prelude.{cond, List, [], ◌∷◌, ◌++◌, ℕ, ◌-◌, eqb, length, replicate}
use Rattle.sheet.specs.Limits.{most_colours}
use Rattle.sheet.specs.Sheet.{Colour, product_of, Sheet, sheet_in, sheet_fault, work_for}
use Rattle.reader.specs.declared.ColourSize.{ColourSize}
use Rattle.reader.specs.declared.Sizes.{Sizes}

-- each colour's bound and its count of sites
unfoldable pub sizes_of : List Colour → List ColourSize
sizes_of [] = []
sizes_of (c ∷ cs) = record { bound = c.bound; sites = c.sites } ∷ sizes_of cs

-- a colour that the sheet doesn't have: both zero
abbrev pub absent : ColourSize
absent = record { bound = 0; sites = 0 }

-- the same for each of the eight colours
abbrev pub eight_of : List Colour → List ColourSize
eight_of cs = sizes_of cs ++ replicate (most_colours - length cs) absent

-- of an accepted sheet: n, m, C, P, the number of work words, the eight colours
abbrev pub read_of : Sheet → Sizes
read_of s =
    record {
      refusal = 0;
      n = length s.sites;
      m = length s.slots;
      c = length s.colours;
      p = product_of s.colours;
      work = work_for s;
      colours = eight_of s.colours;
    }

-- of another list the refusal's number. What stands beside it is left free by document 01: here zeros
abbrev pub refused_of : (number : ℕ) → Sizes
refused_of f = record { refusal = f; n = 0; m = 0; c = 0; p = 0; work = 0; colours = replicate most_colours absent }

-- the reader's answer for every list of words
abbrev pub read_post : (words : List ℕ) → Sizes
read_post ws = cond (eqb (sheet_fault ws) 0) (read_of (sheet_in ws)) (refused_of (sheet_fault ws))
