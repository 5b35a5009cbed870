-- A sheet without the bounds that can't bind: a colour has at most as many labels as sites, so a bound that is at least its count of
-- sites forbids nothing, and may as well be 255. Assumes nothing: these are definitions, each for every list of words.
use Rattle.std.specs.Prelude.{◌&&◌, cond, List, [], ◌∷◌, ℕ, suc, ◌+◌, ◌*◌, ◌/◌, leb, eqb}
use Rattle.sheet.specs.Limits.{unbounded, byte_top}
use Rattle.sheet.specs.Sheet.{kind_of, bits, Site, Colour, Sheet, sites_run}

-- a word that so many sites follow: of a colour with no more sites than its bound, bits 7 to 0 are set
abbrev pub binding_word : (word sites : ℕ) → ℕ
binding_word w n = cond (eqb (kind_of w) 3 && leb n (bits w 0 8)) (w / byte_top * byte_top + unbounded) w

-- the words of a sheet, each so
unfoldable pub binding_only : List ℕ → List ℕ
binding_only [] = []
binding_only (w ∷ ws) = binding_word w (sites_run ws) ∷ binding_only ws

-- the same for a bound over so many sites, for a colour, and for the colours
abbrev pub binding_bound : (bound sites : ℕ) → ℕ
binding_bound b n = cond (leb n b) unbounded b

abbrev pub binding_colour : Colour → Colour
binding_colour c = record { bound = binding_bound c.bound c.sites; sites = c.sites }

unfoldable pub binding_colours : List Colour → List Colour
binding_colours [] = []
binding_colours (c ∷ cs) = binding_colour c ∷ binding_colours cs

-- the sheet with other colours
abbrev pub with_colours : Sheet → List Colour → Sheet
with_colours s cs =
    record {
      is_two_sided = s.is_two_sided;
      is_shortest = s.is_shortest;
      gap = s.gap;
      width = s.width;
      charge = s.charge;
      slots = s.slots;
      colours = cs;
      sites = s.sites;
    }

-- how many sites are of a colour
unfoldable pub sites_of : (colour : ℕ) → List Site → ℕ
sites_of c [] = 0
sites_of c (s ∷ ss) = cond (eqb s.colour c) (suc (sites_of c ss)) (sites_of c ss)
