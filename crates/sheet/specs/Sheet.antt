-- Sheets as words, and what the reader says of them: document 01, "The sheet" and "Reader".
-- Assumes nothing: these are definitions, each for every list of words.
use Rattle.std.specs.Prelude.{Bool, true, false, ◌&&◌, ◌||◌, not, cond, List, [], ◌∷◌, ℕ, suc, ◌+◌, ◌*◌, ◌-◌, ◌/◌, ◌%◌, ◌^◌, ltb, leb, eqb, length, get_or, drop}
use Rattle.sheet.specs.Refusals.{Refusal, unless, given}
use Rattle.sheet.specs.Limits.{most_slots, most_colours, most_sites, most_budgets, unbounded, kind_top, number_top}

-- a test holds of all items of a list
unfoldable pub all : {A : Type 0} → (A → Bool) → List A → Bool
all f [] = true
all f (x ∷ xs) = f x && all f xs

-- WORDS
-- the kind of a word: its top four bits, 31 to 28
abbrev pub kind_of : ℕ → ℕ
kind_of w = w / kind_top

-- a field of a word: so many bits from a place up, bit 0 the lowest
abbrev pub bits : (word place count : ℕ) → ℕ
bits w i n = w / 2 ^ i % 2 ^ n

-- PARTS
-- a site: x from the left edge, y downwards from the top, the number of its colour
pub record Site : Type 0 where
  pub x : ℕ
  pub y : ℕ
  pub colour : ℕ

-- a colour: its label bound (255 unbounded, 0 no label) and its count of sites
pub record Colour : Type 0 where
  pub bound : ℕ
  pub sites : ℕ

-- a sheet in its parts: side, aim, gap D, width W, the charge on a drop that isn't zero; slots (their heights), colours and sites,
-- numbered from 0 as they come
pub record Sheet : Type 0 where
  pub is_two_sided : Bool
  pub is_shortest : Bool
  pub gap : ℕ
  pub width : ℕ
  pub charge : ℕ
  pub slots : List ℕ
  pub colours : List Colour
  pub sites : List Site

-- a spare bit is set (unnamed bits are zero): of a slot bits 27 to 14, of a colour bits 27 to 8; heads and sites have none
abbrev pub has_spare : (word : ℕ) → Bool
has_spare w =
    cond (eqb (kind_of w) 2) (not (eqb (bits w 14 14) 0)) (cond (eqb (kind_of w) 3) (not (eqb (bits w 8 20) 0)) false)

-- the order of the body: slots, then colours, each followed at once by its sites; no word of another kind, no spare bit.
-- Stage 0: slots may come. Stage 1: a colour has come, so sites may come and slots may not.
unfoldable pub in_order : (stage : ℕ) → List ℕ → Bool
in_order z [] = true
in_order z (w ∷ ws) =
    not (has_spare w) &&
    cond (eqb (kind_of w) 2) (eqb z 0 && in_order 0 ws) (cond (eqb (kind_of w) 3) (in_order 1 ws) (cond (eqb (kind_of w) 4) (eqb z 1 && in_order 1 ws) false))

-- the slots: the heights in the words of kind 2, bits 13 to 0
unfoldable pub slots_in : List ℕ → List ℕ
slots_in [] = []
slots_in (w ∷ ws) = cond (eqb (kind_of w) 2) (bits w 0 14 ∷ slots_in ws) (slots_in ws)

-- a colour's count of sites: the words of kind 4 that follow it at once
unfoldable pub sites_run : List ℕ → ℕ
sites_run [] = 0
sites_run (w ∷ ws) = cond (eqb (kind_of w) 4) (suc (sites_run ws)) 0

-- the colours: the words of kind 3, bits 7 to 0 the label bound
unfoldable pub colours_in : List ℕ → List Colour
colours_in [] = []
colours_in (w ∷ ws) =
    cond (eqb (kind_of w) 3) (record { bound = bits w 0 8; sites = sites_run ws } ∷ colours_in ws) (colours_in ws)

-- the site in a word of kind 4: bits 27 to 14 its x, bits 13 to 0 its y
abbrev pub site_in : (word colour : ℕ) → Site
site_in w c = record { x = bits w 14 14; y = bits w 0 14; colour = c }

-- the sites: the words of kind 4, each of the last colour before it, when so many colours have come
unfoldable pub sites_in : (colours : ℕ) → List ℕ → List Site
sites_in c [] = []
sites_in c (w ∷ ws) =
    cond (eqb (kind_of w) 3) (sites_in (suc c) ws) (cond (eqb (kind_of w) 4) (site_in w (c - 1) ∷ sites_in c ws) (sites_in c ws))

-- the head: the first word
abbrev pub head_in : List ℕ → ℕ
head_in ws = get_or ws 0 0

-- a charge (document 02, "Bends cost something"): a word of kind 5 without a spare bit, which are bits 27 to 14
unfoldable pub is_charge : (word : ℕ) → Bool
is_charge w = eqb (kind_of w) 5 && eqb (bits w 14 14) 0

-- the place right after the head: one may stand there; one that stands elsewhere is a word of another kind
abbrev pub charge_at : ℕ
charge_at = 1

abbrev pub has_charge : List ℕ → Bool
has_charge ws = is_charge (get_or ws charge_at 0)

-- the charge, bits 13 to 0; without the word it is 0
abbrev pub charge_in : List ℕ → ℕ
charge_in ws = cond (has_charge ws) (bits (get_or ws charge_at 0) 0 14) 0

-- the place of the first word after the head and the charge
abbrev pub body_at : List ℕ → ℕ
body_at ws = cond (has_charge ws) 2 1

-- the body of a sheet: its words from there on, where slots, colours and sites stand
abbrev pub body_of : List ℕ → List ℕ
body_of ws = drop (body_at ws) ws

-- the sheet in a list of words; of the head bit 27 is the side, bit 26 the aim, bits 25 to 14 the gap, bits 13 to 0 the width
abbrev pub sheet_in : (words : List ℕ) → Sheet
sheet_in ws =
    record {
      is_two_sided = eqb (bits (head_in ws) 27 1) 1;
      is_shortest = eqb (bits (head_in ws) 26 1) 1;
      gap = bits (head_in ws) 14 12;
      width = bits (head_in ws) 0 14;
      charge = charge_in ws;
      slots = slots_in (body_of ws);
      colours = colours_in (body_of ws);
      sites = sites_in 0 (body_of ws);
    }

-- P: the product, over the colours whose bound is not 255, of bound plus one (1 if there are none)
unfoldable pub product_of : List Colour → ℕ
product_of [] = 1
product_of (c ∷ cs) = cond (eqb c.bound unbounded) 1 (c.bound + 1) * product_of cs

-- slot heights strictly rise
unfoldable pub rising : List ℕ → Bool
rising [] = true
rising (x ∷ []) = true
rising (x ∷ y ∷ xs) = ltb x y && rising (y ∷ xs)

-- a site's place in the order of choice, as one number: its x ("take the sites by rising x"). By its numbers, and of a site
unfoldable pub rank_by : (x y : ℕ) → ℕ
rank_by x y = x

abbrev pub rank_of : Site → ℕ
rank_of s = rank_by s.x s.y

-- a number above every rank
abbrev pub rank_top : ℕ
rank_top = number_top

-- some site has this rank
unfoldable pub has_rank : ℕ → List Site → Bool
has_rank x [] = false
has_rank x (s ∷ ss) = eqb (rank_of s) x || has_rank x ss

-- no two sites have equal rank
unfoldable pub ranks_differ : List Site → Bool
ranks_differ [] = true
ranks_differ (s ∷ ss) = not (has_rank (rank_of s) ss) && ranks_differ ss

-- THE READER'S REFUSALS
-- not refusal 1: the list has a first word, of kind 1, and neither its W nor its D is 0
abbrev pub is_head : List ℕ → Bool
is_head ws = ltb 0 (length ws) && eqb (kind_of (head_in ws)) 1 && not (eqb (bits (head_in ws) 0 14) 0) && not (eqb (bits (head_in ws) 14 12) 0)

-- not refusal 3: at most 48 slots, 8 colours and 32 sites
abbrev pub counts_fit : Sheet → Bool
counts_fit s = leb (length s.slots) most_slots && leb (length s.colours) most_colours && leb (length s.sites) most_sites

-- not refusal 5, of one site: its x is at most W
abbrev pub inside_by : (width : ℕ) → Site → Bool
inside_by w s = leb s.x w

-- the reader's refusals in their order, each looked for through the whole list before the next: 1 no head; 2 another kind, out of order,
-- a spare bit; 3 too many; 4 heights not strictly rising; 5 x above W; 6 equal x; 7 P above 64
abbrev pub sheet_refusals : (words : List ℕ) → List Refusal
sheet_refusals ws =
    unless (is_head ws) 1 ∷
    unless (in_order 0 (body_of ws)) 2 ∷
    unless (counts_fit (sheet_in ws)) 3 ∷
    unless (rising (sheet_in ws).slots) 4 ∷
    unless (all (inside_by (sheet_in ws).width) (sheet_in ws).sites) 5 ∷
    unless (ranks_differ (sheet_in ws).sites) 6 ∷
    unless (leb (product_of (sheet_in ws).colours) most_budgets) 7 ∷
    []

-- the reader's refusal; 0: an accepted sheet
abbrev pub sheet_fault : (words : List ℕ) → ℕ
sheet_fault ws = given (sheet_refusals ws)

-- the number of work words: (m+2)² × (C+1)² × (n+1) × P one-sided, (m+2) × (C+1) × P two-sided
abbrev pub work_for : Sheet → ℕ
work_for s =
    cond s.is_two_sided ((length s.slots + 2) * (length s.colours + 1) * product_of s.colours)
    ((length s.slots + 2) ^ 2 * (length s.colours + 1) ^ 2 * (length s.sites + 1) * product_of s.colours)
