-- Lawful layouts, which of two comes first, the answer, and stored sheets: document 01, "A lawful layout" and "Judge".
-- Assumes nothing: these are definitions, each for every sheet and every list.
use Rattle.std.specs.Prelude.{Bool, true, false, ◌&&◌, ◌||◌, not, cond, List, [], ◌∷◌, ◌++◌, ℕ, zero, suc, ◌+◌, ◌*◌, ◌-◌, ltb, leb, eqb, length, get_or, drop}
use Rattle.std.proofs.Math.Option.{Option, none, some}
use Rattle.sheet.specs.Limits.{unbounded, kind_top, length_top}
use Rattle.sheet.specs.Refusals.{Refusal, unless, given}
use Rattle.sheet.specs.Sheet.{all, kind_of, bits, Site, Colour, Sheet, rank_of, rank_top, sheet_in, sheet_refusals}

-- BY NUMBERS: what rules 3 and 5 and the length ask of heights and of x, one definition each. The sheet's definitions below cite
-- them, and so do the judge's model, the maker's and the code; their laws are proofs/Distances
-- how far apart two heights are: a drop without its sign
abbrev pub apart : ℕ → ℕ → ℕ
apart a b = (a - b) + (b - a)

-- rule 3: the heights of two labels are at least D apart
unfoldable pub far_by : (gap height other : ℕ) → Bool
far_by d h k = leb d (apart h k)

-- rule 5: a site at x counts against a label with this left end: it is at the left end or right of it, or left of it by less than D
-- (document 02, "Foreign bolts at the tip"); a label's height is at least D from a site of height y
unfoldable pub counts_by : (gap left x : ℕ) → Bool
counts_by d e x = leb e x || ltb (e - x) d

unfoldable pub clear_by : (gap height y : ℕ) → Bool
clear_by d h y = leb d (apart h y)

-- rule 6: a site is off its backbone: its drop, by the height of its slot and its own, isn't zero
unfoldable pub off_by : (height y : ℕ) → Bool
off_by h y = not (eqb h y)

-- a site's share of the length: its drop without the sign, plus the charge if the drop isn't zero (document 02, "Bends cost something")
unfoldable pub share_by : (charge height y : ℕ) → ℕ
share_by c h y = apart h y + cond (off_by h y) c 0

-- SITES, SLOTS AND TIES
-- what stands where a list has no item: no rule asks for it. A colour that the sheet does not have is unbounded, so that no budget has a
-- digit for it
abbrev pub no_site : Site
no_site = record { x = 0; y = 0; colour = 0 }

abbrev pub no_colour : Colour
no_colour = record { bound = unbounded; sites = 0 }

-- the site of a number
abbrev pub site_at : Sheet → ℕ → Site
site_at s i = get_or s.sites i no_site

-- a site with the slot that it has
pub record Tied : Type 0 where
  pub site : Site
  pub slot : ℕ

-- the sites of a sheet, each with its slot; ties are the slots in sheet order
unfoldable pub tied_of : List Site → (slots : List ℕ) → List Tied
tied_of [] ks = []
tied_of (s ∷ ss) [] = []
tied_of (s ∷ ss) (k ∷ ks) = record { site = s; slot = k } ∷ tied_of ss ks

abbrev pub tied : Sheet → (ties : List ℕ) → List Tied
tied s js = tied_of s.sites js

-- the tied site of a number
abbrev pub tie_at : Sheet → (ties : List ℕ) → ℕ → Tied
tie_at s js i = record { site = site_at s i; slot = get_or js i 0 }

-- a slot's height, at which its backbone lies
abbrev pub height_of : Sheet → (slot : ℕ) → ℕ
height_of s k = get_or s.slots k 0

-- LABELS
-- a slot is used if some site has it
unfoldable pub is_used : (slot : ℕ) → (ties : List ℕ) → Bool
is_used k [] = false
is_used k (j ∷ js) = eqb j k || is_used k js

-- the used slots from a slot on, among so many, rising
unfoldable pub used_from : (slot : ℕ) → ℕ → (ties : List ℕ) → List ℕ
used_from k zero js = []
used_from k (suc n) js = cond (is_used k js) (k ∷ used_from (suc k) n js) (used_from (suc k) n js)

-- the used slots of a sheet: each is one label
abbrev pub used_of : Sheet → (ties : List ℕ) → List ℕ
used_of s js = used_from 0 (length s.slots) js

-- the lesser of two numbers
abbrev pub lesser : ℕ → ℕ → ℕ
lesser a b = cond (ltb b a) b a

-- the least x among the sites of a slot, or the width if it has none
unfoldable pub least_x : (slot width : ℕ) → List Tied → ℕ
least_x k w [] = w
least_x k w (t ∷ ts) = cond (eqb t.slot k) (lesser t.site.x (least_x k w ts)) (least_x k w ts)

-- a label's left end: the least x among its sites on a one-sided sheet, 0 on a two-sided one
abbrev pub left_end : Sheet → (ties : List ℕ) → (slot : ℕ) → ℕ
left_end s js k = cond s.is_two_sided 0 (least_x k s.width (tied s js))

-- RULE 1: sites that share a slot share a colour. Of two sites, of one with all, of all
abbrev pub colour_kept : Tied → Tied → Bool
colour_kept t u = not (eqb t.slot u.slot) || eqb t.site.colour u.site.colour

abbrev pub colours_of : List Tied → Tied → Bool
colours_of ts t = all (colour_kept t) ts

abbrev pub colours_kept : List Tied → Bool
colours_kept ts = all (colours_of ts) ts

-- RULE 2: no colour uses more slots than its bound
-- the slots that a colour's sites have
unfoldable pub slots_of : (colour : ℕ) → List Tied → List ℕ
slots_of c [] = []
slots_of c (t ∷ ts) = cond (eqb t.site.colour c) (t.slot ∷ slots_of c ts) (slots_of c ts)

-- of the colours from a number on; 255 means unbounded
unfoldable pub bounds_kept : Sheet → (ties : List ℕ) → (colour : ℕ) → List Colour → Bool
bounds_kept s js c [] = true
bounds_kept s js c (k ∷ ks) =
    (eqb k.bound unbounded || leb (length (used_of s (slots_of c (tied s js)))) k.bound) && bounds_kept s js (suc c) ks

-- RULE 3: any two used slots are at least D apart in height
-- two labels, by slot and colour, are far enough apart
abbrev pub is_far : Sheet → (slot colour other its : ℕ) → Bool
is_far s j c k d = far_by s.gap (height_of s j) (height_of s k)

-- the labels of two sites, of one site and all, of all
abbrev pub gap_kept : Sheet → Tied → Tied → Bool
gap_kept s t u = eqb t.slot u.slot || is_far s t.slot t.site.colour u.slot u.site.colour

abbrev pub gaps_of : Sheet → List Tied → Tied → Bool
gaps_of s ts t = all (gap_kept s t) ts

abbrev pub gaps_kept : Sheet → List Tied → Bool
gaps_kept s ts = all (gaps_of s ts) ts

-- RULE 4: no vertical shares a point with the backbone of another label, left end and right end included
-- a height lies between two, ends included
abbrev pub is_between : (low high h : ℕ) → Bool
is_between a b h = leb a h && leb h b

-- the vertical from a site's y to the height of its backbone, both ends included, has a point at this height
abbrev pub vertical_has : (y end h : ℕ) → Bool
vertical_has y e h = is_between (lesser y e) (cond (ltb y e) e y) h

-- a backbone from this left end to W has a point at x; no site's x is above W
abbrev pub reaches : (left x : ℕ) → Bool
reaches e x = leb e x

-- a site's vertical misses the backbone at a slot from a left end on, or the slot is the site's own
abbrev pub misses_from : Sheet → Tied → (slot left : ℕ) → Bool
misses_from s t k e =
    eqb t.slot k || not (reaches e t.site.x && vertical_has t.site.y (height_of s t.slot) (height_of s k))

-- a site and a label, a site and all labels
abbrev pub misses : Sheet → (ties : List ℕ) → Tied → (slot : ℕ) → Bool
misses s js t k = misses_from s t k (left_end s js k)

abbrev pub misses_all : Sheet → (ties : List ℕ) → Tied → Bool
misses_all s js t = all (misses s js t) (used_of s js)

-- RULE 5: a backbone lies at least D in height from every site of another label whose x is at or right of its left end, or left of it
-- by less than D. A two-sided sheet's left ends are 0, so every site counts there
-- a site at x is counted against a label with this left end
abbrev pub counts : Sheet → (left x : ℕ) → Bool
counts s e x = counts_by s.gap e x

-- the backbone at a slot lies at least D in height from a site of height y
abbrev pub is_clear : Sheet → (slot y : ℕ) → Bool
is_clear s k y = clear_by s.gap (height_of s k) y

-- the backbone at a slot from a left end on lies clear of a site, or the slot is the site's own
abbrev pub clears_from : Sheet → Tied → (slot left : ℕ) → Bool
clears_from s t k e = eqb t.slot k || not (counts s e t.site.x) || is_clear s k t.site.y

-- a site and a label, a site and all labels
abbrev pub clears : Sheet → (ties : List ℕ) → Tied → (slot : ℕ) → Bool
clears s js t k = clears_from s t k (left_end s js k)

abbrev pub clears_all : Sheet → (ties : List ℕ) → Tied → Bool
clears_all s js t = all (clears s js t) (used_of s js)

-- RULE 6: count and length
-- the count: the number of used slots
abbrev pub count_of : Sheet → (ties : List ℕ) → ℕ
count_of s js = length (used_of s js)

-- the sum of W less the left end over used slots
unfoldable pub backbones : Sheet → (ties used : List ℕ) → ℕ
backbones s js [] = 0
backbones s js (k ∷ ks) = (s.width - left_end s js k) + backbones s js ks

-- a site's share of the length
abbrev pub site_share : Sheet → (height y : ℕ) → ℕ
site_share s h y = share_by s.charge h y

-- the sum of the sites' shares
unfoldable pub drops : Sheet → List Tied → ℕ
drops s [] = 0
drops s (t ∷ ts) = site_share s (height_of s t.slot) t.site.y + drops s ts

-- the length
abbrev pub length_of : Sheet → (ties : List ℕ) → ℕ
length_of s js = backbones s js (used_of s js) + drops s (tied s js)

-- the least broken rule of 1 to 5, or 0
abbrev pub broken_in : Sheet → (ties : List ℕ) → ℕ
broken_in s js =
    cond (not (colours_kept (tied s js))) 1
    (cond (not (bounds_kept s js 0 s.colours)) 2
    (cond (not (gaps_kept s (tied s js))) 3
    (cond (not (all (misses_all s js) (tied s js))) 4 (cond (not (all (clears_all s js) (tied s js))) 5 0))))

-- LAYOUTS AS WORDS
-- a tie: a word of kind 9, bits 7 to 0 its slot; for each site in sheet order one
abbrev pub tie_word : (slot : ℕ) → ℕ
tie_word k = 9 * kind_top + k

unfoldable pub tie_words : (ties : List ℕ) → List ℕ
tie_words [] = []
tie_words (k ∷ ks) = tie_word k ∷ tie_words ks

-- a layout's first word: kind 8, bits 27 to 21 the count and bits 20 to 0 the length; then the ties
abbrev pub first_word : (count size : ℕ) → ℕ
first_word c l = 8 * kind_top + c * length_top + l

abbrev pub layout_words : (count size : ℕ) → (ties : List ℕ) → List ℕ
layout_words c l js = first_word c l ∷ tie_words js

-- the labels and the length that a layout states
abbrev pub stated_count : (words : List ℕ) → ℕ
stated_count ws = bits (get_or ws 0 0) 21 7

abbrev pub stated_length : (words : List ℕ) → ℕ
stated_length ws = bits (get_or ws 0 0) 0 21

-- the slots in words of kind 9
unfoldable pub ties_in : (words : List ℕ) → List ℕ
ties_in [] = []
ties_in (w ∷ ws) = bits w 0 8 ∷ ties_in ws

-- the place of a layout's first tie
abbrev pub ties_at : ℕ
ties_at = 1

-- a layout's words from there on, and the ties in them
abbrev pub layout_body : (words : List ℕ) → List ℕ
layout_body ws = drop ties_at ws

abbrev pub layout_ties : (words : List ℕ) → List ℕ
layout_ties ws = ties_in (layout_body ws)

-- a word of kind 9 without a spare bit, its slot below m
abbrev pub is_tie : Sheet → (word : ℕ) → Bool
is_tie s w = eqb (kind_of w) 9 && eqb (bits w 8 20) 0 && ltb (bits w 0 8) (length s.slots)

-- the number of a layout's words: n + 1
abbrev pub words_for : Sheet → ℕ
words_for s = length s.sites + ties_at

-- a layout of a sheet, whoever wrote it: one word of kind 8, then one of kind 9 for each site
abbrev pub is_layout : Sheet → (words : List ℕ) → Bool
is_layout s ws =
    eqb (length ws) (words_for s) && eqb (kind_of (get_or ws 0 0)) 8 && all (is_tie s) (layout_body ws)

-- the least broken rule of a layout, or 0
abbrev pub broken_by : Sheet → (words : List ℕ) → ℕ
broken_by s ws =
    cond (not (eqb (broken_in s (layout_ties ws)) 0)) (broken_in s (layout_ties ws))
    (cond (eqb (stated_count ws) (count_of s (layout_ties ws)) && eqb (stated_length ws) (length_of s (layout_ties ws))) 0 6)

-- a lawful layout: it obeys rules 1 to 6
abbrev pub is_lawful : Sheet → (words : List ℕ) → Bool
is_lawful s ws = is_layout s ws && eqb (broken_by s ws) 0

-- WHICH COMES FIRST
-- the least rank from a number on, below another: the next site by rising x
unfoldable pub next_rank : (after best : ℕ) → List Tied → ℕ
next_rank a b [] = b
next_rank a b (t ∷ ts) = cond (ltb a (rank_of t.site + 1) && ltb (rank_of t.site) b) (next_rank a (rank_of t.site) ts) (next_rank a b ts)

-- the slot of the site that has this rank
unfoldable pub slot_at : (x : ℕ) → List Tied → ℕ
slot_at x [] = 0
slot_at x (t ∷ ts) = cond (eqb (rank_of t.site) x) t.slot (slot_at x ts)

-- the slots of so many sites by rising x, from a rank on
unfoldable pub by_rank : ℕ → (from : ℕ) → List Tied → List ℕ
by_rank zero a ts = []
by_rank (suc n) a ts = slot_at (next_rank a rank_top ts) ts ∷ by_rank n (next_rank a rank_top ts + 1) ts

-- the sites' slots, the sites taken by rising x
abbrev pub slots_by_rank : Sheet → (ties : List ℕ) → List ℕ
slots_by_rank s js = by_rank (length s.sites) 0 (tied s js)

-- the lower slot number at the first site where they differ
unfoldable pub comes_first : List ℕ → List ℕ → Bool
comes_first [] ys = false
comes_first (x ∷ xs) [] = false
comes_first (x ∷ xs) (y ∷ ys) = ltb x y || (eqb x y && comes_first xs ys)

-- the number that the aim prefers lower first, and the other: fewest the count, shortest the length
abbrev pub first_number : Sheet → (ties : List ℕ) → ℕ
first_number s js = cond s.is_shortest (length_of s js) (count_of s js)

abbrev pub second_number : Sheet → (ties : List ℕ) → ℕ
second_number s js = cond s.is_shortest (count_of s js) (length_of s js)

-- the aim prefers the one, or they are equals and it comes first
abbrev pub is_better : Sheet → (one other : List ℕ) → Bool
is_better s js ks =
    ltb (first_number s js) (first_number s ks) ||
    (eqb (first_number s js) (first_number s ks) &&
    (ltb (second_number s js) (second_number s ks) ||
    (eqb (second_number s js) (second_number s ks) && comes_first (slots_by_rank s js) (slots_by_rank s ks))))

-- THE ANSWER: the best of all ties whatsoever that obey rules 1 to 5
-- the better of two, where there may be none
abbrev pub better_of : Sheet → Option (List ℕ) → Option (List ℕ) → Option (List ℕ)
better_of s none y = y
better_of s (some a) none = some a
better_of s (some a) (some b) = some (cond (is_better s b a) b a)

-- the best over the next site's slots: from a slot on, so many
unfoldable pub best_over : (List ℕ → Option (List ℕ)) → Sheet → (slot : ℕ) → ℕ → (ties : List ℕ) → Option (List ℕ)
best_over f s k zero js = none
best_over f s k (suc n) js = better_of s (f (js ++ (k ∷ []))) (best_over f s (suc k) n js)

-- the best of all ties that go on from these by so many sites
unfoldable pub best_from : ℕ → Sheet → (ties : List ℕ) → Option (List ℕ)
best_from zero s js = cond (eqb (broken_in s js) 0) (some js) none
best_from (suc n) s js = best_over (best_from n s) s 0 (length s.slots) js

-- the best ties of a sheet, or none
abbrev pub best : Sheet → Option (List ℕ)
best s = best_from (length s.sites) s []

-- ties as a layout that states its count and its length
abbrev pub answer_of : Sheet → (ties : List ℕ) → List ℕ
answer_of s js = layout_words (count_of s js) (length_of s js) js

abbrev pub answer_by : Sheet → Option (List ℕ) → List ℕ
answer_by s none = []
answer_by s (some js) = answer_of s js

-- a sheet's answer in words
abbrev pub answer : Sheet → List ℕ
answer s = answer_by s (best s)

-- STORED SHEETS: a sheet followed by a layout, which begins at the first word of kind 8
-- the words before the first of kind 8: all, if there is none
unfoldable pub sheet_part : List ℕ → List ℕ
sheet_part [] = []
sheet_part (w ∷ ws) = cond (eqb (kind_of w) 8) [] (w ∷ sheet_part ws)

-- the words from the first of kind 8 on
abbrev pub layout_part : List ℕ → List ℕ
layout_part ws = drop (length (sheet_part ws)) ws

-- the judge's refusal: 1 to 7 on the words before the first of kind 8; then 11, what follows is not a layout of that sheet; or 0
abbrev pub judge_refusals : (words : List ℕ) → List Refusal
judge_refusals ws = sheet_refusals (sheet_part ws) ++ (unless (is_layout (sheet_in (sheet_part ws)) (layout_part ws)) 11 ∷ [])

abbrev pub judge_fault : (words : List ℕ) → ℕ
judge_fault ws = given (judge_refusals ws)

-- the judge's verdict where it refuses nothing: the least broken rule, or 0
abbrev pub judged : (words : List ℕ) → ℕ
judged ws = broken_by (sheet_in (sheet_part ws)) (layout_part ws)

-- the refusal of a tool over lawful stored sheets: the judge's; then 13, its verdict isn't 0; or 0
abbrev pub stored_refusals : (words : List ℕ) → List Refusal
stored_refusals ws = judge_refusals ws ++ (unless (eqb (judged ws) 0) 13 ∷ [])

abbrev pub stored_fault : (words : List ℕ) → ℕ
stored_fault ws = given (stored_refusals ws)
