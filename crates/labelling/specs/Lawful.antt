-- Lawful layouts and the answer as document 01 words them: statements. Only what document 02 changes goes by a test of Layout, so that it
-- is said once: two labels far apart, a label clear of a site. The tests of Layout come to these (proofs/Rules,
-- Earlier and Answer). Sites and colours go by their numbers, i, j and c; k is a slot. Assumes nothing: these are definitions.
use Rattle.std.specs.Prelude.{◌≡◌, ◌⊎◌, true, List, ℕ, zero, suc, ◌-◌, ◌≤◌, ◌<◌, length, get_or}
use Rattle.sheet.specs.Limits.{unbounded}
use Rattle.sheet.specs.Sheet.{kind_of, bits, Colour, Sheet, rank_of}
use Rattle.labelling.specs.Layout.{site_at, tied, height_of, is_used, used_of, left_end, slots_of, no_colour, is_far, is_clear, count_of, length_of, stated_count, stated_length, first_number, second_number, layout_ties, words_for}

-- one tie for each site, to a slot below m
pub record Ties (s : Sheet) (js : List ℕ) : Type 0 where
  pub long : length js ≡ length s.sites
  pub low : (i : ℕ) → i < length s.sites → get_or js i 0 < length s.slots

-- 1: sites that share a slot share a colour
abbrev pub RuleOne : Sheet → (ties : List ℕ) → Type 0
RuleOne s js = (i j : ℕ) → i < length s.sites → j < length s.sites → get_or js i 0 ≡ get_or js j 0 → (site_at s i).colour ≡ (site_at s j).colour

-- 2: no colour uses more slots than its bound; 255 means unbounded
abbrev pub Bounded : Sheet → (ties : List ℕ) → (colour : ℕ) → Colour → Type 0
Bounded s js c k = (k.bound ≡ unbounded) ⊎ (length (used_of s (slots_of c (tied s js))) ≤ k.bound)

abbrev pub RuleTwo : Sheet → (ties : List ℕ) → Type 0
RuleTwo s js = (c : ℕ) → c < length s.colours → Bounded s js c (get_or s.colours c no_colour)

-- 3: any two used slots are at least D apart in height
abbrev pub RuleThree : Sheet → (ties : List ℕ) → Type 0
RuleThree s js =
    (i j : ℕ) → i < length s.sites → j < length s.sites → (get_or js i 0 ≡ get_or js j 0 → ⊥) →
    is_far s (get_or js i 0) (site_at s i).colour (get_or js j 0) (site_at s j).colour ≡ true

-- 4: no vertical shares a point with the backbone of another label, both ends of each included; the backbone at height h, the
-- vertical from a site of height y to its own backbone at height e. (The right end of a backbone is at W, and no x is above W.)
abbrev pub Miss : (h y e : ℕ) → Type 0
Miss h y e = ((h < y) × (h < e)) ⊎ ((y < h) × (e < h))

abbrev pub RuleFour : Sheet → (ties : List ℕ) → Type 0
RuleFour s js =
    (i k : ℕ) → i < length s.sites → is_used k js ≡ true → (get_or js i 0 ≡ k → ⊥) → left_end s js k ≤ (site_at s i).x →
    Miss (height_of s k) (site_at s i).y (height_of s (get_or js i 0))

-- 5: a backbone lies at least D in height from every site of another label that counts: its x is at or right of the left end, or left of
-- it by less than D
abbrev pub Counted : Sheet → (left x : ℕ) → Type 0
Counted s e x = (e ≤ x) ⊎ (e - x < s.gap)

abbrev pub RuleFive : Sheet → (ties : List ℕ) → Type 0
RuleFive s js =
    (i k : ℕ) → i < length s.sites → is_used k js ≡ true → (get_or js i 0 ≡ k → ⊥) → Counted s (left_end s js k) (site_at s i).x →
    is_clear s k (site_at s i).y ≡ true

-- 6: the count and the length that the layout's words state are those of its ties
abbrev pub RuleSix : Sheet → (words : List ℕ) → Type 0
RuleSix s b = (stated_count b ≡ count_of s (layout_ties b)) × (stated_length b ≡ length_of s (layout_ties b))

-- A LAYOUT of a sheet, whoever wrote it: one word of kind 8, then for each site a word of kind 9, its slot (bits 7 to 0) below m and no
-- spare bit (bits 27 to 8) set
pub record TieOf (s : Sheet) (w : ℕ) : Type 0 where
  pub kind : kind_of w ≡ 9
  pub spare : bits w 8 20 ≡ 0
  pub slot : bits w 0 8 < length s.slots

pub record LayoutOf (s : Sheet) (b : List ℕ) : Type 0 where
  pub long : length b ≡ words_for s
  pub first : kind_of (get_or b 0 0) ≡ 8
  pub ties : (i : ℕ) → i < length s.sites → TieOf s (get_or b (suc i) 0)

-- rules 1 to 5 of ties
pub record Rules (s : Sheet) (js : List ℕ) : Type 0 where
  pub one : RuleOne s js
  pub two : RuleTwo s js
  pub three : RuleThree s js
  pub four : RuleFour s js
  pub five : RuleFive s js

-- rules 1 to 6 of a layout in words
pub record Lawful (s : Sheet) (b : List ℕ) : Type 0 where
  pub rules : Rules s (layout_ties b)
  pub six : RuleSix s b

-- the rule of a number; there is no other, and what is not there is not broken
unfoldable pub Rule : (number : ℕ) → Sheet → (words : List ℕ) → Type 0
Rule zero s b = Unit
Rule (suc zero) s b = RuleOne s (layout_ties b)
Rule (suc (suc zero)) s b = RuleTwo s (layout_ties b)
Rule (suc (suc (suc zero))) s b = RuleThree s (layout_ties b)
Rule (suc (suc (suc (suc zero)))) s b = RuleFour s (layout_ties b)
Rule (suc (suc (suc (suc (suc zero))))) s b = RuleFive s (layout_ties b)
Rule (suc (suc (suc (suc (suc (suc zero)))))) s b = RuleSix s b
Rule (suc (suc (suc (suc (suc (suc (suc n))))))) s b = Unit

-- rule k is the least broken one
pub record LeastBroken (k : ℕ) (s : Sheet) (b : List ℕ) : Type 0 where
  pub lower : (j : ℕ) → j < k → Rule j s b
  pub broken : Rule k s b → ⊥

-- js comes before ks: at the first site, by rising x, where they differ it has the lower slot number
abbrev pub rank_at : Sheet → ℕ → ℕ
rank_at s i = rank_of (site_at s i)

pub record Earlier (s : Sheet) (js ks : List ℕ) : Type 0 where
  pub place : ℕ
  pub inside : place < length s.sites
  pub lower : get_or js place 0 < get_or ks place 0
  pub same : (i : ℕ) → i < length s.sites → rank_at s i < rank_at s place → get_or js i 0 ≡ get_or ks i 0

-- js is better: by the aim's number, then by the other, and among equals by the slots
abbrev pub Better : Sheet → (js ks : List ℕ) → Type 0
Better s js ks =
    (first_number s js < first_number s ks) ⊎
    ((first_number s js ≡ first_number s ks) × ((second_number s js < second_number s ks) ⊎ ((second_number s js ≡ second_number s ks) × Earlier s js ks)))

-- the answer: ties that obey rules 1 to 5, and none that do are better
pub record IsAnswer (s : Sheet) (js : List ℕ) : Type 0 where
  pub ties : Ties s js
  pub rules : Rules s js
  pub first : (ks : List ℕ) → Ties s ks → Rules s ks → Better s ks js → ⊥
