-- The model on document 01's starred examples, and on sheets on which a misreading gives another answer.
use Rattle.std.specs.Prelude.{◌≡◌, true, List, [], ◌∷◌, ℕ}
use Rattle.std.proofs.Math.Option.{none, some}
use Rattle.sheet.specs.Sheet.{sheet_in}
use Rattle.labelling.specs.Layout.{broken_in, is_better}
use Rattle.labelling.specs.Promise.{a, shortest, gap_three, gap_four, bound_zero, head_alone, bends, charge_word, beside, fewest_head}
use Rattle.optimum.specs.OneSided.{one_sided}

-- the model's answer, and a layout that a misreading gives and rule r forbids
abbrev pub Forbidden : (words right wrong : List ℕ) → (rule : ℕ) → Type 0
Forbidden ws js ks r = (one_sided (sheet_in ws) ≡ some js) × (broken_in (sheet_in ws) ks ≡ r)

-- the model's answer, and a layout that a misreading gives, lawful and worse, or equal and later
abbrev pub Worse : (words right wrong : List ℕ) → Type 0
Worse ws js ks = (one_sided (sheet_in ws) ≡ some js) × (broken_in (sheet_in ws) ks ≡ 0) × (is_better (sheet_in ws) js ks ≡ true)

-- lengths rounded down to tens at each cut: shortest, gap 1, width 20, slots 0 5 20, unbounded, sites (0,20); (10,6). Right: 31, wrong: 36
abbrev pub rounded_at_cuts : List ℕ
rounded_at_cuts = 335560724 ∷ 536870912 ∷ 536870917 ∷ 536870932 ∷ 805306623 ∷ 1073741844 ∷ 805306623 ∷ 1073905670 ∷ []

-- lengths packed in 16 bits: shortest, gap 1, width 16383, slots 5000 16383, unbounded, sites (0,0) (2,0) (1,0). Right: 31383, wrong: 70530
abbrev pub packed_at_cuts : List ℕ
packed_at_cuts = 335577087 ∷ 536875912 ∷ 536887295 ∷ 805306623 ∷ 1073741824 ∷ 1073774592 ∷ 1073758208 ∷ []

-- rule 5 only against sites of other colours: shortest, gap 3, width 4, slots 0 3, one colour of bound 2, sites (2,6) (4,1)
abbrev pub other_colours_only : List ℕ
other_colours_only = 335593476 ∷ 536870912 ∷ 536870915 ∷ 805306370 ∷ 1073774598 ∷ 1073807361 ∷ []

-- a backbone through a site on its own row: fewest, gap 1, width 4, slots 2 4, bounds 1 and 2, sites (0,0); (2,2)
abbrev pub through_a_site : List ℕ
through_a_site = 268451844 ∷ 536870914 ∷ 536870916 ∷ 805306369 ∷ 1073741824 ∷ 805306370 ∷ 1073774594 ∷ []

-- the leftmost site tied well, the rest to the nearest: fewest, gap 2, width 4, slots 4 6, bound 2, sites (4,6) (1,4)
abbrev pub rest_to_nearest : List ℕ
rest_to_nearest = 268468228 ∷ 536870916 ∷ 536870918 ∷ 805306370 ∷ 1073807366 ∷ 1073758212 ∷ []

-- the bound given to the upper part first: shortest, gap 2, width 5, slots 0 5 6 7, bound 2, sites (1,5) (5,8) (3,1). Right: 9, wrong: 10
abbrev pub upper_part_first : List ℕ
upper_part_first = 335577093 ∷ 536870912 ∷ 536870917 ∷ 536870918 ∷ 536870919 ∷ 805306370 ∷ 1073758213 ∷ 1073823752 ∷ 1073790977 ∷ []

-- each part settled by itself, with the first way to split the bound that is best, and equals on both sides: shortest, gap 1,
-- width 4, slots 1 to 5, bound 2, sites (0,2) (1,2) (2,5) (4,0)
abbrev pub equals_on_both_sides : List ℕ
equals_on_both_sides =
    335560708 ∷ 536870913 ∷ 536870914 ∷ 536870915 ∷ 536870916 ∷ 536870917 ∷ 805306370 ∷ 1073741826 ∷ 1073758210 ∷ 1073774597 ∷ 1073807360 ∷ []

-- a backbone of the right colour joined wherever it may be: shortest, gap 2, width 4, slots 0 5, unbounded, sites (0,0) (3,5). Right: 5, wrong: 9
abbrev pub joined_always : List ℕ
joined_always = 335577092 ∷ 536870912 ∷ 536870917 ∷ 805306623 ∷ 1073741824 ∷ 1073790981 ∷ []

-- document 01's misreadings in its order, then what it says of joining, and of the bound that two parts share; then document 02's charge left out
-- (bends with charge 5: right 14, wrong 15, by the lengths with charges), and its clearance at the tip
abbrev pub Misreadings : Type 0
Misreadings =
    Worse rounded_at_cuts (2 ∷ 1 ∷ []) (2 ∷ 0 ∷ []) × Worse packed_at_cuts (0 ∷ 0 ∷ 0 ∷ []) (1 ∷ 0 ∷ 1 ∷ []) ×
    Forbidden other_colours_only (1 ∷ 1 ∷ []) (1 ∷ 0 ∷ []) 5 × Forbidden through_a_site (1 ∷ 0 ∷ []) (0 ∷ 1 ∷ []) 4 ×
    Worse rest_to_nearest (0 ∷ 0 ∷ []) (1 ∷ 0 ∷ []) × Worse upper_part_first (1 ∷ 3 ∷ 1 ∷ []) (1 ∷ 1 ∷ 0 ∷ []) ×
    Worse joined_always (0 ∷ 1 ∷ []) (0 ∷ 0 ∷ []) × Worse equals_on_both_sides (1 ∷ 1 ∷ 1 ∷ 0 ∷ []) (1 ∷ 1 ∷ 4 ∷ 1 ∷ []) ×
    Worse (bends (charge_word 5 ∷ [])) (0 ∷ 2 ∷ []) (0 ∷ 0 ∷ []) × Forbidden (beside fewest_head 3 8) (2 ∷ 0 ∷ 0 ∷ []) (2 ∷ 1 ∷ 1 ∷ []) 5

-- document 01's starred examples for the maker; on sheet A slots 2, 2, 0 come later
abbrev pub Starred : Type 0
Starred =
    Worse a (0 ∷ 0 ∷ 2 ∷ []) (2 ∷ 2 ∷ 0 ∷ []) × (one_sided (sheet_in shortest) ≡ some (0 ∷ 1 ∷ 2 ∷ [])) × (one_sided (sheet_in gap_three) ≡ none) ×
    (one_sided (sheet_in gap_four) ≡ none) × (one_sided (sheet_in bound_zero) ≡ none) × (one_sided (sheet_in head_alone) ≡ some [])
