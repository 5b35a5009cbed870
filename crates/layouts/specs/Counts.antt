-- What is promised of the count that the judge compares with a colour's bound (document 02, "The judge's spare list"): a statement about the set of
-- slots that the colour's sites have, not about the loop. Assumes nothing: these are definitions; proofs/Counts has the proof.
use Rattle.std.specs.Prelude.{◌≡◌, ◌↔◌, List, [], ◌∷◌, ◌++◌, ℕ, ◌+◌, length, take, drop}
use Rattle.lists.specs.Number.{NumberOf}
use Rattle.sheet.specs.Sheet.{sheet_in}
use Rattle.labelling.specs.Layout.{layout_body, layout_ties, layout_words, sheet_part, layout_part, judge_fault}
use Rattle.labelling.specs.Promise.{a, JudgedAs}
use Rattle.labelling.specs.Slots.{ColourHas}
use Rattle.decoding.specs.Decoding.{numbers_by, site_colours_in}
use Rattle.layouts.specs.declared.labels.Among.TheVariants.{Of}
use Rattle.layouts.specs.Model.{count_on}

-- THE COUNT of a colour's labels: what `labels_of` gives and `bound_kept` compares, by the contract of each, on the colours that the sheet of a
-- stored list of words is read into and on the words of its ties
abbrev pub labels_compared : (stored : List ℕ) → (colour : ℕ) → ℕ
labels_compared ws c =
    count_on (Of c) (site_colours_in (numbers_by (sheet_in (sheet_part ws))).site_list) (layout_ties (layout_part ws)) (length (layout_body (layout_part ws)))

-- in every list of words that the judge does not refuse it is the number of different slots that the colour's sites have, and no other number is
abbrev pub SlotsCounted : Type 0
SlotsCounted =
    (ws : List ℕ) → judge_fault ws ≡ 0 → (c n : ℕ) →
    (n ≡ labels_compared ws c) ↔ NumberOf (ColourHas (sheet_in (sheet_part ws)) (layout_ties (layout_part ws)) c) n

-- EXAMPLES: document 01's sheet A with a bound for its colour 0, which has the first two of the three sites. Both on slot 0 they have one slot, which
-- bound 1 allows; on slots 0 and 1 they have two, which it forbids and bound 2 allows
abbrev pub bounded_a : (bound : ℕ) → (layout : List ℕ) → List ℕ
bounded_a b ls = take 4 a ++ ((805306368 + b) ∷ drop 5 a) ++ ls

abbrev pub one_slot : List ℕ
one_slot = layout_words 2 19 (0 ∷ 0 ∷ 2 ∷ [])

abbrev pub two_slots : List ℕ
two_slots = layout_words 3 18 (0 ∷ 1 ∷ 2 ∷ [])

abbrev pub CountExamples : Type 0
CountExamples =
    (labels_compared (bounded_a 1 one_slot) 0 ≡ 1) × (labels_compared (bounded_a 1 two_slots) 0 ≡ 2) × (labels_compared (bounded_a 2 two_slots) 0 ≡ 2) ×
    JudgedAs (bounded_a 1 one_slot) 0 × JudgedAs (bounded_a 1 two_slots) 2 × JudgedAs (bounded_a 2 two_slots) 0
