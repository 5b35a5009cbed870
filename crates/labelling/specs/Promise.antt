-- What is promised of every sheet, call and stored sheet. Each promise is a type; a proof of the type is the theorem (proofs/Kept).
-- Document 03's BestOfAll, AreasKept, JudgedSo and Examples, with what document 01 says beyond them. Assumes nothing.
use Rattle.std.specs.Prelude.{◌≡◌, ◌⊎◌, ◌↔◌, Bool, true, false, ◌&&◌, ◌||◌, not, cond, List, [], ◌∷◌, ◌++◌, ℕ, ◌+◌, ◌*◌, ◌≤◌, ◌<◌, ltb, eqb, length, get_or, take, drop, replicate}
use Rattle.std.proofs.Math.Option.{none, some}
use Rattle.sheet.specs.Limits.{word_top}
use Rattle.sheet.specs.Sheet.{all, kind_of, Sheet, sheet_in, sheet_fault, work_for}
use Rattle.labelling.specs.Layout.{is_layout, is_lawful, broken_by, stated_count, stated_length, slots_by_rank, comes_first, best, answer, sheet_part, layout_part, judge_fault, judged, layout_words, layout_ties, words_for}
use Rattle.labelling.specs.Lawful.{Ties, Rules, Lawful, LeastBroken, IsAnswer}
use Rattle.labelling.specs.Entry.{is_none, make_fault, make_answer, make_work}

-- numbers that are 32-bit words
unfoldable pub are_words : List ℕ → Bool
are_words [] = true
are_words (w ∷ ws) = ltb w word_top && are_words ws

-- DEMAND 3: the maker's layout is the best of all

-- the numbers that a layout states, the aim's first
abbrev pub stated_first : Sheet → (words : List ℕ) → ℕ
stated_first s ws = cond s.is_shortest (stated_length ws) (stated_count ws)

abbrev pub stated_second : Sheet → (words : List ℕ) → ℕ
stated_second s ws = cond s.is_shortest (stated_count ws) (stated_length ws)

-- two lists are equal
unfoldable pub same : List ℕ → List ℕ → Bool
same [] [] = true
same [] (y ∷ ys) = false
same (x ∷ xs) [] = false
same (x ∷ xs) (y ∷ ys) = eqb x y && same xs ys

-- another layout states more by the aim, or as much and more of the other number, or both the same and comes later
abbrev pub is_beaten : Sheet → (first other : List ℕ) → Bool
is_beaten s a b =
    ltb (stated_first s a) (stated_first s b) ||
    (eqb (stated_first s a) (stated_first s b) &&
    (ltb (stated_second s a) (stated_second s b) ||
    (eqb (stated_second s a) (stated_second s b) && comes_first (slots_by_rank s (layout_ties a)) (slots_by_rank s (layout_ties b)))))

-- an accepted one-sided sheet, with areas long enough
abbrev pub TakesSheet : (sheet work out : List ℕ) → Type 0
TakesSheet ws k o =
    (are_words ws ≡ true) × (sheet_fault ws ≡ 0) × (work_for (sheet_in ws) ≤ length k) × (words_for (sheet_in ws) ≤ length o) ×
    ((sheet_in ws).is_two_sided ≡ false)

-- the answer area's first n + 1 words, after a call
abbrev pub begun : (sheet work out : List ℕ) → List ℕ
begun ws k o = take (words_for (sheet_in ws)) (make_answer ws k o)

-- no list of words is a lawful layout; every other lawful layout is beaten by this one
abbrev pub NoneLawful : Sheet → Type 0
NoneLawful s = (b : List ℕ) → are_words b ≡ true → is_lawful s b ≡ false

abbrev pub BeatsAll : Sheet → (words : List ℕ) → Type 0
BeatsAll s a = (b : List ℕ) → are_words b ≡ true → is_lawful s b ≡ true → same b a ≡ false → is_beaten s a b ≡ true

-- 10 exactly when no list of words is a lawful layout; otherwise nothing is refused, the answer area begins with a lawful layout,
-- and every other is beaten by it
abbrev pub BestOfAll : Type 0
BestOfAll =
    (ws k o : List ℕ) → TakesSheet ws k o →
    (make_fault ws k o ≡ 10 → NoneLawful (sheet_in ws)) × (NoneLawful (sheet_in ws) → make_fault ws k o ≡ 10) ×
    (eqb (make_fault ws k o) 10 ≡ false →
    (make_fault ws k o ≡ 0) × (is_lawful (sheet_in ws) (begun ws k o) ≡ true) × BeatsAll (sheet_in ws) (begun ws k o))

-- each accepted sheet has one answer: `best` is js exactly when js is lawful and nothing lawful is better, none exactly when nothing
-- is lawful, and there are no two such js
abbrev pub OneAnswer : Type 0
OneAnswer =
    (ws : List ℕ) → sheet_fault ws ≡ 0 →
    ((js : List ℕ) → (best (sheet_in ws) ≡ some js) ↔ IsAnswer (sheet_in ws) js) ×
    ((best (sheet_in ws) ≡ none) ↔ ((js : List ℕ) → Ties (sheet_in ws) js → Rules (sheet_in ws) js → ⊥)) ×
    ((js ks : List ℕ) → IsAnswer (sheet_in ws) js → IsAnswer (sheet_in ws) ks → js ≡ ks)

-- AREAS

-- old contents of either area have no part in the result; what lies past the answer, and past the needed work words, is as before
abbrev pub ContentsUnread : Type 0
ContentsUnread =
    (ws k o l p : List ℕ) → TakesSheet ws k o → TakesSheet ws l p →
    (make_fault ws k o ≡ make_fault ws l p) × (make_fault ws k o ≡ 0 → begun ws k o ≡ begun ws l p) ×
    (drop (words_for (sheet_in ws)) (make_answer ws k o) ≡ drop (words_for (sheet_in ws)) o) ×
    (take (work_for (sheet_in ws)) (make_work ws k o) ≡ replicate (work_for (sheet_in ws)) 0) ×
    (drop (work_for (sheet_in ws)) (make_work ws k o) ≡ drop (work_for (sheet_in ws)) k)

-- on every call: 1 to 9 and 18 change neither area, 10 leaves the answer area, and no area changes its length
abbrev pub RefusedUnchanged : Type 0
RefusedUnchanged =
    (ws k o : List ℕ) →
    (0 < make_fault ws k o → (make_fault ws k o ≡ 10 → ⊥) → (make_answer ws k o ≡ o) × (make_work ws k o ≡ k)) ×
    (make_fault ws k o ≡ 10 → make_answer ws k o ≡ o) ×
    (length (make_answer ws k o) ≡ length o) × (length (make_work ws k o) ≡ length k)

abbrev pub AreasKept : Type 0
AreasKept = ContentsUnread × RefusedUnchanged

-- DEMAND 2: the judge says lawful exactly when document 01 does

-- on an accepted sheet with a layout behind it the judge refuses nothing and gives that layout's least broken rule
abbrev pub LayoutJudged : Type 0
LayoutJudged =
    (ws b : List ℕ) → are_words ws ≡ true → are_words b ≡ true → sheet_fault ws ≡ 0 → is_layout (sheet_in ws) b ≡ true →
    (judge_fault (ws ++ b) ≡ 0) × (judged (ws ++ b) ≡ broken_by (sheet_in ws) b)

-- every list falls into the words before the first of kind 8 and those from it on
abbrev pub is_eight : (word : ℕ) → Bool
is_eight w = eqb (kind_of w) 8

abbrev pub PartsFound : (words : List ℕ) → Type 0
PartsFound ws =
    (sheet_part ws ++ layout_part ws ≡ ws) × (all (λ w. not (is_eight w)) (sheet_part ws) ≡ true) ×
    ((layout_part ws ≡ []) ⊎ (is_eight (get_or (layout_part ws) 0 0) ≡ true))

-- on every list: 1 to 7 as the reader on the words before; then 11 if the rest is not a layout of that sheet; otherwise 0, and the
-- verdict is the least broken rule, or 0 when all six hold
abbrev pub EveryListJudged : Type 0
EveryListJudged =
    (ws : List ℕ) → PartsFound ws ×
    ((f : ℕ) → 0 < f → f < 8 → (judge_fault ws ≡ f) ↔ (sheet_fault (sheet_part ws) ≡ f)) ×
    ((judge_fault ws ≡ 11) ↔ ((sheet_fault (sheet_part ws) ≡ 0) × (is_layout (sheet_in (sheet_part ws)) (layout_part ws) ≡ false))) ×
    ((judge_fault ws ≡ 0) ↔ ((sheet_fault (sheet_part ws) ≡ 0) × (is_layout (sheet_in (sheet_part ws)) (layout_part ws) ≡ true))) ×
    ((judge_fault ws < 8) ⊎ (judge_fault ws ≡ 11)) ×
    (judge_fault ws ≡ 0 →
    ((k : ℕ) → 0 < k → (judged ws ≡ k) ↔ LeastBroken k (sheet_in (sheet_part ws)) (layout_part ws)) ×
    ((judged ws ≡ 0) ↔ Lawful (sheet_in (sheet_part ws)) (layout_part ws)))

abbrev pub JudgedSo : Type 0
JudgedSo = LayoutJudged × EveryListJudged

-- THE STARRED EXAMPLES of document 01

-- sheet A with a head; A itself has 0x10008008: one-sided, fewest, gap 2, width 8
abbrev pub sheet_a : (head : ℕ) → List ℕ
sheet_a h = h ∷ 536870914 ∷ 536870917 ∷ 536870920 ∷ 805306623 ∷ 1073774596 ∷ 1073840134 ∷ 805306623 ∷ 1073807365 ∷ []

abbrev pub a : List ℕ
a = sheet_a 268468232

-- A with head 0x14008008, 0x18008008, 0x1000C008 and 0x10010008; with bound 0 for colour 1; its head alone
abbrev pub shortest : List ℕ
shortest = sheet_a 335577096

abbrev pub two_sided : List ℕ
two_sided = sheet_a 402685960

abbrev pub gap_three : List ℕ
gap_three = sheet_a 268484616

abbrev pub gap_four : List ℕ
gap_four = sheet_a 268501000

abbrev pub bound_zero : List ℕ
bound_zero = take 7 a ++ (805306368 ∷ 1073807365 ∷ [])

abbrev pub head_alone : List ℕ
head_alone = 268468232 ∷ []

abbrev pub answer_to : (sheet : List ℕ) → List ℕ
answer_to ws = answer (sheet_in ws)

-- a stored sheet that the judge does not refuse, and its verdict
abbrev pub JudgedAs : (stored : List ℕ) → (rule : ℕ) → Type 0
JudgedAs ws k = (judge_fault ws ≡ 0) × (judged ws ≡ k)

-- the maker, with areas long enough and whatever they hold: it gives a layout, or 10
abbrev pub LaidOut : (sheet layout : List ℕ) → Type 0
LaidOut ws b =
    (k o : List ℕ) → work_for (sheet_in ws) ≤ length k → words_for (sheet_in ws) ≤ length o →
    (make_fault ws k o ≡ 0) × (make_answer ws k o ≡ b ++ drop (words_for (sheet_in ws)) o)

abbrev pub TurnedDown : (sheet : List ℕ) → Type 0
TurnedDown ws = (k o : List ℕ) → work_for (sheet_in ws) ≤ length k → words_for (sheet_in ws) ≤ length o → make_fault ws k o ≡ 10

-- the maker, with any areas: a two-sided sheet is refused
abbrev pub SideEnded : (sheet : List ℕ) → Type 0
SideEnded ws = (k o : List ℕ) → make_fault ws k o ≡ 18

-- the table of the definitions, as document 03 has it, but for A with gap 3, which document 02's clearance at the tip leaves without a layout
abbrev pub ExamplesDefined : Type 0
ExamplesDefined =
    (sheet_fault a ≡ 0) × (answer_to a ≡ layout_words 2 19 (0 ∷ 0 ∷ 2 ∷ [])) × (get_or (answer_to a) 0 0 ≡ 2151677971) ×
    (answer_to shortest ≡ layout_words 3 18 (0 ∷ 1 ∷ 2 ∷ [])) × (answer_to two_sided ≡ layout_words 2 25 (0 ∷ 0 ∷ 2 ∷ [])) ×
    (is_none (best (sheet_in gap_three)) ≡ true) × (is_none (best (sheet_in gap_four)) ≡ true) × (is_none (best (sheet_in bound_zero)) ≡ true) ×
    (answer_to head_alone ≡ layout_words 0 0 []) × (judged (a ++ layout_words 2 19 (0 ∷ 0 ∷ 1 ∷ [])) ≡ 4) ×
    (judged (a ++ layout_words 2 19 (0 ∷ 0 ∷ 0 ∷ [])) ≡ 1) × (judged (a ++ layout_words 2 19 (2 ∷ 2 ∷ 0 ∷ [])) ≡ 0) ×
    (judged (a ++ layout_words 2 18 (2 ∷ 2 ∷ 0 ∷ [])) ≡ 6)

-- of the calls; slots 2, 2, 0 come later for A, which needs 900 work words and 4 answer words
abbrev pub ExamplesCalled : Type 0
ExamplesCalled =
    LaidOut a (layout_words 2 19 (0 ∷ 0 ∷ 2 ∷ [])) × LaidOut shortest (layout_words 3 18 (0 ∷ 1 ∷ 2 ∷ [])) ×
    SideEnded two_sided × TurnedDown gap_three × TurnedDown gap_four × TurnedDown bound_zero × LaidOut head_alone (layout_words 0 0 []) ×
    JudgedAs (a ++ layout_words 2 19 (0 ∷ 0 ∷ 1 ∷ [])) 4 × JudgedAs (a ++ layout_words 2 19 (0 ∷ 0 ∷ 0 ∷ [])) 1 ×
    JudgedAs (a ++ layout_words 2 19 (2 ∷ 2 ∷ 0 ∷ [])) 0 × JudgedAs (a ++ layout_words 2 18 (2 ∷ 2 ∷ 0 ∷ [])) 6 ×
    (is_beaten (sheet_in a) (answer_to a) (layout_words 2 19 (2 ∷ 2 ∷ 0 ∷ [])) ≡ true) × (work_for (sheet_in a) ≡ 900) ×
    ((k o : List ℕ) → length k ≡ 899 → make_fault a k o ≡ 8) × ((k o : List ℕ) → 900 ≤ length k → length o ≡ 3 → make_fault a k o ≡ 9)

abbrev pub Examples : Type 0
Examples = ExamplesDefined × ExamplesCalled

-- EXAMPLES OF A CHARGE (document 02, "Bends cost something"): shortest, gap 1, width 10, with some words after the head; slots 4, 5 and 6; one
-- colour, unbounded, with sites (2,4) and (4,6). One label at 4 or at 6 has one drop, of 2, one at 5 has two, of 1 each; two labels have none
abbrev pub bends : (charges : List ℕ) → List ℕ
bends cs = 335560714 ∷ cs ++ (536870916 ∷ 536870917 ∷ 536870918 ∷ 805306623 ∷ 1073774596 ∷ 1073807366 ∷ [])

-- a charge as a word
abbrev pub charge_word : (charge : ℕ) → ℕ
charge_word c = 1342177280 + c

-- with no charge word, or one of 0, one label of length 8 + 2 is the shortest; with 3 it still is, 8 + 2 + 3; with 5 it would be 15, and two
-- labels, 8 + 6, are shorter
abbrev pub ChargeAnswered : Type 0
ChargeAnswered =
    LaidOut (bends []) (layout_words 1 10 (0 ∷ 0 ∷ [])) × LaidOut (bends (charge_word 0 ∷ [])) (layout_words 1 10 (0 ∷ 0 ∷ [])) ×
    LaidOut (bends (charge_word 3 ∷ [])) (layout_words 1 13 (0 ∷ 0 ∷ [])) × LaidOut (bends (charge_word 5 ∷ [])) (layout_words 2 14 (0 ∷ 2 ∷ []))

-- with charge 3 the label at 4 is 13 long, not 10 (no charge) nor 16 (one for the drop of zero too); that at 5 is 8 + 2 + 6, not 13 (one charge
-- a label)
abbrev pub ChargeJudged : Type 0
ChargeJudged =
    JudgedAs (bends (charge_word 3 ∷ []) ++ layout_words 1 13 (0 ∷ 0 ∷ [])) 0 × JudgedAs (bends (charge_word 3 ∷ []) ++ layout_words 1 10 (0 ∷ 0 ∷ [])) 6 ×
    JudgedAs (bends (charge_word 3 ∷ []) ++ layout_words 1 16 (0 ∷ 0 ∷ [])) 6 × JudgedAs (bends (charge_word 3 ∷ []) ++ layout_words 1 16 (1 ∷ 1 ∷ [])) 0 ×
    JudgedAs (bends (charge_word 3 ∷ []) ++ layout_words 1 13 (1 ∷ 1 ∷ [])) 6

-- twice, after a slot, after all sites, or with bit 14 or bit 27 set: 2; before the head: 1
abbrev pub ChargeRefused : Type 0
ChargeRefused =
    (sheet_fault (bends (charge_word 3 ∷ charge_word 3 ∷ [])) ≡ 2) × (sheet_fault (bends (536870915 ∷ charge_word 3 ∷ [])) ≡ 2) ×
    (sheet_fault (bends [] ++ (charge_word 3 ∷ [])) ≡ 2) × (sheet_fault (bends (charge_word 16384 ∷ [])) ≡ 2) ×
    (sheet_fault (bends (charge_word 134217728 ∷ [])) ≡ 2) × (sheet_fault (charge_word 3 ∷ bends []) ≡ 1)

abbrev pub ChargeExamples : Type 0
ChargeExamples = ChargeAnswered × ChargeJudged × ChargeRefused

-- EXAMPLES OF A TIP (document 02, "Foreign bolts at the tip"): with some head; slots 1, 8 and 11; a colour, unbounded, with the site p at
-- (x, y), another with (4,5) and (5,7); or all three sites of one colour
abbrev pub beside_p : (head x y : ℕ) → (colour : List ℕ) → List ℕ
beside_p h x y cs =
    h ∷ 536870913 ∷ 536870920 ∷ 536870923 ∷ 805306623 ∷ (1073741824 + x * 16384 + y) ∷ cs ++ (1073807365 ∷ 1073823751 ∷ [])

abbrev pub beside : (head x y : ℕ) → List ℕ
beside h x y = beside_p h x y (805306623 ∷ [])

abbrev pub beside_own : (head x y : ℕ) → List ℕ
beside_own h x y = beside_p h x y []

-- gap 2, width 8: fewest, shortest
abbrev pub fewest_head : ℕ
fewest_head = 268468232

abbrev pub shortest_head : ℕ
shortest_head = 335577096

-- p has the slot at 11, the others have that at 8: a tip at (4,8). With p at (3,8) or (3,9) it is not lawful, nor where all are of one colour;
-- with p at (2,8), two units left, or at (3,10), two units below, it is. A site of the label itself does not count
abbrev pub TipJudged : Type 0
TipJudged =
    JudgedAs (beside fewest_head 3 8 ++ layout_words 2 16 (2 ∷ 1 ∷ 1 ∷ [])) 5 × JudgedAs (beside fewest_head 2 8 ++ layout_words 2 17 (2 ∷ 1 ∷ 1 ∷ [])) 0 ×
    JudgedAs (beside fewest_head 3 9 ++ layout_words 2 15 (2 ∷ 1 ∷ 1 ∷ [])) 5 × JudgedAs (beside fewest_head 3 10 ++ layout_words 2 14 (2 ∷ 1 ∷ 1 ∷ [])) 0 ×
    JudgedAs (beside_own fewest_head 3 8 ++ layout_words 2 16 (2 ∷ 1 ∷ 1 ∷ [])) 5 × JudgedAs (beside_own fewest_head 3 8 ++ layout_words 1 9 (1 ∷ 1 ∷ 1 ∷ [])) 0

-- where that layout is lawful it is the best. Where not, the fewest labels are 22 long, with the others at 1; the shortest has them at 1 and at 8:
-- a tip at (5,8), two units right of p
abbrev pub TipAnswered : Type 0
TipAnswered =
    LaidOut (beside fewest_head 2 8) (layout_words 2 17 (2 ∷ 1 ∷ 1 ∷ [])) × LaidOut (beside fewest_head 3 8) (layout_words 2 22 (2 ∷ 0 ∷ 0 ∷ [])) ×
    LaidOut (beside shortest_head 3 8) (layout_words 3 20 (2 ∷ 0 ∷ 1 ∷ []))

abbrev pub TipExamples : Type 0
TipExamples = TipJudged × TipAnswered
