-- THE THREE DEMANDS, each as one statement about any call that meets the contract of the reader, the layout maker or the judge; and
-- beside them what is promised of the judge's count, and of a call of the twin tool, of the page and of a stroke.
-- What a demand concludes of one call is a record; the contracts of the C interface (crate cabi) state these records of their calls.
-- ws: the sheet's words (the stored sheet's, for the judge, the twin, the page and a stroke), ws' after the call; k, o: work and answer area
-- (o: the page's bytes), k', o' after it; i: a stroke's place; r: what it returns.
-- Assumes nothing: these are definitions; the proofs stand in proofs/Demands.
use Rattle.std.specs.Prelude.{◌≡◌, ◌⊎◌, ◌↔◌, true, false, List, ℕ, ◌≤◌, ◌<◌, length, get_or, take, drop}
use Rattle.sheet.specs.Sheet.{Sheet, sheet_in, sheet_fault, product_of, work_for}
use Rattle.labelling.specs.Layout.{words_for, is_lawful, sheet_part, layout_part, layout_ties, judge_fault}
use Rattle.labelling.specs.Lawful.{Ties, RuleOne, Rules, LayoutOf, Lawful, LeastBroken, Better}
use Rattle.labelling.specs.Entry.{Serves, cleared, make_fault, make_answer, make_work}
use Rattle.labelling.specs.Promise.{are_words, same, is_beaten, PartsFound}
use Rattle.labelling.specs.Slots.{OverBound}
use Rattle.labelling.specs.Twin.{twin_area, TwinOf, TwinOfTwin, BestNotWorse}
use Rattle.labelling.specs.Strokes.{strokes_in, no_stroke, StrokesAddUp}
use Rattle.reader.specs.declared.Sizes.{Sizes}
use Rattle.reader.specs.Read.{read_post, refused_of, eight_of}
use Rattle.layouts.specs.Counts.{SlotsCounted}
use Rattle.judge.specs.declared.Verdict.{Verdict}
use Rattle.judge.specs.Judge.{judge_post}
use Rattle.faults.specs.declared.written.Written.{Written}
use Rattle.twin.specs.Twin.{twin_post}
use Rattle.page.specs.Page.{page_size, page_post, page_area}
use Rattle.page.specs.Promise.{PageOf, PagesAddUp, ColoursShared}
use Rattle.points.specs.declared.flat.FlatStroke.{FlatStroke}
use Rattle.points.specs.Points.{PointsExact}
use Rattle.points.specs.Strokes.{flat_refusal, flat_of, IsStroke}
use Rattle.strokes.specs.Strokes.{stroke_post}

-- CALLS: what the contracts say of one call of the reader, the maker and the judge
abbrev pub WasRead : (ws : List ℕ) → Sizes → (ws' : List ℕ) → Type 0
WasRead ws r ws' = (r ≡ read_post ws) × (ws' ≡ ws)

abbrev pub WasMade : (ws k o : List ℕ) → (r : ℕ) → (k' o' : List ℕ) → Type 0
WasMade ws k o r k' o' = (r ≡ make_fault ws k o) × (k' ≡ make_work ws k o) × (o' ≡ make_answer ws k o)

abbrev pub WasJudged : (ws : List ℕ) → Verdict → (ws' : List ℕ) → Type 0
WasJudged ws r ws' = (r ≡ judge_post ws) × (ws' ≡ ws)

abbrev pub WasTwinned : (ws o : List ℕ) → Written → (o' : List ℕ) → Type 0
WasTwinned ws o r o' = (r ≡ twin_post ws o) × (o' ≡ twin_area ws o)

abbrev pub WasPaged : (ws o : List ℕ) → Written → (o' : List ℕ) → Type 0
WasPaged ws o r o' = (r ≡ page_post ws o) × (o' ≡ page_area ws o)

abbrev pub WasDrawn : (ws : List ℕ) → (i : ℕ) → FlatStroke → (ws' : List ℕ) → Type 0
WasDrawn ws i r ws' = (r ≡ flat_of (stroke_post ws i)) × (ws' ≡ ws)

-- the layout in the answer area: its first n + 1 words
abbrev pub layout_in : (ws o : List ℕ) → List ℕ
layout_in ws o = take (words_for (sheet_in ws)) o

-- LAYOUTS, as statements: a lawful one obeys rules 1 to 6
abbrev pub LawfulLayout : Sheet → (b : List ℕ) → Type 0
LawfulLayout s b = LayoutOf s b × Lawful s b

-- the sheet and the layout in a stored sheet
abbrev pub stored_sheet : (ws : List ℕ) → Sheet
stored_sheet ws = sheet_in (sheet_part ws)

-- DEMAND 1, of one call
-- what an accepted sheet's reading holds: n, m, C, P, the number of work words, and each of the eight colours
pub record Sized (s : Sheet) (r : Sizes) : Type 0 where
  pub sites : r.n ≡ length s.sites
  pub slots : r.m ≡ length s.slots
  pub colours : r.c ≡ length s.colours
  pub product : r.p ≡ product_of s.colours
  pub work : r.work ≡ work_for s
  pub eight : r.colours ≡ eight_of s.colours

-- the reader: a refusal 1 to 7 with zeros beside it, which document 01 leaves free; or 0 and the sizes. It changes nothing
pub record ServedByReader (ws : List ℕ) (r : Sizes) (ws' : List ℕ) : Type 0 where
  pub refusal : r.refusal ≡ sheet_fault ws
  pub seven : r.refusal ≤ 7
  pub zeros : 0 < r.refusal → r ≡ refused_of (sheet_fault ws)
  pub sized : r.refusal ≡ 0 → Sized (sheet_in ws) r
  pub unchanged : ws' ≡ ws

-- the maker, by its outcome: a refusal 1 to 7 as the reader's, 18, 8, 9, 10, or a layout; no area changes its length
pub record Served (ws k o : List ℕ) (r : ℕ) (k' o' : List ℕ) : Type 0 where
  pub sheet : 0 < sheet_fault ws → (r ≡ sheet_fault ws) × (k' ≡ k) × (o' ≡ o)
  pub side : sheet_fault ws ≡ 0 → (sheet_in ws).is_two_sided ≡ true → (r ≡ 18) × (k' ≡ k) × (o' ≡ o)
  pub short : sheet_fault ws ≡ 0 → (sheet_in ws).is_two_sided ≡ false → length k < work_for (sheet_in ws) → (r ≡ 8) × (k' ≡ k) × (o' ≡ o)
  pub narrow : sheet_fault ws ≡ 0 → (sheet_in ws).is_two_sided ≡ false → work_for (sheet_in ws) ≤ length k → length o < words_for (sheet_in ws) →
      (r ≡ 9) × (k' ≡ k) × (o' ≡ o)
  pub taken : Serves ws k o →
      (k' ≡ cleared ws k) × (((r ≡ 10) × (o' ≡ o)) ⊎ ((r ≡ 0) × (drop (words_for (sheet_in ws)) o' ≡ drop (words_for (sheet_in ws)) o)))
  pub lengths : (length k' ≡ length k) × (length o' ≡ length o)

-- and old contents of either area have no part in the result: whatever other areas hold that are long enough, a call gives the same
abbrev pub ContentsApart : (ws k o : List ℕ) → (r : ℕ) → (o' : List ℕ) → Type 0
ContentsApart ws k o r o' =
    Serves ws k o → (l p : List ℕ) (q : ℕ) (l' p' : List ℕ) → WasMade ws l p q l' p' → Serves ws l p →
    (r ≡ q) × (r ≡ 0 → layout_in ws o' ≡ layout_in ws p')

-- the judge, by its outcome: a refusal 1 to 7 as the reader's on the words before the first of kind 8, then 11, with rule 0 beside it,
-- which document 01 leaves free; or 0 and a rule. It changes nothing
pub record ServedByJudge (ws : List ℕ) (r : Verdict) (ws' : List ℕ) : Type 0 where
  pub sheet : 0 < sheet_fault (sheet_part ws) → (r.refusal ≡ sheet_fault (sheet_part ws)) × (r.refusal ≤ 7) × (r.rule ≡ 0)
  pub form : sheet_fault (sheet_part ws) ≡ 0 → (LayoutOf (stored_sheet ws) (layout_part ws) → ⊥) → (r.refusal ≡ 11) × (r.rule ≡ 0)
  pub judged : sheet_fault (sheet_part ws) ≡ 0 → LayoutOf (stored_sheet ws) (layout_part ws) → (r.refusal ≡ 0) × (r.rule ≤ 6)
  pub unchanged : ws' ≡ ws

-- DEMAND 1: every list of words is read, laid out and judged to a finish, whatever the areas held; what can't be served is refused
-- by its number, with the areas as document 01 fixes them; old contents have no part in the result. (That a call ends, and reads and
-- writes nothing out of bounds, is proved of every function of the code, and no statement about its results.)
pub record DemandOne : Type 0 where
  pub reader : (ws : List ℕ) (r : Sizes) (ws' : List ℕ) → WasRead ws r ws' → ServedByReader ws r ws'
  pub maker : (ws k o : List ℕ) (r : ℕ) (k' o' : List ℕ) → WasMade ws k o r k' o' → Served ws k o r k' o'
  pub contents : (ws k o : List ℕ) (r : ℕ) (k' o' : List ℕ) → WasMade ws k o r k' o' → ContentsApart ws k o r o'
  pub judge : (ws : List ℕ) (r : Verdict) (ws' : List ℕ) → WasJudged ws r ws' → ServedByJudge ws r ws'

-- DEMAND 2, of one call: the judge refuses as document 01 says, and says lawful, or the least broken rule, exactly when it is so.
-- The parts are those before and from the first word of kind 8
pub record TrueVerdict (ws : List ℕ) (r : Verdict) : Type 0 where
  pub parts : PartsFound ws
  pub sheet : (f : ℕ) → 0 < f → f < 8 → (r.refusal ≡ f) ↔ (sheet_fault (sheet_part ws) ≡ f)
  pub form : (r.refusal ≡ 11) ↔ ((sheet_fault (sheet_part ws) ≡ 0) × (LayoutOf (stored_sheet ws) (layout_part ws) → ⊥))
  pub accepted : (r.refusal ≡ 0) ↔ ((sheet_fault (sheet_part ws) ≡ 0) × LayoutOf (stored_sheet ws) (layout_part ws))
  pub rule : r.refusal ≡ 0 → (k : ℕ) → 0 < k → (r.rule ≡ k) ↔ LeastBroken k (stored_sheet ws) (layout_part ws)
  pub lawful : r.refusal ≡ 0 → (r.rule ≡ 0) ↔ Lawful (stored_sheet ws) (layout_part ws)

-- DEMAND 2: of every call of the judge
abbrev pub DemandTwo : Type 0
DemandTwo = (ws : List ℕ) (r : Verdict) (ws' : List ℕ) → WasJudged ws r ws' → TrueVerdict ws r

-- DEMAND 3, of one call on an accepted one-sided sheet with areas long enough (`Serves`; document 02, (n), ends the others): 10 exactly when no ties obey rules 1 to 5, which is when no list is
-- a lawful layout; otherwise the answer is lawful and better than every other lawful layout, by the aim, then the other number, then
-- document 01's order
pub record BestOfLawful (ws k o : List ℕ) (r : ℕ) (o' : List ℕ) : Type 0 where
  pub none : Serves ws k o → (r ≡ 10) ↔ ((js : List ℕ) → Ties (sheet_in ws) js → Rules (sheet_in ws) js → ⊥)
  pub ten : Serves ws k o → (r ≡ 10) ↔ ((b : List ℕ) → LawfulLayout (sheet_in ws) b → ⊥)
  pub zero : Serves ws k o → (r ≡ 10 → ⊥) → r ≡ 0
  pub lawful : Serves ws k o → (r ≡ 10 → ⊥) → LawfulLayout (sheet_in ws) (layout_in ws o')
  pub best : Serves ws k o → (r ≡ 10 → ⊥) → (b : List ℕ) → LawfulLayout (sheet_in ws) b → (b ≡ layout_in ws o' → ⊥) →
      Better (sheet_in ws) (layout_ties (layout_in ws o')) (layout_ties b)

-- DEMAND 3: of every call of the maker
abbrev pub DemandThree : Type 0
DemandThree = (ws k o : List ℕ) (r : ℕ) (k' o' : List ℕ) → WasMade ws k o r k' o' → BestOfLawful ws k o r o'

-- the same by document 03's tests, over lists of 32-bit words: every other lawful layout STATES more, or as much and comes later
abbrev pub DemandThreeByTests : Type 0
DemandThreeByTests =
    (ws k o : List ℕ) (r : ℕ) (k' o' : List ℕ) → WasMade ws k o r k' o' → are_words ws ≡ true → Serves ws k o →
    ((r ≡ 10) ↔ ((b : List ℕ) → are_words b ≡ true → is_lawful (sheet_in ws) b ≡ false)) ×
    ((r ≡ 10 → ⊥) →
    (r ≡ 0) × (is_lawful (sheet_in ws) (layout_in ws o') ≡ true) ×
    ((b : List ℕ) → are_words b ≡ true → is_lawful (sheet_in ws) b ≡ true → same b (layout_in ws o') ≡ false →
    is_beaten (sheet_in ws) (layout_in ws o') b ≡ true))

-- THE JUDGE'S COUNT (document 02, (e)): what it compares with a colour's bound is the number of different slots that the colour's sites have; so
-- it says 2 exactly when rule 1 holds and some colour with a bound has more different slots; and on the same words every call that meets the
-- judge's contract gives the same, however it counts
pub record CountPromised : Type 0 where
  pub counted : SlotsCounted
  pub said : (ws : List ℕ) (r : Verdict) (ws' : List ℕ) → WasJudged ws r ws' → r.refusal ≡ 0 →
      (r.rule ≡ 2) ↔ (RuleOne (stored_sheet ws) (layout_ties (layout_part ws)) × OverBound (stored_sheet ws) (layout_ties (layout_part ws)))
  pub kept : (ws : List ℕ) (r : Verdict) (ws' : List ℕ) (q : Verdict) (ws'' : List ℕ) → WasJudged ws r ws' → WasJudged ws q ws'' → r ≡ q

-- A TOOL that writes so many places into an area, over a stored sheet, of one call, by its outcome: 1 to 7 or 11 as the judge; 13, the layout
-- isn't lawful; 9, the area has fewer places; each leaves the area. Or what it writes stands in front, and Q holds of it, and what lies past
-- it is as before
pub record ServedByTool (ws : List ℕ) (size : ℕ) (Q : List ℕ → Type 0) (o : List ℕ) (r : Written) (o' : List ℕ) : Type 0 where
  pub judge : 0 < judge_fault ws → (r.refusal ≡ judge_fault ws) × (r.written ≡ 0) × (o' ≡ o)
  pub unlawful : judge_fault ws ≡ 0 → (Lawful (stored_sheet ws) (layout_part ws) → ⊥) → (r.refusal ≡ 13) × (r.written ≡ 0) × (o' ≡ o)
  pub short : judge_fault ws ≡ 0 → Lawful (stored_sheet ws) (layout_part ws) → length o < size → (r.refusal ≡ 9) × (r.written ≡ 0) × (o' ≡ o)
  pub given : judge_fault ws ≡ 0 → Lawful (stored_sheet ws) (layout_part ws) → size ≤ length o →
      (r.refusal ≡ 0) × (r.written ≡ size) × Q (take size o') × (drop size o' ≡ drop size o)
  pub kept : length o' ≡ length o

-- THE TWIN (document 02, (n)): as many words as the stored sheet has, and they are its twin
abbrev pub ServedByTwin : (ws o : List ℕ) → Written → (o' : List ℕ) → Type 0
ServedByTwin ws o r o' = ServedByTool ws (length ws) (TwinOf ws) o r o'

-- of every call; the twin of a twin is itself; and the one-sided best is never worse than the two-sided one was
pub record TwinPromised : Type 0 where
  pub served : (ws o : List ℕ) (r : Written) (o' : List ℕ) → WasTwinned ws o r o' → ServedByTwin ws o r o'
  pub again : TwinOfTwin
  pub best : BestNotWorse

-- THE PAGE (document 02, (d)): 41 bytes a line, and what a reader finds on it is true
abbrev pub ServedByPage : (ws o : List ℕ) → Written → (o' : List ℕ) → Type 0
ServedByPage ws o r o' = ServedByTool ws (page_size ws) (PageOf ws) o r o'

-- of every call; and the colour on a label's line is that of all its sites
pub record PagePromised : Type 0 where
  pub served : (ws o : List ℕ) (r : Written) (o' : List ℕ) → WasPaged ws o r o' → ServedByPage ws o r o'
  pub add-up : PagesAddUp
  pub colours : ColoursShared

-- A STROKE (document 02, (a)), of one call for that of a place, by its outcome: 1 to 7 or 11 as the judge; 13, the layout isn't lawful; 14, the
-- place is past the last stroke; zeros stand beside each. Or the stroke of that place, each float exactly an eighth of its whole number. It
-- changes nothing
pub record ServedByStrokes (ws : List ℕ) (i : ℕ) (r : FlatStroke) (ws' : List ℕ) : Type 0 where
  pub judge : 0 < judge_fault ws → r ≡ flat_refusal (judge_fault ws)
  pub unlawful : judge_fault ws ≡ 0 → (Lawful (stored_sheet ws) (layout_part ws) → ⊥) → r ≡ flat_refusal 13
  pub past : judge_fault ws ≡ 0 → Lawful (stored_sheet ws) (layout_part ws) → length (strokes_in ws) ≤ i → r ≡ flat_refusal 14
  pub given : judge_fault ws ≡ 0 → Lawful (stored_sheet ws) (layout_part ws) → i < length (strokes_in ws) →
      (r.refusal ≡ 0) × IsStroke r (get_or (strokes_in ws) i no_stroke)
  pub unchanged : ws' ≡ ws

-- of every call; the list has the labels, the drops and the length that the layout states, within the drawing; and points are exact
pub record StrokesPromised : Type 0 where
  pub served : (ws : List ℕ) (i : ℕ) (r : FlatStroke) (ws' : List ℕ) → WasDrawn ws i r ws' → ServedByStrokes ws i r ws'
  pub add-up : StrokesAddUp
  pub exact : PointsExact
