-- The one-sided twin of a stored sheet: document 02, "Two-sided sheets end". What the twin tool gives and leaves, each for every list
-- of words, and what is promised of it; a proof of a promise's type is the theorem (proofs/Twin). Assumes nothing: these are definitions.
use Rattle.std.specs.Prelude.{◌≡◌, ◌⊎◌, true, false, cond, List, ◌∷◌, ◌++◌, ℕ, ◌*◌, ◌-◌, ◌≤◌, ◌<◌, length, drop}
use Rattle.sheet.specs.Limits.{side_place}
use Rattle.sheet.specs.Sheet.{bits, Sheet, head_in, charge_at, sheet_in, sheet_fault}
use Rattle.labelling.specs.Layout.{length_of, first_word, stated_count, stated_length, layout_body, layout_ties, first_number, second_number, sheet_part, layout_part, judge_fault, judged}
use Rattle.labelling.specs.Tools.{tool_fault, tool_area}
use Rattle.labelling.specs.Lawful.{Ties, Rules, Lawful, IsAnswer}

-- THE TWIN
-- a sheet, one-sided
abbrev pub as_one_sided : Sheet → Sheet
as_one_sided s =
    record {
      is_two_sided = false;
      is_shortest = s.is_shortest;
      gap = s.gap;
      width = s.width;
      charge = s.charge;
      slots = s.slots;
      colours = s.colours;
      sites = s.sites;
    }

-- a head without its side bit, bit 27
abbrev pub twin_head : (head : ℕ) → ℕ
twin_head w = w - bits w 27 1 * side_place

-- a sheet's words, the head without its side bit and all else as it stands
abbrev pub twin_sheet : (sheet : List ℕ) → List ℕ
twin_sheet ws = twin_head (head_in ws) ∷ drop charge_at ws

-- a layout's words, the length that which its ties have on the one-sided sheet and all else as it stands
abbrev pub twin_layout : Sheet → (layout : List ℕ) → List ℕ
twin_layout s b = first_word (stated_count b) (length_of (as_one_sided s) (layout_ties b)) ∷ layout_body b

-- the twin of a stored two-sided sheet; any other comes back as it is
abbrev pub twin_words : (stored : List ℕ) → List ℕ
twin_words ws =
    cond (sheet_in (sheet_part ws)).is_two_sided (twin_sheet (sheet_part ws) ++ twin_layout (sheet_in (sheet_part ws)) (layout_part ws)) ws

-- THE TWIN TOOL
-- the refusal: the area must have as many words as the stored sheet
abbrev pub twin_fault : (stored out : List ℕ) → ℕ
twin_fault ws o = tool_fault ws (length ws) (length o)

-- the area afterwards
abbrev pub twin_area : (stored out : List ℕ) → List ℕ
twin_area ws o = tool_area (twin_fault ws o) (length ws) (twin_words ws) o

-- WHAT IS PROMISED
-- tw has as many words as ws; the judge refuses nothing and finds it lawful; its sheet is that of ws, one-sided; its layout has the
-- same ties, states the same count and no greater length
pub record TwinOf (ws tw : List ℕ) : Type 0 where
  pub long : length tw ≡ length ws
  pub accepted : judge_fault tw ≡ 0
  pub verdict : judged tw ≡ 0
  pub lawful : Lawful (sheet_in (sheet_part tw)) (layout_part tw)
  pub sheet : sheet_in (sheet_part tw) ≡ as_one_sided (sheet_in (sheet_part ws))
  pub ties : layout_ties (layout_part tw) ≡ layout_ties (layout_part ws)
  pub count : stated_count (layout_part tw) ≡ stated_count (layout_part ws)
  pub no_longer : stated_length (layout_part tw) ≤ stated_length (layout_part ws)

-- a lawful layout stays lawful, and neither count nor length rises; a one-sided stored sheet comes back as it is
abbrev pub TwinLawful : Type 0
TwinLawful =
    (ws : List ℕ) → judge_fault ws ≡ 0 → judged ws ≡ 0 →
    TwinOf ws (twin_words ws) × ((sheet_in (sheet_part ws)).is_two_sided ≡ false → twin_words ws ≡ ws)

-- the twin of a twin is itself
abbrev pub TwinOfTwin : Type 0
TwinOfTwin = (ws : List ℕ) → judge_fault ws ≡ 0 → judged ws ≡ 0 → twin_words (twin_words ws) ≡ twin_words ws

-- ks on a sheet are not worse than js on another: the aim's number is lower, or it is the same and the other is not greater
abbrev pub NotWorse : Sheet → (ks : List ℕ) → Sheet → (js : List ℕ) → Type 0
NotWorse t ks s js =
    (first_number t ks < first_number s js) ⊎ ((first_number t ks ≡ first_number s js) × (second_number t ks ≤ second_number s js))

-- an accepted two-sided sheet that has a lawful layout: its one-sided sheet is accepted and has an answer, and by the aim this is not
-- worse than any lawful layout of the two-sided one, so not worse than the best of these
abbrev pub BestNotWorse : Type 0
BestNotWorse =
    (ws js : List ℕ) → sheet_fault ws ≡ 0 → (sheet_in ws).is_two_sided ≡ true → Ties (sheet_in ws) js → Rules (sheet_in ws) js →
    (sheet_fault (twin_sheet ws) ≡ 0) × (sheet_in (twin_sheet ws) ≡ as_one_sided (sheet_in ws)) ×
    ((ks : List ℕ) × IsAnswer (sheet_in (twin_sheet ws)) ks × NotWorse (sheet_in (twin_sheet ws)) ks (sheet_in ws) js)
