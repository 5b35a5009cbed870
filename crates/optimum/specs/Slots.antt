-- What both tables ask of a sheet's slots, one definition each; and the places down a sheet: 0 the top edge, k + 1 slot k, m + 1 the
-- bottom edge.
use Rattle.std.specs.Prelude.{Bool, true, false, ◌||◌, ℕ, zero, suc, ◌-◌, leb, ltb, length}
use Rattle.sheet.specs.Sheet.{Sheet}
use Rattle.labelling.specs.Layout.{height_of, is_far, is_clear, site_share}

-- the slots of a sheet, and what rules 3 and 5 and the length ask of them
pub record Slots : Type 0 where
  -- how many there are; a slot's height
  pub m : ℕ
  pub height : ℕ → ℕ
  -- two labels, each by slot and colour + 1, are far enough apart; a label at a slot is clear of a site of height y
  pub far : ℕ → ℕ → ℕ → ℕ → Bool
  pub clear : ℕ → ℕ → Bool
  -- a site's share of the length, by its slot's height and its own
  pub share : ℕ → ℕ → ℕ

module _ (S : Slots) where
  open S use {m, height, far, clear}

  -- the place a stands above the height y or at it; b stands below it
  unfoldable pub over : ℕ → ℕ → Bool
  over zero y = true
  over (suc k) y = leb (height k) y

  unfoldable pub under : ℕ → ℕ → Bool
  under zero y = false
  under (suc k) y = leb m k || ltb y (height k)

  -- the edge, or the label of colour + 1 e, at a place lets a label of colour + 1 c be at slot k; is clear of the height y
  unfoldable pub far_from : ℕ → ℕ → ℕ → ℕ → Bool
  far_from zero e k c = true
  far_from (suc j) e k c = leb m j || far j e k c

  unfoldable pub clear_from : ℕ → ℕ → Bool
  clear_from zero y = true
  clear_from (suc j) y = leb m j || clear j y

-- ---- a sheet's slots

-- two labels, by slot and colour + 1, are far enough apart
unfoldable pub far_enough : Sheet → (j c k d : ℕ) → Bool
far_enough s j c k d = is_far s j (c - 1) k (d - 1)

abbrev pub sheet_slots : Sheet → Slots
sheet_slots s = record { m = length s.slots; height = height_of s; far = far_enough s; clear = is_clear s; share = site_share s }
