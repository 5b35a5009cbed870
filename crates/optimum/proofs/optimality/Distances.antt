-- A sheet's slots keep the laws of the two distances that the rules ask for: two labels are far enough apart (rule 3), a label is clear
-- of a site (rule 5).
use Prim.Native.Nat.{ℕ, ◌<◌}
use native.Mathlib.Omega.{arith}
use lib.ListN.{length}
use Rattle.sheet.specs.Sheet.{Sheet}
use Rattle.sheet.proofs.Accepted.{Sound}
use Rattle.labelling.specs.Layout.{height_of}
use Rattle.labelling.proofs.Distances.{far-sym, far-trans, far-above, far-below, clear_above, clear-below, clear-off}
use Rattle.labelling.proofs.Members.{rise-at}
use Rattle.optimum.specs.Slots.{far_enough, sheet_slots}
use Rattle.optimum.proofs.Slots.{Good}

-- ---- A SHEET'S SLOTS keep them, by slots
pub good : (s : Sheet) → Sound s → Good (sheet_slots s)
unfolding far_enough
good s o = record {
  rising = up;
  far-sym = λ i c k d e. far-sym s.gap (height_of s i) (height_of s k) e;
  far-trans = λ i c j d k e p q l f g. far-trans s.gap (height_of s i) (height_of s j) (height_of s k) (up i j p (omega arith)) (up j k q l) f g;
  far-above = λ j c k d y p l f q. far-above s.gap (height_of s j) (height_of s k) y (up j k p l) q f;
  far-below = λ j c k d y p l f q. far-below s.gap (height_of s j) (height_of s k) y (up k j p l) q f;
  clear_above = λ j k y p l q f. clear_above s.gap (height_of s j) (height_of s k) y (up j k p l) q f;
  clear-below = λ j k y p l q f. clear-below s.gap (height_of s j) (height_of s k) y (up k j p l) q f;
  clear-off = λ k y f e. clear-off s.gap (height_of s k) y o.gapped f e;
}
  where
    up : (j k : ℕ) → j < k → k < length s.slots → height_of s j < height_of s k
    up j k p l = rise-at s.slots o.rise j k p l
