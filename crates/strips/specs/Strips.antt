-- The part of an instance that decides what may be done in one strip. Definitions.
use Rattle.std.specs.Prelude.{◌≡◌, Bool, true, false, cond, not, ◌&&◌, List, ℕ, suc, ◌+◌, ◌-◌, ◌<◌, ◌≤◌, leb, ltb, length, get_or}
use Rattle.optimum.specs.Slots.{Slots, far_from, clear_from}
use Rattle.optimum.specs.Strips.{Point, Strip, Instance, joins_up, joins_down}
use Rattle.optimum.specs.OneSided.{top_word, has_slot}
use Rattle.arrays.specs.declared.Measures.{Measures}
use Rattle.arrays.specs.Arrays.{turn_by}
use Rattle.arrays.specs.Given.{on_strip, instance_of}
use Rattle.strips.specs.declared.Window.{Window}
use Rattle.costs.specs.Costs.{opening_by, joining_by}
use Rattle.rows.specs.Rows.{marked_by}

-- radices and draws have no part in what is decided on one strip
abbrev pub instance_on : Measures → (heights bounds : List ℕ) → Instance
instance_on q hs bs = instance_of (on_strip q hs bs)

-- of what `opens` asks: both ends of the strip are far enough from slot k; and that which does not turn on the slot
unfoldable pub gap_left : Slots → Strip → Point → ℕ → Bool
gap_left S p s k = far_from S p.a p.ca k (suc s.c) && far_from S p.b p.cb k (suc s.c)

unfoldable pub site_opens : Instance → Strip → Point → Bool
site_opens P p s = clear_from P.slots p.a s.y && clear_from P.slots p.b s.y && P.may s 0 && not (P.held p s)

-- of the slots between the strip's ends, from its upper end on: the first that this end lets open a label
pub record FirstFar (S : Slots) (p : Strip) (s : Point) (first : ℕ) : Type 0 where
  pub low : p.a ≤ first
  pub high : p.a < first → first < p.b
  pub near : (k : ℕ) → p.a ≤ k → k < first → far_from S p.a p.ca k (s.c + 1) ≡ false
  pub far : first + 1 < p.b → far_from S p.a p.ca first (s.c + 1) ≡ true

-- of those, from `from` on: the end of the ones that the lower end lets open a label
pub record FarEnd (S : Slots) (p : Strip) (s : Point) (from end : ℕ) : Type 0 where
  pub low : from ≤ end
  pub high : from < end → end < p.b
  pub near : (k : ℕ) → end ≤ k → k + 1 < p.b → far_from S p.b p.cb k (s.c + 1) ≡ false
  pub far : from < end → far_from S p.b p.cb (end - 1) (s.c + 1) ≡ true

-- the slots between the strip's ends that leave the gap to both are those of the window; where it holds any, it lies between the ends
pub record WindowOf (S : Slots) (p : Strip) (s : Point) (w : Window) : Type 0 where
  pub low : p.a ≤ w.from
  pub ordered : w.from ≤ w.to
  pub high : w.from < w.to → w.to < p.b
  pub leaves : (k : ℕ) → p.a ≤ k → k + 1 < p.b → gap_left S p s k ≡ leb w.from k && ltb k w.to

-- what a step costs that opens a label, none if the slot is barred, and one that joins it
abbrev pub open_cost : Measures → (heights : List ℕ) → Point → (slot : ℕ) → ℕ
open_cost q hs s k = cond (has_slot s.barred k) top_word (opening_by q s.x (get_or hs k 0) s.y)

abbrev pub join_cost : Measures → (heights : List ℕ) → Point → (slot : ℕ) → ℕ
join_cost q hs s k = joining_by q (get_or hs k 0) s.y

-- what it costs to join the label above, and the label below; none if that is not lawful
unfoldable pub rise_cost : Measures → (heights bounds : List ℕ) → Strip → Point → ℕ
rise_cost q hs bs p s =
    cond (ltb (p.a - 1) (length hs) && joins_up (instance_on q hs bs) p s (p.a - 1)) (join_cost q hs s (p.a - 1)) top_word

unfoldable pub fall_cost : Measures → (heights bounds : List ℕ) → Strip → Point → ℕ
fall_cost q hs bs p s = cond (joins_down (instance_on q hs bs) p s (p.b - 1)) (join_cost q hs s (p.b - 1)) top_word

-- the strip as a site leaves it that joins the label above; the label below
abbrev pub risen : (heights : List ℕ) → Strip → Point → Strip
risen hs p s = marked_by (turn_by hs s (p.a - 1)) p

abbrev pub fallen : (heights : List ℕ) → Strip → Point → Strip
fallen hs p s = marked_by (turn_by hs s (p.b - 1)) p
