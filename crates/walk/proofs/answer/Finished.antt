-- With the table filled: the least cost, and where the walk starts. Assumes nothing.
use mathlib.Core.Path.{◌≡◌, refl, sym, ap, ◌∙◌}
use mathlib.Core.Bool.{true, false}
use mathlib.Core.List.{List, ◌∷◌}
use Prim.Native.Nat.{ℕ, zero, suc, ◌+◌, ◌-◌, ◌*◌, ◌≤◌, ◌<◌}
use native.Mathlib.Numerals.{add-one}
use native.Mathlib.Omega.{arith}
use lib.Dec.{ltb}
use lib.ListN.{length, set, take, replicate, length-set, length-replicate}
use borrow.Author.Tests.{lt-ltb, le-ltb}
use Rattle.arrays.specs.declared.Measures.{Measures}
use Rattle.arrays.specs.Given.{Given, instance_of, points_of}
use Rattle.optimum.specs.Strips.{Point, Instance, value, labels}
use Rattle.optimum.specs.OneSided.{top_word}
use Rattle.optimum.proofs.Slots.{Rising}
use Rattle.optimum.proofs.Marks.{some-mark}
use Rattle.optimum.proofs.Pairs.{zeros}
use Rattle.optimum.proofs.Reached.{reached-start}
use Rattle.search.specs.Walk.{walk_by}
use Rattle.rows.specs.Rest.{LevelIn, rest_rows}
use Rattle.walk.specs.Walk.{Found, value_in, worth_in, level_words, WalkIn, Standing, tied_from}
use Rattle.walk.proofs.Value.{Met, met-value, walk-right}
use Rattle.walk.proofs.Tying.{long}
use Rattle.costs.specs.Costs.{first_word_by}
use Rattle.walk.specs.Laid.{empty_sheet, least_cost, written_by, laid_fault, laid_out, FilledIn}

-- the front of an array of zeros
pub zeros-part : (m n : ℕ) → m ≤ n → take m (replicate {A = ℕ} n 0) ≡ replicate m 0
zeros-part zero n h = refl
zeros-part (suc m) zero h = absurd (omega arith)
zeros-part (suc m) (suc n) h = ap (λ (l : List ℕ). 0 ∷ l) (zeros-part m n (omega arith))

pub front_long : (m n : ℕ) → m ≤ n → m ≡ length (take m (replicate {A = ℕ} n 0))
front_long m n h = sym (ap length (zeros-part m n h) ∙ length-replicate m 0)

module _ {g : Given} {work out : List ℕ} (L M : List ℕ) (a : WalkIn g work) (f : FilledIn g work out) (z : L ≡ replicate (length g.heights) 0) (y : M ≡ replicate (length g.heights + 1) 0) where
  abbrev q : Measures
  q = g.measures

  abbrev hs : List ℕ
  hs = g.heights

  abbrev P : Instance
  P = instance_of g

  abbrev points : List Point
  points = points_of g

  abbrev none : List ℕ
  none = replicate (length hs) 0

  abbrev unmarked : List ℕ
  unmarked = replicate (suc (length hs)) 0

  no-mark : M ≡ unmarked
  no-mark = y ∙ ap (λ (n : ℕ). replicate n 0) (add-one (length hs))

  abbrev rising : Rising P.slots
  rising = a.sheet.rising

  -- the first level stands in the work area
  pub first-level : LevelIn work 0 q.colours q.budgets L M
  first-level =
      let l : length L ≡ length hs = ap length z ∙ length-replicate (length hs) 0 in
      record {
        few_slots = omega (arith, l, a.sheet.few_slots);
        few_colours = a.sheet.few_colours;
        within = rw l (let e = whole (length g.order) (level_words g) in omega (arith, f.whole, e));
        coloured = λ i. rw z (omega (arith, zeros (length hs) i));
        marked = λ i. rw y (omega (arith, some-mark, zeros (length hs + 1) i));
      }
    where
      whole : (n s : ℕ) → s ≤ (n + 1) * s
      whole n s = omega arith

  met : Met q hs g.bounds g.radices g.draws g.parts g.counts work q.colours q.budgets a.splits rising points f.table 0 none unmarked (q.budgets - 1)
  met =
      record { long = length-replicate (length hs) 0; marks_long = length-replicate (suc (length hs)) 0; budget = omega (arith, a.sheet.some_budget); reached = λ p i. reached-start P rising points p i }

  worth : worth_in g work (empty_sheet P q.budgets) points ≡ least_cost P q.budgets points
  worth = met-value q hs g.bounds g.radices g.draws g.parts g.counts work q.colours q.budgets a.splits rising points f.table 0 points none unmarked (q.budgets - 1) refl (omega arith) met

  pub least-is : rest_rows g.parts g.counts work 0 (length L) q.colours q.budgets L M (q.budgets - 1) ≡ least_cost P q.budgets points
  unfolding value_in
  least-is =
      let e : length points - length points ≡ 0 = omega arith in
      let o : 0 ≡ (length points - length points) * level_words g = rw e (omega arith) in
      rw (z, no-mark, length-replicate {A = ℕ} (length hs) 0)
      (ap (λ (b : ℕ). rest_rows g.parts g.counts work b (length hs) q.colours q.budgets none unmarked (q.budgets - 1)) o ∙ worth)

  -- the walk from the empty sheet
  walked : least_cost P q.budgets points < top_word
      → (walk_by (labels P) (worth_in g work) (empty_sheet P q.budgets) points ≡ walk_by (labels P) (value P) (empty_sheet P q.budgets) points)
      × Found (labels P) (worth_in g work) (empty_sheet P q.budgets) points
  walked h = walk-right q hs g.bounds g.radices g.draws g.parts g.counts work q.colours q.budgets a.splits rising points f.table points 0 none unmarked (q.budgets - 1) refl (omega arith) met h

  pub starts : (least x : ℕ) → least ≡ least_cost P q.budgets points → least < top_word → Standing g work L M (set out 0 x) 0 (q.budgets - 1) least
  starts least x e h =
      rw (z, no-mark)
      (record {
        tied = omega arith;
        answer_fits = rw (length-set out 0 x) (omega (arith, f.answer_fits, long a));
        labels_long = length-replicate (length hs) 0;
        coloured = λ i. omega (arith, zeros (length hs) i);
        marks_long = length-replicate (suc (length hs)) 0 ∙ sym (add-one (length hs));
        marked = λ i. omega (arith, some-mark, zeros (suc (length hs)) i);
        budget = omega (arith, a.sheet.some_budget);
        low = h;
        worth = e ∙ sym worth;
        found = (walked (omega arith)).1;
      })

  pub ties : (least : ℕ) → least ≡ least_cost P q.budgets points → least < top_word
      → tied_from g work L M (set out 0 (first_word_by q least)) 0 (q.budgets - 1) ≡ written_by P q points g.order out
  ties least e h = rw (z, no-mark, e, (walked (omega arith)).0) refl

  -- the answer by the least cost
  pub none-laid : (least : ℕ) → least ≡ least_cost P q.budgets points → least ≡ top_word → (10 ≡ laid_fault g) × (out ≡ laid_out g out)
  none-laid least e h = let l : top_word ≤ least_cost P q.budgets points = omega arith in let t : ltb (least_cost P q.budgets points) top_word ≡ false = le-ltb _ top_word l in rw t (refl, refl)

  pub one-laid : (least : ℕ) → least ≡ least_cost P q.budgets points → least < top_word
      → (0 ≡ laid_fault g) × (written_by P q points g.order out ≡ laid_out g out)
  one-laid least e h = let l : least_cost P q.budgets points < top_word = omega arith in let t : ltb (least_cost P q.budgets points) top_word ≡ true = lt-ltb _ top_word l in rw t (refl, refl)
