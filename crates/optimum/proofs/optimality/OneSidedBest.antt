-- THE OPTIMUM: for every accepted one-sided sheet the best layout of all is what the walk over the table finds. What stands behind it:
--   0 rules are about pairs       labelling/proofs/Pairs rules-are-pairs; by rank: RankedPairs pairs-rising, rising-pairs; the sites before
--                                 a label's first: RankedPairs pairs-tips, Tips tips-i, tips-e
--   1 steps are rules             Pairs steps-e, steps-i; Steps run-e, run-i; Pays pays-e, pays-i; Counts; here obeys-steps, steps-obey
--   2 neighbours are enough       Neighbours open-step, up-step, down-step and back step-open, step-join
--   3 strips are independent      search/proofs/Plan strips-independent (Strips independent); StripsHeld value-best
--   4 the walk gives the first    search/proofs/Walk answer-first, answer-none; StripsHeld walked-first, walked_none
use mathlib.Core.Path.{◌≡◌, refl, sym, ap, ap₂, ◌∙◌, subst, subst⁻¹}
use mathlib.Core.Logic.{◌⊎◌, inl, inr}
use mathlib.Core.Bool.{true, false, false≢true}
use mathlib.Core.List.{List, [], ◌∷◌}
use mathlib.Core.Option.{Option, none, some}
use Prim.Native.Nat.{ℕ, suc, ◌+◌, ◌≤◌, ◌<◌}
use native.Mathlib.Omega.{arith}
use lib.Dec.{eqb, ltb}
use lib.ListN.{length, get_or, set, replicate, length-replicate}
use borrow.Author.Tests.{lt-ltb, eqb-true, eqb-false}
use Rattle.lists.proofs.Tests.{by-test, by-either, clash, or-e, is_false}
use Rattle.search.specs.Walk.{Before, Cheapest, cost_of}
use Rattle.sheet.specs.Limits.{unbounded}
use Rattle.sheet.specs.Sheet.{sheet_in, sheet_fault, Sheet}
use Rattle.sheet.proofs.Accepted.{Sound, sound}
use Rattle.labelling.specs.Layout.{no_colour, is_used, is_better, best}
use Rattle.labelling.proofs.Members.{no_site, at_all, used-head, used-tail}
use Rattle.labelling.proofs.Best.{Obeys, low_ties, low-at}
use Rattle.labelling.proofs.Rules.{Rules, Bounded, obeys-rules, rules-obey}
use Rattle.labelling.proofs.Earlier.{Earlier, better-e}
use Rattle.labelling.proofs.Maker.{First, best-some-iff, best-none-iff}
use Rattle.labelling.proofs.Pairs.{AllInOrder, rules-are-pairs}
use Rattle.optimum.specs.Strips.{Point, Instance, labels, walked}
use Rattle.optimum.specs.Budgets.{is_unbounded, digit_in}
use Rattle.optimum.specs.CostWord.{layout_cost}
use Rattle.optimum.specs.OneSided.{bound_of, word_of, top_word, instance_of, order, point_at, points_at, scatter, ties_of, one_sided}
use Rattle.optimum.proofs.StripsHeld.{walked-first, walked_none}
use Rattle.optimum.proofs.Neighbours.{Apart}
use Rattle.optimum.proofs.Steps.{Steps, Pays, Tips, Turns, turns-all, opened, total, run-e, run-i}
use Rattle.optimum.proofs.Pairs.{zeros, StepAll, Pairs, steps-e, steps-i, first_step}
use Rattle.optimum.proofs.optimality.Pays.{is_of, pays-e, pays-i}
use Rattle.optimum.proofs.Budgets.{bounded-low, full-digit}
use Rattle.optimum.proofs.optimality.CostWord.{layout-low, better-costs}
use Rattle.optimum.proofs.optimality.Order.{Rise, ordered, gather, scatter-long, gather-scatter}
use Rattle.optimum.proofs.optimality.Distances.{good}
use Rattle.optimum.proofs.optimality.Instance.{not-held, linear, budgeted}
use Rattle.optimum.proofs.optimality.Tips.{tips-i, tips-e}
use Rattle.optimum.proofs.optimality.RankedPairs.{AllPairs, pairs-rising, pairs-tips, rising-pairs, list-e, list-i}
use Rattle.optimum.proofs.optimality.Counts.{shares-drops, count-is, lead_is, colour-is}
pub use Rattle.optimum.specs.Budgets.{full_budget}

-- ---- slots below m

low-all : (s : Sheet) (js is : List ℕ) → StepAll (instance_of s) (replicate (length s.slots) 0) (points_at s is) (gather js is) → (i : ℕ) → is_used i is ≡ true → get_or js i 0 < length s.slots
unfolding StepAll points_at gather is_used
low-all s js [] h i u = absurd (false≢true u)
low-all s js (k ∷ is) h i u =
    by-either (or-e (eqb k i) (is_used i is) u) (λ e. subst (λ (z : ℕ). get_or js z 0 < length s.slots) (eqb-true k i e) h.0.slot) (λ e. low-all s js is h.1 i e)

all-low : (s : Sheet) (js is : List ℕ) → ((i : ℕ) → is_used i is ≡ true → get_or js i 0 < length s.slots) → StepAll (instance_of s) (replicate (length s.slots) 0) (points_at s is) (gather js is)
unfolding StepAll points_at gather
all-low s js [] h = tt
all-low s js (k ∷ is) h = (first_step (instance_of s) (point_at s k) (get_or js k 0) (h k (used-head k is)), all-low s js is (λ i u. h i (used-tail i k is u)))

module _ (s : Sheet) (o : Sound s) (one : s.is_two_sided ≡ false) where
  empty-long : length {A = ℕ} (replicate (length s.slots) 0) ≡ length s.slots
  empty-long = length-replicate (length s.slots) 0

  empty-apart : Apart (instance_of s) (replicate (length s.slots) 0)
  empty-apart j k h l p q = absurd (omega (arith, zeros (length s.slots) j))

  -- what a sequence of slots by x costs
  abbrev pub costs : List ℕ → ℕ
  costs ks = cost_of (labels (instance_of s)) (replicate (length s.slots) 0, full_budget s, replicate (suc (length s.slots)) 0) (points_at s (order s)) ks

  module _ (js : List ℕ) (long : length js ≡ length s.sites) where
    agree_of : AllInOrder s js → (i j : ℕ) → i < length s.sites → j < length s.sites → get_or js i 0 ≡ get_or js j 0 → (get_or s.sites i no_site).colour ≡ (get_or s.sites j no_site).colour
    agree_of p i j hi hj e = (p i j hi hj).colour e

    -- THEOREM 1: ties that obey the rules are steps in order, within the budget
    pub obeys-steps : Obeys s js → Steps (instance_of s) (replicate (length s.slots) 0) (points_at s (order s)) (gather js (order s))
        × Pays (instance_of s) (replicate (length s.slots) 0) (full_budget s) (points_at s (order s)) (gather js (order s))
        × Tips (instance_of s) (replicate (length s.slots) 0) (points_at s (order s)) (gather js (order s))
        × Turns (instance_of s) (replicate (length s.slots) 0) (replicate (suc (length s.slots)) 0) (points_at s (order s)) (gather js (order s))
    obeys-steps b = (steps, pays-i (instance_of s) (digit_in s) (is_unbounded s) (budgeted s) (points_at s (order s)) (gather js (order s)) _ (full_budget s) (λ c u. enough c u), tips, turns)
      where
        r : Rules s js
        r = obeys-rules s js b

        p : AllInOrder s js
        p = ((rules-are-pairs s o.inside js long).0 r).0

        low : (i : ℕ) → is_used i (order s) ≡ true → get_or js i 0 < length s.slots
        low i u = low-at (length s.slots) js b.low i (omega (arith, ((ordered s o).low i u).0))

        steps : Steps (instance_of s) (replicate (length s.slots) 0) (points_at s (order s)) (gather js (order s))
        steps =
            steps-i (instance_of s) (points_at s (order s)) (gather js (order s)) _ empty-long (all-low s js (order s) low)
            (list-i s js (order s) (ordered s o).rise (λ i j ui uj h. pairs-rising s o one js p i j ((ordered s o).low i ui).0 ((ordered s o).low j uj).0 h))

        tips : Tips (instance_of s) (replicate (length s.slots) 0) (points_at s (order s)) (gather js (order s))
        tips =
            tips-i s js (order s) _ empty-long (ordered s o).rise (λ i u. (((ordered s o).low i u).0, low i u))
            (λ u hu e. clash ((ordered s o).whole u hu (omega arith)) e) (pairs-tips s one js p)

        turns : Turns (instance_of s) (replicate (length s.slots) 0) (replicate (suc (length s.slots)) 0) (points_at s (order s)) (gather js (order s))
        turns = turns-all (instance_of s) (not-held s) (points_at s (order s)) _ _ (gather js (order s))

        enough : (c : ℕ) → is_unbounded s c ≡ false → opened (instance_of s) (is_of c) (replicate (length s.slots) 0) (points_at s (order s)) (gather js (order s)) ≤ digit_in s c (full_budget s)
        enough c u =
            let h = bounded-low s c u in
            rw (colour-is s o one js long steps (agree_of p) c, full-digit s c u)
            (by-either (r.two c h) (λ q. absurd (eqb-false (bound_of s c) unbounded u q)) (λ q. q))

    pub steps-obey : Steps (instance_of s) (replicate (length s.slots) 0) (points_at s (order s)) (gather js (order s))
        → Pays (instance_of s) (replicate (length s.slots) 0) (full_budget s) (points_at s (order s)) (gather js (order s))
        → Tips (instance_of s) (replicate (length s.slots) 0) (points_at s (order s)) (gather js (order s))
        → Turns (instance_of s) (replicate (length s.slots) 0) (replicate (suc (length s.slots)) 0) (points_at s (order s)) (gather js (order s)) → Obeys s js
    steps-obey t y w x = rules-obey s js long low ((rules-are-pairs s o.inside js long).1 (p, two))
      where
        q : StepAll (instance_of s) (replicate (length s.slots) 0) (points_at s (order s)) (gather js (order s)) × Pairs (instance_of s) (points_at s (order s)) (gather js (order s))
        q = steps-e (instance_of s) (points_at s (order s)) (gather js (order s)) _ empty-long t

        member : (i : ℕ) → i < length s.sites → is_used i (order s) ≡ true
        member i h = (ordered s o).whole i h (omega arith)

        low : low_ties (length s.slots) js ≡ true
        low = at_all (λ j. ltb j (length s.slots)) 0 js (λ i h. lt-ltb _ _ (low-all s js (order s) q.0 i (member i (omega arith))))

        pairs : AllPairs s js
        pairs i j hi hj h = list-e s js (order s) (ordered s o).rise q.1 i j (member i hi) (member j hj) h

        p : AllInOrder s js
        p =
            rising-pairs s o one js pairs (λ i hi first.
            tips-e s js (order s) _ (ordered s o).rise w i (member i hi) (low-all s js (order s) q.0 i (member i hi)) (λ u v. first u ((ordered s o).low u v).0)
            (zeros (length s.slots) (get_or js i 0)))

        two : (c : ℕ) → c < length s.colours → Bounded s js c (get_or s.colours c no_colour)
        two c h =
            by-test (is_unbounded s c)
            (λ u. inl (eqb-true (bound_of s c) unbounded u))
            (λ u. inr (let g = pays-e (instance_of s) (digit_in s) (is_unbounded s) (budgeted s) (points_at s (order s)) (gather js (order s)) _ (full_budget s) y c u in
            omega (arith, g, colour-is s o one js long t (agree_of p) c, full-digit s c u)))

    -- the cost of ties that obey the rules is the word of their count and length
    pub obeys-cost : Obeys s js → costs (gather js (order s)) ≡ layout_cost s js
    obeys-cost b =
        let t = obeys-steps b in
        let e = run-i (instance_of s) (good s o) (linear s) (points_at s (order s)) _ (full_budget s) _ (gather js (order s)) empty-long empty-apart t.0 t.1 t.2 t.3 in
        let w = layout-low s o js in
        let f : total (instance_of s) (replicate (length s.slots) 0) (points_at s (order s)) (gather js (order s)) ≡ layout_cost s js
        = ap₂ (word_of s) (count-is s o one js long t.0) (ap₂ ◌+◌ (lead_is s o one js long t.0) (shares-drops s o js long)) in
        omega arith

    pub cost-obeys : costs (gather js (order s)) < top_word → Obeys s js
    cost-obeys h =
        let t = run-e (instance_of s) (good s o) (points_at s (order s)) _ (full_budget s) _ (gather js (order s)) empty-long empty-apart h in
        steps-obey t.0 t.1 t.2 t.3

-- ---- the slots by rising x that come first are those of the ties that come first

pub not_earlier : (s : Sheet) → Sound s → (js ks is : List ℕ) → Rise s is → ((i : ℕ) → is_used i is ≡ true → i < length s.sites) → (e : Earlier s ks js) → is_used e.place is ≡ true
    → Before (gather js is) (gather ks is) → ⊥
unfolding Before gather Rise is_used
not_earlier s o js ks [] r low e u b = false≢true u
not_earlier s o js ks (i ∷ is) r low e u b = go b (or-e (eqb i e.place) (is_used e.place is) u) (λ v c. not_earlier s o js ks is r.1 (λ j w. low j (used-tail j i is w)) e v c)
  where
    go : (get_or js i 0 < get_or ks i 0) ⊎ ((get_or js i 0 ≡ get_or ks i 0) × Before (gather js is) (gather ks is)) → (eqb i e.place ≡ true) ⊎ (is_used e.place is ≡ true)
        → (is_used e.place is ≡ true → Before (gather js is) (gather ks is) → ⊥) → ⊥
    go (inl h) (inl v) ih = let q = eqb-true i e.place v in omega (arith, e.lower, ap (λ (z : ℕ). get_or js z 0) q, ap (λ (z : ℕ). get_or ks z 0) q)
    go (inl h) (inr v) ih = omega (arith, e.same i (low i (used-head i is)) (r.0 e.place v))
    go (inr (h, c)) (inl v) ih = let q = eqb-true i e.place v in omega (arith, e.lower, ap (λ (z : ℕ). get_or js z 0) q, ap (λ (z : ℕ). get_or ks z 0) q)
    go (inr (h, c)) (inr v) ih = ih v c

-- ---- the walk's length

steps-long : (P : Instance) (ss : List Point) (L ks : List ℕ) → Steps P L ss ks → length ks ≡ length ss
unfolding Steps
steps-long P [] L [] h = refl
steps-long P [] L (k ∷ ks) h = absurd h
steps-long P (s ∷ ss) L [] h = absurd h
steps-long P (s ∷ ss) L (k ∷ ks) h = ap suc (steps-long P ss (set L k (suc s.c)) ks h.1)

pub points-long : (s : Sheet) (is : List ℕ) → length (points_at s is) ≡ length is
unfolding points_at
points-long s [] = refl
points-long s (i ∷ is) = ap suc (points-long s is)

-- what the walk finds, put back in sheet order
abbrev pub put_back : Sheet → List ℕ → List ℕ
put_back s ks = scatter (replicate (length s.sites) 0) (order s) ks

module _ (s : Sheet) (o : Sound s) (one : s.is_two_sided ≡ false) where
  abbrev pub Found : List ℕ → Type 0
  Found ks = Cheapest (labels (instance_of s)) (replicate (length s.slots) 0, full_budget s, replicate (suc (length s.slots)) 0) (points_at s (order s)) ks

  pub back_long : (ks : List ℕ) → length (put_back s ks) ≡ length s.sites
  back_long ks = scatter-long (order s) ks (replicate (length s.sites) 0) ∙ length-replicate (length s.sites) 0

  pub found-long : (ks : List ℕ) → Found ks → length ks ≡ length s.sites
  found-long ks c =
      steps-long (instance_of s) (points_at s (order s)) (replicate (length s.slots) 0) ks
      (run-e (instance_of s) (good s o) (points_at s (order s)) _ (full_budget s) _ ks (empty-long s o one) (empty-apart s o one) c.lawful).0
      ∙ points-long s (order s) ∙ (ordered s o).long

  pub back_is : (ks : List ℕ) → Found ks → gather (put_back s ks) (order s) ≡ ks
  back_is ks c =
      gather-scatter s (order s) ks (replicate (length s.sites) 0) (ordered s o).rise (λ i u. rw (length-replicate {A = ℕ} (length s.sites) 0) ((ordered s o).low i u).0)
      (found-long ks c ∙ sym (ordered s o).long)

  cost-back : (ks : List ℕ) → Found ks → costs s o one (gather (put_back s ks) (order s)) ≡ costs s o one ks
  cost-back ks c = ap (costs s o one) (back_is ks c)

  pub found-obeys : (ks : List ℕ) → Found ks → Obeys s (put_back s ks)
  found-obeys ks c = cost-obeys s o one (put_back s ks) (back_long ks) (omega (arith, cost-back ks c, c.lawful))

  -- its cost is the word of its count and length
  pub found-cost : (ks : List ℕ) → Found ks → costs s o one ks ≡ layout_cost s (put_back s ks)
  found-cost ks c = sym (cost-back ks c) ∙ obeys-cost s o one (put_back s ks) (back_long ks) (found-obeys ks c)

  -- it is first
  pub found_first : (ks : List ℕ) → Found ks → First s (put_back s ks)
  found_first ks c = record { obeys = found-obeys ks c; least = λ ls b. is_false (is_better s ls (put_back s ks)) (λ e. worse ls b (better-costs s o ls (put_back s ks) (better-e s o ls (put_back s ks) b.long (back_long ks) e))) }
    where
      worse : (ls : List ℕ) → Obeys s ls → (layout_cost s ls < layout_cost s (put_back s ks)) ⊎ ((layout_cost s ls ≡ layout_cost s (put_back s ks)) × Earlier s ls (put_back s ks)) → ⊥
      worse ls b (inl h) = omega (arith, obeys-cost s o one ls b.long b, found-cost ks c, c.lowest (gather ls (order s)))
      worse ls b (inr (h, e)) =
          not_earlier s o (put_back s ks) ls (order s) (ordered s o).rise (λ i u. ((ordered s o).low i u).0) e ((ordered s o).whole e.place e.inside (omega arith))
          (subst⁻¹ (λ (z : List ℕ). Before z (gather ls (order s))) (back_is ks c)
          (c.ahead (gather ls (order s)) (obeys-cost s o one ls b.long b ∙ h ∙ sym (found-cost ks c))))

  -- THE ONE-SIDED SHEET: document 03's best is what the walk over the table finds
  pub one-sided-best : best s ≡ one_sided s
  unfolding one_sided
  one-sided-best = go (walked (instance_of s) (full_budget s) (points_at s (order s))) refl
    where
      go : (w : Option (List ℕ)) → walked (instance_of s) (full_budget s) (points_at s (order s)) ≡ w → best s ≡ ties_of s w
      go none e =
          (best-none-iff s).1 (λ js b.
          omega (arith, obeys-cost s o one js b.long b, walked_none (instance_of s) (good s o).rising (full_budget s) (points_at s (order s)) e (gather js (order s)), layout-low s o js))
      go (some ks) e = (best-some-iff s o _).1 (found_first ks (walked-first (instance_of s) (good s o).rising (full_budget s) (points_at s (order s)) ks e))

-- for accepted words, an end in itself
pub one-sided-made : (ws : List ℕ) → sheet_fault ws ≡ 0 → (sheet_in ws).is_two_sided ≡ false → best (sheet_in ws) ≡ one_sided (sheet_in ws)
one-sided-made ws h one = one-sided-best (sheet_in ws) (sound ws h) one
