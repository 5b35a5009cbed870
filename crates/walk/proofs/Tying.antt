-- One step of the walk: the slot that the loop finds is the walk's, and where the walk stands after it. Assumes nothing.
use mathlib.Core.Path.{◌≡◌, refl, sym, ap, ap₂, ◌∙◌, subst, subst⁻¹}
use mathlib.Core.Bool.{true}
use mathlib.Core.List.{List, ◌∷◌}
use Prim.Native.Nat.{ℕ, suc, ◌+◌, ◌-◌, ◌*◌, ◌≤◌, ◌<◌}
use native.Mathlib.Nat.{mul-le-mul_right}
use native.Mathlib.Numerals.{add-one}
use native.Mathlib.Omega.{arith}
use lib.Dec.{eqb}
use lib.ListN.{length, get_or, set, drop, length-set, length-drop, drop_of_length-le}
use lib.Seq.{drop-cons, get_or-set_same, get_or-set_other}
use borrow.Author.Tests.{eqb-true}
use Rattle.lists.proofs.Tests.{by_equal}
use Rattle.search.specs.Cost.{plus, first}
use Rattle.search.proofs.Cost.{first-is}
use Rattle.search.specs.Walk.{choose_by, walk_by}
use Rattle.arrays.specs.declared.Measures.{Measures}
use Rattle.arrays.proofs.Points.{points-long, point-at}
use Rattle.arrays.specs.Given.{Given, instance_of, point_in, points_of, SiteIn}
use Rattle.arrays.specs.declared.ranked.RankedSheet.{RankedSheet}
use Rattle.arrays.specs.Ranked.{given_of}
use Rattle.optimum.specs.Strips.{Point, Strip, Instance, State, hold, price, next, labels, marked}
use Rattle.labelling.specs.Layout.{tie_word}
use Rattle.optimum.specs.OneSided.{top_word, mark_count, write_ties}
use Rattle.optimum.proofs.Loops.{first_under}
use Rattle.optimum.specs.Reached.{no_point}
use Rattle.rows.specs.Rest.{LevelIn, rest_rows}
use Rattle.areas.specs.Ties.{with_tie}
use Rattle.choice.specs.Choice.{labelled, marked_at, keeps_cost, MarksIn}
use Rattle.choice.proofs.kept.Keeping.{marked-long, marked-low}
use Rattle.arrays.specs.Arrays.{turn_by}
use Rattle.arrays.proofs.Marks.{turn_low}
use Rattle.optimum.proofs.StripsHeld.{hold-low}
use Rattle.strips.specs.Steps.{price_in, budget_left}
use Rattle.walk.specs.Walk.{Found, value_in, worth_in, level_words, LevelsFit, WalkIn, Standing, tied_from}

-- what a ranked sheet says of itself is enough
pub walk-in : (s : RankedSheet) {work : List ℕ} → LevelsFit (given_of s) work → WalkIn (given_of s) work
walk-in s h = record { sheet = s.of_sheet; bounded = s.bounded; ranked = s.ranked; splits = s.listed; whole = h }

module _ {g : Given} {work : List ℕ} (a : WalkIn g work) where
  abbrev q : Measures
  q = g.measures

  abbrev hs : List ℕ
  hs = g.heights

  abbrev order : List ℕ
  order = g.order

  abbrev P : Instance
  P = instance_of g

  abbrev points : List Point
  points = points_of g

  abbrev site : ℕ → Point
  site j = point_in g j

  abbrev in_words : State P → List Point → ℕ
  in_words = worth_in g work

  pub long : length points ≡ length order
  long = points-long q hs g.xs g.ys g.colours ∙ sym a.ranked

  pub site-in : (j : ℕ) → j < length order → SiteIn q (site j)
  site-in j l = a.sheet.site_in j (omega (arith, a.ranked))

  pub sites-left : (j : ℕ) → j < length order → drop j points ≡ site j ∷ drop (suc j) points
  sites-left j l =
      drop-cons points j no_point (omega (arith, long))
      ∙ ap (λ (s : Point). s ∷ drop (suc j) points) (point-at q hs g.xs g.ys g.colours j (omega (arith, a.ranked)))

  -- the level of the sites after the first j
  pub level-of : (j : ℕ) (L M out : List ℕ) (v here : ℕ) → j < length order → Standing g work L M out j v here
      → LevelIn work ((j + 1) * level_words g) q.colours q.budgets L M
  level-of j L M out v here l w =
      record {
        few_slots = omega (arith, w.labels_long, a.sheet.few_slots);
        few_colours = a.sheet.few_colours;
        within = rw w.labels_long (let m = mul-le-mul_right (level_words g) later in omega (arith, m, a.whole));
        coloured = w.coloured;
        marked = w.marked;
      }
    where
      later : j + 1 + 1 ≤ length order + 1
      later = omega arith

  -- the place above the strip that holds a height has a mark
  pub place_in : (L M : List ℕ) (j : ℕ) {out : List ℕ} {v here : ℕ} → Standing g work L M out j v here → (p : Strip) (y : ℕ) → p ≡ hold P L M y → p.a < length M
  place_in L M j w p y e = let h : p.a ≤ length hs = subst⁻¹ (λ (r : Strip). r.a ≤ length hs) e (hold-low P a.sheet.rising L M y) in omega (arith, w.marks_long)

  -- one step, to the slot that the loop finds
  module _ (j : ℕ) (L M out : List ℕ) (v here k : ℕ) (l : j < length order) (w : Standing g work L M out j v here)
      (p : Strip) (held : p ≡ hold P L M (get_or g.ys j 0))
      (tried : k ≡ first (length hs) (keeps_cost g work ((j + 1) * level_words g) p (site j) L M v here)) where
    abbrev s : Point
    s = site j

    abbrev ss : List Point
    ss = drop (suc j) points

    abbrev x : State P
    x = (L, v, M)

    abbrev after : ℕ → State P
    after i = (labelled L s i, budget_left P p s v i, marked_at L M p.a (turn_by hs s i) i)

    next-after : (i : ℕ) → next P x s i ≡ after i
    unfolding next marked
    next-after i = ap (λ (r : Strip). (labelled L s i, budget_left P r s v i, marked_at L M r.a (turn_by hs s i) i)) (sym held)

    price-here : (i : ℕ) → price P x s i ≡ price_in P p s v i
    unfolding price
    price-here i = ap (λ (r : Strip). price_in P r s v i) (sym held)

    left-long : length points - length ss ≡ j + 1
    left-long = omega (arith, length-drop (suc j) points, long)

    rest-here : (i : ℕ) → in_words (after i) ss ≡ rest_rows g.parts g.counts work ((j + 1) * level_words g) (length hs) q.colours q.budgets (labelled L s i) (marked_at L M p.a (turn_by hs s i) i) (budget_left P p s v i)
    unfolding value_in
    rest-here i = ap (λ (n : ℕ). rest_rows g.parts g.counts work (n * level_words g) (length hs) q.colours q.budgets (labelled L s i) (marked_at L M p.a (turn_by hs s i) i) (budget_left P p s v i)) left-long

    worth-here : here ≡ in_words x (s ∷ ss)
    worth-here = w.worth ∙ ap (in_words x) (sites-left j l)

    same_test : (i : ℕ) → keeps_cost g work ((j + 1) * level_words g) p s L M v here i
        ≡ eqb (plus top_word (price P x s i) (in_words (next P x s i) ss)) (in_words x (s ∷ ss))
    same_test i = ap₂ eqb (ap₂ (plus top_word) (sym (price-here i)) (sym (ap (λ (y : State P). in_words y ss) (next-after i) ∙ rest-here i))) worth-here

    chosen : k ≡ choose_by (labels P) in_words x s ss
    unfolding choose_by
    chosen = tried ∙ first_under (length hs) _ _ (λ i h. same_test i)

    found_here : (choose_by (labels P) in_words x s ss < length hs) × Found (labels P) in_words (next P x s (choose_by (labels P) in_words x s ss)) ss
    unfolding Found
    found_here = subst (Found (labels P) in_words x) (sites-left j l) w.found

    pub slot-low : k < length hs
    slot-low = rw chosen found_here.0

    found-next : Found (labels P) in_words (after k) ss
    found-next = subst (λ (y : State P). Found (labels P) in_words y ss) (ap (λ (i : ℕ). next P x s i) (sym chosen) ∙ next-after k) found_here.1

    sum-here : plus top_word (price_in P p s v k) (in_words (after k) ss) ≡ here
    sum-here =
        let t = keeps_cost g work ((j + 1) * level_words g) p s L M v here in
        let e : t k ≡ true = subst⁻¹ (λ (i : ℕ). t i ≡ true) tried (first-is (length hs) t (rw tried at slot-low)) in
        ap (plus top_word (price_in P p s v k)) (rest-here k) ∙ eqb-true _ _ e

    less-price : (c r : ℕ) → plus top_word c r ≡ here → here - c ≡ r
    unfolding plus
    less-price c r e = omega (arith, w.low)

    -- where the marks of the step are written
    pub places : MarksIn L M p.a k
    places = record {
      slot_low = rw w.labels_long slot-low;
      few = rw w.labels_long a.sheet.few_slots;
      marks_long = rw w.labels_long w.marks_long;
      place_low = place_in L M j w p s.y held;
    }

    abbrev M' : List ℕ
    M' = marked_at L M p.a (turn_by hs s k) k

    pub standing : Standing g work (set L k (get_or g.colours j 0 + 1)) M' (with_tie order out j k) (j + 1) (budget_left P p s v k) (here - price_in P p s v k)
    standing =
        record {
          tied = omega (arith, long);
          answer_fits = rw (length-set out (get_or order j 0 + 1) (tie_word k)) w.answer_fits;
          labels_long = length-set L k (get_or g.colours j 0 + 1) ∙ w.labels_long;
          coloured = λ i. by_equal i k
              (λ e. rw (e, get_or-set_same L k (get_or g.colours j 0 + 1) 0 (rw w.labels_long slot-low)) (omega (arith, (site-in j l).colour_low)))
              (λ e. rw (get_or-set_other L k i (get_or g.colours j 0 + 1) 0 e) (w.coloured i));
          marks_long = marked-long places (turn_by hs s k) ∙ w.marks_long;
          marked = marked-low places (turn_by hs s k) mark_count w.marked (turn_low hs s k);
          budget = omega (arith, w.budget);
          low = omega (arith, w.low);
          worth = less-price (price_in P p s v k) (in_words (after k) ss) sum-here ∙ rw (add-one j, add-one (get_or g.colours j 0));
          found = rw (add-one j, add-one (get_or g.colours j 0)) found-next;
        }

    pub written : write_ties out (drop j order) (walk_by (labels P) in_words x (drop j points))
        ≡ write_ties (with_tie order out j k) (drop (j + 1) order) (walk_by (labels P) in_words (set L k (get_or g.colours j 0 + 1), budget_left P p s v k, M') (drop (j + 1) points))
    unfolding write_ties walk_by
    written =
        rw (add-one j, add-one (get_or g.colours j 0), add-one (get_or order j 0), drop-cons order j 0 l, sites-left j l, ← chosen, next-after k) refl

  -- THE STEP, as the code makes it
  pub record Tied (j : ℕ) (L M out : List ℕ) (v here : ℕ) (t : Point) (p : Strip) (k : ℕ) : Type 0 where
    pub slot_low : k < length hs
    pub marks_in : MarksIn L M p.a k
    pub stands : Standing g work (set L k (t.c + 1)) (marked_at L M p.a (turn_by hs t k) k) (with_tie order out j k) (j + 1) (budget_left P p t v k) (here - price_in P p t v k)
    pub ties : tied_from g work L M out j v ≡ tied_from g work (set L k (t.c + 1)) (marked_at L M p.a (turn_by hs t k) k) (with_tie order out j k) (j + 1) (budget_left P p t v k)

  pub tied : {j : ℕ} {L M out : List ℕ} {v here k : ℕ} {t : Point} {p : Strip} {size : ℕ} → Standing g work L M out j v here × (j < length order)
      → t ≡ site j → p ≡ hold P L M t.y → size ≡ level_words g → k ≡ first (length hs) (keeps_cost g work ((j + 1) * size) p t L M v here)
      → Tied j L M out v here t p k
  tied {j} {L} {M} {out} {v} {here} {k} {t} {p} {size} (w, l) e held words tried =
      subst⁻¹ (λ (z : Point). p ≡ hold P L M z.y → k ≡ first (length hs) (keeps_cost g work ((j + 1) * size) p z L M v here) → Tied j L M out v here z p k) e
      (λ h f. let g = subst (λ (n : ℕ). k ≡ first (length hs) (keeps_cost g work ((j + 1) * n) p (site j) L M v here)) words f in
      record {
        slot_low = slot-low j L M out v here k l w p h g;
        marks_in = places j L M out v here k l w p h g;
        stands = standing j L M out v here k l w p h g;
        ties = written j L M out v here k l w p h g;
      })
      held tried

  -- from what the code has after it, each by its equation
  pub step_by : {j : ℕ} {L M out : List ℕ} {v here : ℕ} {t : Point} {p : Strip} {k : ℕ} → Tied j L M out v here t p k → (L₁ M₁ M₂ out₂ : List ℕ) (d left price rest : ℕ)
      → L₁ ≡ L → M₁ ≡ M → d ≡ turn_by hs t k → M₂ ≡ marked_at L₁ M₁ p.a d k → out₂ ≡ with_tie order out j k → left ≡ budget_left P p t v k → price ≡ price_in P p t v k → rest ≡ here - price
      → Standing g work (set L₁ k (t.c + 1)) M₂ out₂ (j + 1) left rest × (tied_from g work L M out j v ≡ tied_from g work (set L₁ k (t.c + 1)) M₂ out₂ (j + 1) left)
  step_by m L₁ M₁ M₂ out₂ d left price rest e f h i n o q r = rw (r, q, o, n, i, h, f, e) (m.stands, m.ties)

  -- with all sites tied nothing is written
  pub ended : (j : ℕ) (L M out : List ℕ) (v : ℕ) → j ≡ length order → out ≡ tied_from g work L M out j v
  unfolding write_ties
  ended j L M out v e = rw (drop_of_length-le order {i = j} (omega arith))
