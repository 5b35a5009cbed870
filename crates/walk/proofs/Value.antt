-- REST over the words is the value of the state, where the rows of its strips hold the table; so the walk over the words is the
-- walk by the table. Assumes nothing but that the heights rise, the parts counts are right, and the table is, wherever it is asked.
use mathlib.Core.Path.{◌≡◌, refl, sym, ap, ap₂, ◌∙◌, subst}
use mathlib.Core.Bool.{cond}
use mathlib.Core.List.{List, [], ◌∷◌}
use Prim.Native.Nat.{ℕ, zero, suc, ◌+◌, ◌-◌, ◌*◌, ◌<◌}
use native.Mathlib.Omega.{arith}
use lib.Dec.{eqb}
use lib.ListN.{length, get_or, set, drop, length-set}
use lib.Seq.{get_or-drop, drop-drop}
use Rattle.lists.proofs.Tests.{by-test, by_order}
use Rattle.search.specs.Cost.{plus}
use Rattle.search.proofs.Cost.{least-cong, plus-past}
use Rattle.search.specs.Radix.{below}
use Rattle.search.specs.Split.{just, conv}
use Rattle.search.specs.Plan.{T}
use Rattle.search.specs.Walk.{choose_by, walk_by}
use Rattle.arrays.specs.declared.Measures.{Measures}
use Rattle.arrays.specs.Arrays.{instance_by}
use Rattle.optimum.specs.Strips.{Point, Strip, Instance, rules_of, hold, draw, strips, marked, State, price, next, labels, value}
use Rattle.optimum.specs.OneSided.{top_word}
use Rattle.optimum.specs.Cells.{cells, cell_of, join_cells, fold_cells, start_cells}
use Rattle.optimum.specs.Reached.{In, no_point, Reached, TableOf}
use Rattle.optimum.proofs.Slots.{Rising}
use Rattle.optimum.proofs.Levels.{value-rows}
use Rattle.search.specs.Sums.{listing}
use Rattle.search.proofs.Sums.{listing-same, length-listing}
use Rattle.optimum.proofs.Loops.{first_under, walk_step}
use Rattle.optimum.proofs.Reached.{reached-next, reached-rows}
use Rattle.optimum.proofs.StripsHeld.{next-fit}
use Rattle.arrays.proofs.Marks.{turn_low}
use Rattle.rows.specs.Budgets.{SplitsOf}
use Rattle.rows.proofs.Splitting.{split-by}
use Rattle.rows.specs.Rows.{level_size}
use Rattle.rows.specs.Rest.{row_start, split_row, join_row, fold_rows, rest_rows}
use Rattle.walk.specs.Walk.{Found, value_in}
use Rattle.rows.proofs.Folding.{join-long}

module _ (q : Measures) (hs bs rs ds : List ℕ) where
  abbrev P : Instance
  P = instance_by q hs bs rs ds

  module _ (parts counts work : List ℕ) (C R : ℕ) where
    pub level-cells : cells P C R ≡ level_size (length hs) C R
    level-cells = refl

    module _ (right : SplitsOf rs R parts counts) where
      join-same : (base : ℕ) (acc : List ℕ) (a ca b cb d : ℕ) → length acc ≡ R
          → join_row parts counts acc work (base + row_start (length hs) C R a ca b cb d) ≡ join_cells P C R (drop base work) acc (record { a = a; ca = ca; b = b; cb = cb; d = d })
      unfolding join_row join_cells conv
      join-same base acc a ca b cb d h =
          ap (listing (split_row parts counts acc work (base + row_start (length hs) C R a ca b cb d)) 0) h
          ∙ listing-same _ _ 0 R (λ v z l.
          split-by rs R parts counts right (λ w. get_or acc w 0) (λ w. get_or work (base + row_start (length hs) C R a ca b cb d + w) 0) v (omega arith)
          ∙ least-cong top_word (suc v) _ _ (λ w k. ap (λ (z : ℕ). cond (below rs w v) (plus top_word (get_or acc w 0) z) top_word) (word (v - w))))
        where
          word : (w : ℕ) → get_or work (base + row_start (length hs) C R a ca b cb d + w) 0
              ≡ get_or (drop base work) (cell_of P C R (record { a = a; ca = ca; b = b; cb = cb; d = d }) w) 0
          word w =
              ap (λ (z : ℕ). get_or work z 0) (later base (row_start (length hs) C R a ca b cb d) w) ∙ sym (get_or-drop base work (row_start (length hs) C R a ca b cb d + w) 0)
              ∙ (unfold cell_of in refl)
            where
              later : (b r w : ℕ) → b + r + w ≡ b + (r + w)
              later b r w = omega arith

      fold_same : (base : ℕ) (L M : List ℕ) (r i a ca : ℕ) (acc : List ℕ) → length acc ≡ R
          → fold_rows parts counts work base (length hs) C R r i a ca L M acc ≡ fold_cells P C R (drop base work) r i a ca L M acc
      unfolding fold_rows fold_cells
      fold_same base L M zero i a ca acc h = join-same base acc a ca (suc i) 0 (get_or M a 0) h
      fold_same base L M (suc r) i a ca acc h =
          by-test (eqb (get_or L i 0) 0)
          (λ e. rw e (fold_same base L M r (suc i) a ca acc h))
          (λ e. rw e (fold_same base L M r (suc i) (suc i) (get_or L i 0) _ (join-long parts counts acc work _ ∙ h)
          ∙ ap (fold_cells P C R (drop base work) r (suc i) (suc i) (get_or L i 0) L M) (join-same base acc a ca (suc i) (get_or L i 0) (get_or M a 0) h)))

      module _ (rising : Rising P.slots) where
        -- THE VALUE of a state is REST over the words, where the rows of its strips hold the table
        pub rest-value : (base : ℕ) (ss : List Point) (L M : List ℕ) (v : ℕ) → v < R
            → ((p : Strip) → In p (strips P L M) → (u : ℕ) → u < R → get_or work (base + cell_of P C R p u) 0 ≡ T (rules_of P) ss p u)
            → rest_rows parts counts work base (length hs) C R L M v ≡ value P (L, v, M) ss
        unfolding rest_rows
        rest-value base ss L M v l rows =
            ap (λ (z : List ℕ). get_or z v 0) (fold_same base L M (length hs) 0 0 0 (listing (just top_word 0 0) 0 R) (length-listing (just top_word 0 0) 0 R))
            ∙ (unfold start_cells in value-rows P C R rising (turn_low hs) (drop base work) ss (L, v, M) l (λ p i u lu. get_or-drop base work (cell_of P C R p u) 0 ∙ rows p i u lu))

        -- THE WALK over the words is the walk by the table, and finds a slot at each step
        module _ (points : List Point) (table : TableOf P C R points work) where
          abbrev in_words : State P → List Point → ℕ
          in_words = value_in P parts counts work C R (length points)

          -- the states that the walk meets
          pub record Met (j : ℕ) (L M : List ℕ) (v : ℕ) : Type 0 where
            pub long : length L ≡ length hs
            pub marks_long : length M ≡ suc (length hs)
            pub budget : v < R
            pub reached : (p : Strip) → In p (strips P L M) → Reached P points j p

          pub met-value : (j : ℕ) (ss : List Point) (L M : List ℕ) (v : ℕ) → drop j points ≡ ss → j + length ss ≡ length points → Met j L M v → in_words (L, v, M) ss ≡ value P (L, v, M) ss
          unfolding value_in
          met-value j ss L M v e n w =
              let b : (length points - length ss) * level_size (length hs) C R ≡ j * cells P C R = ap₂ (λ (x y : ℕ). x * y) (omega arith) (sym level-cells) in
              ap (λ (z : ℕ). rest_rows parts counts work z (length hs) C R L M v) b
              ∙ rest-value (j * cells P C R) ss L M v w.budget (λ p i u lu. reached-rows P C R points work table j (omega arith) p (w.reached p i) u lu ∙ ap (λ (z : List Point). T (rules_of P) z p u) e)

          point-at : (j : ℕ) (s : Point) (ss : List Point) → drop j points ≡ s ∷ ss → get_or points j no_point ≡ s
          point-at j s ss e =
              ap (λ (z : ℕ). get_or points z no_point) (omega arith) ∙ sym (get_or-drop j points 0 no_point) ∙ ap (λ (z : List Point). get_or z 0 no_point) e

          later : (j : ℕ) (s : Point) (ss : List Point) → drop j points ≡ s ∷ ss → drop (suc j) points ≡ ss
          later j s ss e = let z : suc j ≡ j + 1 = omega arith in ap (λ (z : ℕ). drop z points) z ∙ sym (drop-drop 1 j points) ∙ ap (drop 1) e

          next-is : (s : Point) (L M : List ℕ) (v k : ℕ) → next P (L, v, M) s k ≡ (set L k (suc s.c), v - draw P (hold P L M s.y) s k, marked P L M s k)
          unfolding next
          next-is s L M v k = refl

          after-long : (s : Point) (L M : List ℕ) (v k : ℕ) {j : ℕ} → Met j L M v → length (marked P L M s k) ≡ suc (length hs)
          after-long s L M v k w = unfold next in (next-fit P rising (L, v, M) s k (w.long, w.marks_long)).1

          met_next : (j : ℕ) (s : Point) (ss : List Point) (L M : List ℕ) (v k : ℕ) → drop j points ≡ s ∷ ss → Met j L M v → k < length hs → price P (L, v, M) s k < top_word
              → Met (suc j) (set L k (suc s.c)) (marked P L M s k) (v - draw P (hold P L M s.y) s k)
          met_next j s ss L M v k e w lk h =
              record {
                long = length-set L k (suc s.c) ∙ w.long;
                marks_long = after-long s L M v k w;
                budget = omega (arith, w.budget);
                reached = λ p i. reached-next P rising points j (L, v, M) k (w.long, w.marks_long) lk
                    (subst (λ (z : Point). price P (L, v, M) z k < top_word) (sym (point-at j s ss e)) h) w.reached p
                    (subst (λ (y : State P). In p (strips P y.0 y.2)) (sym (ap (λ (z : Point). next P (L, v, M) z k) (point-at j s ss e) ∙ next-is s L M v k)) i);
              }

          same_step : (j : ℕ) (s : Point) (ss : List Point) (L M : List ℕ) (v k : ℕ) → drop j points ≡ s ∷ ss → j + length (s ∷ ss) ≡ length points → Met j L M v → k < length hs
              → plus top_word (price P (L, v, M) s k) (in_words (next P (L, v, M) s k) ss) ≡ plus top_word (price P (L, v, M) s k) (value P (next P (L, v, M) s k) ss)
          same_step j s ss L M v k e n w lk =
              by_order top_word (price P (L, v, M) s k)
              (λ h. plus-past top_word (price P (L, v, M) s k) _ h ∙ sym (plus-past top_word (price P (L, v, M) s k) _ h))
              (λ h. ap (plus top_word (price P (L, v, M) s k)) (rw (next-is s L M v k) (met-value (suc j) ss _ _ _ (later j s ss e) (omega arith) (met_next j s ss L M v k e w lk h))))

          same-choice : (j : ℕ) (s : Point) (ss : List Point) (L M : List ℕ) (v : ℕ) → drop j points ≡ s ∷ ss → j + length (s ∷ ss) ≡ length points → Met j L M v
              → choose_by (labels P) in_words (L, v, M) s ss ≡ choose_by (labels P) (value P) (L, v, M) s ss
          unfolding choose_by
          same-choice j s ss L M v e n w = first_under (length hs) _ _ (λ k lk. ap₂ eqb (same_step j s ss L M v k e n w lk) (met-value j (s ∷ ss) L M v e n w))

          pub walk-right : (ss : List Point) (j : ℕ) (L M : List ℕ) (v : ℕ) → drop j points ≡ ss → j + length ss ≡ length points → Met j L M v → value P (L, v, M) ss < top_word
              → (walk_by (labels P) in_words (L, v, M) ss ≡ walk_by (labels P) (value P) (L, v, M) ss) × Found (labels P) in_words (L, v, M) ss
          unfolding walk_by Found
          walk-right [] j L M v e n w h = (refl, tt)
          walk-right (s ∷ ss) j L M v e n w h =
              let x : State P = (L, v, M) in
              let k = choose_by (labels P) (value P) x s ss in
              let c = same-choice j s ss L M v e n w in
              let o = walk_step P C R rising s ss x (w.long, w.marks_long) h in
              let r = walk-right ss (suc j) _ _ _ (later j s ss e) (omega arith) (met_next j s ss L M v k e w o.0 o.1) (rw (next-is s L M v k) at o.2) in
              rw (c, next-is s L M v k) (ap (λ (z : List ℕ). k ∷ z) r.0, (o.0, r.1))
