-- The decisions' equations, and that radices and draws have no part in them. Assumes nothing.
use mathlib.Core.Path.{◌≡◌, refl, sym, ap, ap₂, ◌∙◌}
use mathlib.Core.Bool.{Bool, true, false, cond, not, ◌&&◌, ◌||◌}
use mathlib.Core.List.{List}
use Prim.Native.Nat.{ℕ, suc, ◌+◌}
use native.Mathlib.Omega.{arith}
use lib.Dec.{eqb, ltb}
use lib.ListN.{length, get_or}
use Rattle.lists.proofs.Tests.{not_f}
use Rattle.sheet.specs.Limits.{unbounded}
use Rattle.optimum.specs.Slots.{over, under, far_from, clear_from}
use Rattle.optimum.specs.Strips.{Point, Strip, inside, opens, joins_up, joins_down, cost}
use Rattle.optimum.specs.OneSided.{top_word, has_slot}
use Rattle.optimum.proofs.Neighbours.{opens-e}
use Rattle.arrays.specs.declared.Measures.{Measures}
use Rattle.arrays.specs.Arrays.{slots_by, held_by, instance_by}
use Rattle.strips.specs.Strips.{instance_on, gap_left, site_opens, open_cost, join_cost}

-- whatever the radices and draws
module _ (q : Measures) (hs bs rs ds : List ℕ) where
  pub inside_on : (p : Strip) (s : Point) → inside (instance_by q hs bs rs ds) p s ≡ inside (instance_on q hs bs) p s
  unfolding inside over under
  inside_on p s = refl

  pub opens-on : (p : Strip) (s : Point) (k : ℕ) → opens (instance_by q hs bs rs ds) p s k ≡ opens (instance_on q hs bs) p s k
  unfolding opens far_from clear_from
  opens-on p s k = refl

  pub joins-up-on : (p : Strip) (s : Point) (k : ℕ) → joins_up (instance_by q hs bs rs ds) p s k ≡ joins_up (instance_on q hs bs) p s k
  unfolding joins_up clear_from
  joins-up-on p s k = refl

  pub joins-down-on : (p : Strip) (s : Point) (k : ℕ) → joins_down (instance_by q hs bs rs ds) p s k ≡ joins_down (instance_on q hs bs) p s k
  unfolding joins_down clear_from
  joins-down-on p s k = refl

  pub cost-on : (p : Strip) (s : Point) (k : ℕ) → cost (instance_by q hs bs rs ds) p s k ≡ cost (instance_on q hs bs) p s k
  unfolding cost opens joins_up joins_down far_from clear_from
  cost-on p s k = refl

-- `opens`, by the slot's place, the gap it leaves, what does not turn on it, and that it is not barred
pub opens-split : (q : Measures) (hs bs : List ℕ) (p : Strip) (s : Point) (k : ℕ)
    → opens (instance_on q hs bs) p s k ≡ (ltb p.a (k + 1) && ltb (k + 1) p.b && ltb k (length hs)) && (gap_left (slots_by q hs) p s k && (site_opens (instance_on q hs bs) p s && not (has_slot s.barred k)))
unfolding opens gap_left site_opens
opens-split q hs bs p s k =
    let P = instance_on q hs bs in
    let e : k + 1 ≡ suc k = omega arith in
    regroup (ltb p.a (suc k)) (ltb (suc k) p.b) (ltb k (length hs)) (far_from (slots_by q hs) p.a p.ca k (suc s.c)) (far_from (slots_by q hs) p.b p.cb k (suc s.c))
    (clear_from (slots_by q hs) p.a s.y) (clear_from (slots_by q hs) p.b s.y) (not (eqb (get_or bs s.c unbounded) 0)) (not (has_slot s.barred k)) (not (held_by hs p s))
    ∙ ap (λ (z : ℕ). (ltb p.a z && ltb z p.b && ltb k (length hs)) && (gap_left (slots_by q hs) p s k && (site_opens P p s && not (has_slot s.barred k)))) (sym e)
  where
    regroup : (a b c d e f g h i j : Bool) → (((((((((a && b) && c) && d) && e) && f) && g) && h) && i) && j) ≡ (((a && b) && c) && ((d && e) && ((((f && g) && h) && j) && i)))
    regroup false b c d e f g h i j = refl
    regroup true false c d e f g h i j = refl
    regroup true true false d e f g h i j = refl
    regroup true true true false e f g h i j = refl
    regroup true true true true false f g h i j = refl
    regroup true true true true true false g h i j = refl
    regroup true true true true true true false h i j = refl
    regroup true true true true true true true false i j = refl
    regroup true true true true true true true true false true = refl
    regroup true true true true true true true true false false = refl
    regroup true true true true true true true true true false = refl
    regroup true true true true true true true true true true = refl

-- a slot where a label may be opened is not barred
pub opens-free : (q : Measures) (hs bs : List ℕ) (p : Strip) (s : Point) (k : ℕ) → opens (instance_on q hs bs) p s k ≡ true → has_slot s.barred k ≡ false
opens-free q hs bs p s k e = not_f _ (opens-e (instance_on q hs bs) p s k e).5

pub joins-down-by : (q : Measures) (hs bs : List ℕ) (p : Strip) (s : Point) (k : ℕ)
    → joins_down (instance_on q hs bs) p s k ≡ eqb p.b (k + 1) && ltb k (length hs) && eqb p.cb (s.c + 1) && clear_from (slots_by q hs) p.a s.y
unfolding joins_down
joins-down-by q hs bs p s k =
    ap₂ (λ (i j : ℕ). eqb p.b i && ltb k (length hs) && eqb p.cb j && clear_from (slots_by q hs) p.a s.y) (omega arith) (omega arith)

-- what a step costs, by what it does
module _ (q : Measures) (hs bs : List ℕ) (p : Strip) (s : Point) (k : ℕ) where
  pub cost-opens : opens (instance_on q hs bs) p s k ≡ true → cost (instance_on q hs bs) p s k ≡ open_cost q hs s k
  unfolding cost
  cost-opens e = rw (e, opens-free q hs bs p s k e)

  pub cost-joins : opens (instance_on q hs bs) p s k ≡ false → cost (instance_on q hs bs) p s k ≡ cond (joins_up (instance_on q hs bs) p s k || joins_down (instance_on q hs bs) p s k) (join_cost q hs s k) top_word
  unfolding cost
  cost-joins e = rw e
