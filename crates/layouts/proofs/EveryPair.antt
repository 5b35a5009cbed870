-- Where no pair has a flaw, every two tied sites pass every test. Assumes nothing.
use mathlib.Core.Path.{◌≡◌, sym, ap₂, ◌∙◌, subst}
use mathlib.Core.Bool.{Bool, true, false, ◌&&◌, ◌||◌, not, cond}
use Prim.Native.Nat.{ℕ, zero, suc, ◌+◌, ◌-◌, ◌<◌, ◌≤◌}
use native.Mathlib.Omega.{arith}
use Rattle.lists.proofs.Tests.{by-test, by_order, by_equal, and_both, eqb-self, eqb-sym, same_test}
use Rattle.labelling.specs.Counted.{all_before, sum_before}
use Rattle.labelling.specs.Layout.{far_by}
use Rattle.labelling.proofs.Distances.{far-sym}
use Rattle.labelling.proofs.Counted.{before-all, all-before}
use Rattle.layouts.specs.Flaws.{passes_both, passes_one, flaw_of}
use Rattle.rules.specs.Rules.{colours_pass, gaps_pass, misses_pass, clears_pass}
use Rattle.words.specs.declared.tied.TiedSite.{TiedSite}
use Rattle.words.specs.declared.tied.Head.{Head}
use Rattle.layouts.specs.Model.{PairTest, flaws_at, passes_from, pairs_pass, AsksBoth, AllPairsPass}

-- A PAIR
turned-colours : (t u : TiedSite) → colours_pass t u ≡ colours_pass u t
turned-colours t u = ap₂ (λ (a b : Bool). not a || b) (eqb-sym t.slot u.slot) (eqb-sym t.colour u.colour)

turned-gaps : (h : Head) (t u : TiedSite) → gaps_pass h t u ≡ gaps_pass h u t
turned-gaps h t u =
    ap₂ ◌||◌ (eqb-sym t.slot u.slot) (same_test (far_by h.gap t.height u.height) (far_by h.gap u.height t.height) (far-sym h.gap t.height u.height) (far-sym h.gap u.height t.height))

turned : (h : Head) (t u : TiedSite) → passes_both h t u ≡ passes_both h u t
turned h t u = ap₂ ◌&&◌ (turned-colours t u) (turned-gaps h t u)

-- all that is asked of one beside the other
record Beside (h : Head) (t u : TiedSite) : Type 0 where
  colours : colours_pass t u ≡ true
  gaps : gaps_pass h t u ≡ true
  misses : misses_pass h t u ≡ true
  clears : clears_pass h t u ≡ true

passes-all : (h : Head) (t u : TiedSite) → passes_both h t u ≡ true → passes_one h t u ≡ true → Beside h t u
passes-all h t u a b =
    let p = and_both (colours_pass t u) (gaps_pass h t u) a in
    let q = and_both (misses_pass h t u) (clears_pass h t u) b in
    record { colours = p.0; gaps = p.1; misses = q.0; clears = q.1 }

flawless : (h : Head) (t u : TiedSite) → flaw_of h t u ≡ 0 → Beside h t u × Beside h u t
unfolding flaw_of
flawless h t u e =
    let a = and_both (passes_both h t u) (passes_one h t u && passes_one h u t) (by-test (passes_both h t u && (passes_one h t u && passes_one h u t)) (λ q. q) (λ q. absurd (omega (arith, fails _ q e)))) in
    let b = and_both (passes_one h t u) (passes_one h u t) a.1 in
    (passes-all h t u a.0 b.0, passes-all h u t (sym (turned h t u) ∙ a.0) b.1)
  where
    fails : (b : Bool) → b ≡ false → ◌≡◌ {A = ℕ} (cond b 0 1) 0 → ◌≡◌ {A = ℕ} 1 0
    fails b q e = rw q at e

-- beside itself a site passes
self : (h : Head) (t : TiedSite) → Beside h t t
self h t = record { colours = rw (eqb-self t.slot, eqb-self t.colour); gaps = rw (eqb-self t.slot); misses = rw (eqb-self t.slot); clears = rw (eqb-self t.slot) }

-- RULES THAT ASK THE SAME OF BOTH: each two looked at once
pub colours-both : AsksBoth (λ h t u. colours_pass t u)
colours-both h t u = turned-colours t u

pub gaps-both : AsksBoth gaps_pass
gaps-both = turned-gaps

pub pairs-all : (r : PairTest) (h : Head) (ts : ℕ → TiedSite) (n : ℕ) → all_before (λ i. passes_from r h ts 0 n (ts i)) n ≡ pairs_pass r h ts n
pairs-all r h ts n =
    same_test (all_before (λ i. passes_from r h ts 0 n (ts i)) n) (pairs_pass r h ts n)
    (λ e. before-all _ n λ i l. before-all _ n λ j m. let q : 0 + j ≡ j = omega arith in subst (λ (z : ℕ). r h (ts i) (ts z) ≡ true) q (all-before _ (n - 0) (all-before _ n e i l) j (omega arith)))
    (λ e. before-all _ n λ i l. before-all _ (n - 0) λ k m. all-before _ n (all-before _ n e i l) (0 + k) (omega arith))

pub pairs-once : (r : PairTest) → AsksBoth r → (h : Head) (ts : ℕ → TiedSite) (n : ℕ) → all_before (λ i. passes_from r h ts i n (ts i)) n ≡ pairs_pass r h ts n
pairs-once r b h ts n =
    same_test (all_before (λ i. passes_from r h ts i n (ts i)) n) (pairs_pass r h ts n)
    (λ e. before-all _ n λ i l. before-all _ n λ j m. by_order i j (λ o. from e i j m o) (λ o. b h (ts i) (ts j) ∙ from e j i l (omega arith)))
    (λ e. before-all _ n λ i l. before-all _ (n - i) λ k m. all-before _ n (all-before _ n e i l) (i + k) (omega arith))
  where
    from : all_before (λ i. passes_from r h ts i n (ts i)) n ≡ true → (i j : ℕ) → j < n → i ≤ j → r h (ts i) (ts j) ≡ true
    from e i j m o = let q : i + (j - i) ≡ j = omega arith in subst (λ (z : ℕ). r h (ts i) (ts z) ≡ true) q (all-before _ (n - i) (all-before _ n e i (omega arith)) (j - i) (omega arith))

-- A SUM that comes to nothing
zero-at : (f : ℕ → ℕ) (n : ℕ) → sum_before f n ≡ 0 → (i : ℕ) → i < n → f i ≡ 0
unfolding sum_before
zero-at f zero e i l = absurd (omega arith)
zero-at f (suc n) e i l =
    by_equal i n (λ q. subst (λ (z : ℕ). f z ≡ 0) (sym q) (omega (arith, e))) (λ q. zero-at f n (omega (arith, e)) i (omega arith))

pub flaw-low : (h : Head) (t u : TiedSite) {n : ℕ} → n ≡ flaw_of h t u → n ≤ 1
unfolding flaw_of
flaw-low h t u {n} q = omega (arith, one (passes_both h t u && (passes_one h t u && passes_one h u t)), q)
  where
    one : (b : Bool) → ◌≤◌ (cond b 0 1) 1
    one true = omega arith
    one false = omega arith

-- EVERY PAIR
module _ (h : Head) (ts : ℕ → TiedSite) (n : ℕ) (f : (i : ℕ) → i < n → flaws_at h ts i ≡ 0) where
  at : (i j : ℕ) → i < n → j < i → Beside h (ts i) (ts j) × Beside h (ts j) (ts i)
  at i j l o = flawless h (ts i) (ts j) (zero-at (λ j. flaw_of h (ts i) (ts j)) i (f i l) j o)

  each : (i j : ℕ) → i < n → j < n → Beside h (ts i) (ts j)
  each i j l m =
      by_order i j
      (λ o. by_equal i j (λ q. subst (λ (z : ℕ). Beside h (ts i) (ts z)) q (self h (ts i))) (λ q. (at j i m (omega arith)).1))
      (λ o. (at i j l o).0)

  test : (r : PairTest) → ((t u : TiedSite) → Beside h t u → r h t u ≡ true) → pairs_pass r h ts n ≡ true
  test r p = before-all _ n λ i l. before-all _ n λ j m. p (ts i) (ts j) (each i j l m)

  pub every-pair : AllPairsPass h ts n
  every-pair =
      record {
        colours = test (λ h t u. colours_pass t u) (λ t u b. b.colours);
        gaps = test gaps_pass (λ t u b. b.gaps);
        misses = test misses_pass (λ t u b. b.misses);
        clears = test clears_pass (λ t u b. b.clears);
      }
