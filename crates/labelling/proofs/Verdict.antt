-- What the judge's verdicts mean: the least broken rule is the least rule that, as a statement, does not hold; 0 means that all hold.
-- Assumes nothing but a layout in form.
use mathlib.Core.Path.{◌≡◌, refl, sym, subst, subst⁻¹}
use mathlib.Core.Logic.{◌⊎◌, inl, inr, ◌↔◌}
use mathlib.Core.Bool.{Bool, true, false, ◌&&◌, not, false≢true, cond}
use mathlib.Core.List.{List}
use Prim.Native.Nat.{ℕ, zero, suc, ◌<◌}
use native.Mathlib.Omega.{arith}
use lib.Dec.{eqb}
use lib.ListN.{length}
use borrow.Author.Tests.{eqb-true, eq-eqb}
use Rattle.sheet.specs.Sheet.{all, Sheet}
use Rattle.labelling.specs.Layout.{tied, colours_kept, bounds_kept, gaps_kept, misses_all, clears_all, count_of, length_of, stated_count, stated_length, is_layout, broken_by, layout_body, layout_ties}
use Rattle.labelling.specs.Lawful.{RuleSix, Lawful, Rule, LeastBroken}
use Rattle.lists.proofs.Tests.{by_order, by_equal, by-either, and_l, and_r, and_i}
use Rattle.labelling.proofs.Best.{low_ties}
use Rattle.labelling.proofs.Rules.{rule-one, rule-two, rule-three, rule-four, rule-five}
use Rattle.labelling.proofs.Words.{Formed, formed, formed-long, ties-low}

module _ (s : Sheet) (b : List ℕ) where
  -- the rules up to a number hold
  abbrev Upto : ℕ → Type 0
  Upto n = (j : ℕ) → j < suc n → Rule j s b

  none : Upto 0
  unfolding Rule
  none zero l = tt
  none (suc j) l = absurd (omega arith)

  more : (n : ℕ) → Upto n → Rule (suc n) s b → Upto (suc n)
  more n u r j l = by_equal j (suc n) (λ e. subst (λ (n : ℕ). Rule n s b) (sym e) r) λ e. u j (omega arith)

  past : (k : ℕ) → 6 < k → Rule k s b
  unfolding Rule
  past zero h = absurd (omega arith)
  past (suc zero) h = absurd (omega arith)
  past (suc (suc zero)) h = absurd (omega arith)
  past (suc (suc (suc zero))) h = absurd (omega arith)
  past (suc (suc (suc (suc zero)))) h = absurd (omega arith)
  past (suc (suc (suc (suc (suc zero))))) h = absurd (omega arith)
  past (suc (suc (suc (suc (suc (suc zero)))))) h = absurd (omega arith)
  past (suc (suc (suc (suc (suc (suc (suc n))))))) h = tt

  -- the first of six tests that fails, where each test is a rule
  abbrev Outcome : ℕ → Type 0
  Outcome v = ((v ≡ 0) × Upto 6) ⊎ ((0 < v) × (v < 7) × LeastBroken v s b)

  first : (t : Bool) (n v : ℕ) → n < 6 → (t ≡ true) ↔ Rule (suc n) s b → Upto n → (t ≡ true → Upto (suc n) → Outcome v) → Outcome (cond (not t) (suc n) v)
  first true n v l r u f = f refl (more n u (r.0 refl))
  first false n v l r u f = inr (omega arith, omega arith, record { lower = u; broken = λ q. false≢true (r.1 q) })

  six-iff : ((eqb (stated_count b) (count_of s (layout_ties b)) && eqb (stated_length b) (length_of s (layout_ties b))) ≡ true) ↔ RuleSix s b
  six-iff = pair (stated_count b) (count_of s (layout_ties b)) (stated_length b) (length_of s (layout_ties b))
    where
      pair : (c d l m : ℕ) → ((eqb c d && eqb l m) ≡ true) ↔ ((c ≡ d) × (l ≡ m))
      pair c d l m = (
        (λ h. (eqb-true c d (and_l (eqb c d) (eqb l m) h), eqb-true l m (and_r (eqb c d) (eqb l m) h))),
        λ r. and_i (eq-eqb c d r.0) (eq-eqb l m r.1),
      )

-- rule 6 follows the chain of rules 1 to 5
chain-six : (p q r t u x : Bool) →
    ◌≡◌ {A = ℕ} (cond (not (eqb (cond (not p) 1 (cond (not q) 2 (cond (not r) 3 (cond (not t) 4 (cond (not u) 5 0))))) 0))
    (cond (not p) 1 (cond (not q) 2 (cond (not r) 3 (cond (not t) 4 (cond (not u) 5 0))))) (cond x 0 6))
    (cond (not p) 1 (cond (not q) 2 (cond (not r) 3 (cond (not t) 4 (cond (not u) 5 (cond (not x) 6 0))))))
chain-six false q r t u x = refl
chain-six true false r t u x = refl
chain-six true true false t u x = refl
chain-six true true true false u x = refl
chain-six true true true true false x = refl
chain-six true true true true true false = refl
chain-six true true true true true true = refl

outcome : (s : Sheet) (b : List ℕ) → is_layout s b ≡ true → Outcome s b (broken_by s b)
unfolding Rule
outcome s b h =
    subst⁻¹ (Outcome s b) (chain-six (colours_kept (tied s js)) (bounds_kept s js 0 s.colours) (gaps_kept s (tied s js)) (all (misses_all s js) (tied s js)) (all (clears_all s js) (tied s js)) six)
    (first s b _ 0 _ (omega arith) (rule-one s js long) (none s b) λ p u. first s b _ 1 _ (omega arith) (rule-two s js long) u
    λ p u. first s b _ 2 _ (omega arith) (rule-three s js long) u λ p u. first s b _ 3 _ (omega arith) (rule-four s js long low) u
    λ p u. first s b _ 4 _ (omega arith) (rule-five s js long low) u λ p u. first s b _ 5 _ (omega arith) (six-iff s b) u λ p u. inl (refl, u))
  where
    js : List ℕ
    js = layout_ties b

    six : Bool
    six = eqb (stated_count b) (count_of s js) && eqb (stated_length b) (length_of s js)

    f : Formed s b
    f = formed s b h

    long : length js ≡ length s.sites
    long = formed-long s b f

    low : low_ties (length s.slots) js ≡ true
    low = ties-low s (layout_body b) f.ties

-- the least broken rule is one
least-one : (s : Sheet) (b : List ℕ) (j k : ℕ) → LeastBroken j s b → LeastBroken k s b → j ≡ k
least-one s b j k p q =
    by_equal j k (λ e. e) λ n. by_order j k (λ l. absurd (p.broken (q.lower j (omega arith)))) λ l. absurd (q.broken (p.lower k (omega arith)))

module _ (s : Sheet) (b : List ℕ) (h : is_layout s b ≡ true) where
  pub broken-least : (k : ℕ) → 0 < k → (broken_by s b ≡ k) ↔ LeastBroken k s b
  broken-least k l = (
    (λ e. by-either (outcome s b h) (λ o. absurd (omega arith)) λ o. subst (λ (n : ℕ). LeastBroken n s b) e o.2),
    λ p. by-either (outcome s b h)
        (λ o. by_order k 6 (λ g. absurd (p.broken (o.1 k (omega arith)))) λ g. absurd (p.broken (past s b k g)))
        λ o. least-one s b (broken_by s b) k o.2 p,
  )

  pub broken-lawful : (broken_by s b ≡ 0) ↔ Lawful s b
  unfolding Rule
  broken-lawful = (
    (λ e. by-either (outcome s b h)
        (λ o. record {
          rules = record { one = o.1 1 (omega arith); two = o.1 2 (omega arith); three = o.1 3 (omega arith); four = o.1 4 (omega arith); five = o.1 5 (omega arith) };
          six = o.1 6 (omega arith);
        })
        λ o. absurd (omega arith)),
    λ p. by-either (outcome s b h) (λ o. o.0) λ o. absurd (o.2.broken (holds p (broken_by s b))),
  )
    where
      holds : Lawful s b → (n : ℕ) → Rule n s b
      holds p zero = tt
      holds p (suc zero) = p.rules.one
      holds p (suc (suc zero)) = p.rules.two
      holds p (suc (suc (suc zero))) = p.rules.three
      holds p (suc (suc (suc (suc zero)))) = p.rules.four
      holds p (suc (suc (suc (suc (suc zero))))) = p.rules.five
      holds p (suc (suc (suc (suc (suc (suc zero)))))) = p.six
      holds p (suc (suc (suc (suc (suc (suc (suc n))))))) = tt
