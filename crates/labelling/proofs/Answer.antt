-- THE ANSWER: `best s` is js exactly when js is lawful and nothing lawful is better; none exactly when nothing is lawful; and there
-- are no two such js. By tests (`First`, what a maker's proof shows) and by document 01's statements (`IsAnswer`).
-- Assumes nothing but that the sheet is accepted.
use mathlib.Core.Path.{◌≡◌, refl, ap}
use mathlib.Core.Logic.{◌↔◌}
use mathlib.Core.Bool.{false}
use mathlib.Core.List.{List}
use mathlib.Core.Option.{Option, none, some}
use Prim.Native.Nat.{ℕ}
use native.Mathlib.Omega.{arith}
use lib.Dec.{ltb}
use lib.ListN.{length}
use borrow.Author.Tests.{lt-ltb}
use Rattle.sheet.specs.Sheet.{Sheet, sheet_in}
use Rattle.labelling.specs.Layout.{is_better, best}
use Rattle.labelling.specs.Lawful.{Ties, Rules, IsAnswer}
use Rattle.labelling.specs.Promise.{OneAnswer}
use Rattle.lists.proofs.Tests.{clash, is_false}
use Rattle.labelling.proofs.Members.{at_all}
use Rattle.labelling.proofs.Best.{Obeys, low-at, IsBest, best-is, best-some, best_none, better-total}
use Rattle.labelling.proofs.ByRank.{by_rank-same}
use Rattle.labelling.proofs.Earlier.{better-e, better-i}
use Rattle.labelling.proofs.Rules.{obeys-rules, rules-obey}
use Rattle.sheet.proofs.Accepted.{Sound, sound, low-x}

-- ONE ANSWER: of two that obey, one is better, or they are the same
pub obeys-same : (s : Sheet) → Sound s → (js ks : List ℕ) → Obeys s js → Obeys s ks → is_better s js ks ≡ false → is_better s ks js ≡ false → js ≡ ks
obeys-same s o js ks j k p q = by_rank-same s js ks j.long k.long o.differ (low-x s.sites o.xs o.ys) (better-total s js ks p q)

-- THE CHARACTERISATION of `best`, the other way
pub best-unique : (s : Sheet) → Sound s → (js : List ℕ) → Obeys s js → ((ks : List ℕ) → Obeys s ks → is_better s ks js ≡ false) → best s ≡ some js
best-unique s o js j f = go (best s) (best-is s)
  where
    go : (r : Option (List ℕ)) → IsBest s (Obeys s) r → r ≡ some js
    go none h = absurd (h js j)
    go (some ks) h = ap some (obeys-same s o ks js h.0 j (f ks h.0) (h.1 js j))

pub best-empty : (s : Sheet) → ((ks : List ℕ) → Obeys s ks → ⊥) → best s ≡ none
best-empty s f = go (best s) (best-is s)
  where
    go : (r : Option (List ℕ)) → IsBest s (Obeys s) r → r ≡ none
    go none h = refl
    go (some ks) h = absurd (f ks h.0)

-- BY TESTS: js obeys rules 1 to 5 and none that does is better
pub record First (s : Sheet) (js : List ℕ) : Type 0 where
  pub obeys : Obeys s js
  pub least : (ks : List ℕ) → Obeys s ks → is_better s ks js ≡ false

pub best-some-iff : (s : Sheet) → Sound s → (js : List ℕ) → (best s ≡ some js) ↔ First s js
best-some-iff s o js =
    ((λ e. let t = best-some s js e in record { obeys = t.0; least = t.1 }), λ f. best-unique s o js f.obeys f.least)

pub best-none-iff : (s : Sheet) → (best s ≡ none) ↔ ((ks : List ℕ) → Obeys s ks → ⊥)
best-none-iff s = (best_none s, best-empty s)

-- BY STATEMENTS
ties-obey : (s : Sheet) (js : List ℕ) → Ties s js → Rules s js → Obeys s js
ties-obey s js t r =
    rules-obey s js t.long (at_all (λ j. ltb j (length s.slots)) 0 js λ i l. lt-ltb _ _ (t.low i (omega (arith, t.long)))) r

obey-ties : (s : Sheet) (js : List ℕ) → Obeys s js → Ties s js
obey-ties s js o = record { long = o.long; low = λ i l. low-at (length s.slots) js o.low i (omega (arith, o.long)) }

first-answer : (s : Sheet) → Sound s → (js : List ℕ) → (First s js) ↔ (IsAnswer s js)
first-answer s o js = (
  (λ f. record {
    ties = obey-ties s js f.obeys;
    rules = obeys-rules s js f.obeys;
    first = λ ks t r h. let b = ties-obey s ks t r in clash (better-i s o ks js t.long f.obeys.long h) (f.least ks b);
  }),
  λ a. record {
    obeys = ties-obey s js a.ties a.rules;
    least = λ ks b. is_false (is_better s ks js) λ h. a.first ks (obey-ties s ks b) (obeys-rules s ks b) (better-e s o ks js b.long a.ties.long h);
  },
)

pub answer-is : (s : Sheet) → Sound s → (js : List ℕ) → (best s ≡ some js) ↔ (IsAnswer s js)
answer-is s o js = ((λ e. (first-answer s o js).0 ((best-some-iff s o js).0 e)), λ a. (best-some-iff s o js).1 ((first-answer s o js).1 a))

pub answer-none : (s : Sheet) → (best s ≡ none) ↔ ((js : List ℕ) → Ties s js → Rules s js → ⊥)
answer-none s = ((λ e js t r. best_none s e js (ties-obey s js t r)), λ f. best-empty s λ ks b. f ks (obey-ties s ks b) (obeys-rules s ks b))

pub answer-one : (s : Sheet) → Sound s → (js ks : List ℕ) → IsAnswer s js → IsAnswer s ks → js ≡ ks
answer-one s o js ks p q =
    let f = (first-answer s o js).1 p in
    let g = (first-answer s o ks).1 q in
    obeys-same s o js ks f.obeys g.obeys (g.least js f.obeys) (f.least ks g.obeys)

pub one_answer : OneAnswer
one_answer ws h = (answer-is (sheet_in ws) (sound ws h), answer-none (sheet_in ws), answer-one (sheet_in ws) (sound ws h))
