-- Refusal 7: P by a word, and P capped. Assumes nothing.
use mathlib.Core.Path.{◌≡◌, refl, sym, ap, ◌∙◌}
use mathlib.Core.Bool.{Bool, true, false, cond}
use mathlib.Core.List.{List, [], ◌∷◌}
use Prim.Native.Nat.{ℕ, ◌+◌, ◌*◌, ◌<◌, ◌≤◌}
use native.Mathlib.Nat.{one-mul, mul_assoc, mul-pos}
use native.Mathlib.Omega.{arith}
use lib.Dec.{eqb, ltb}
use lib.ListN.{length, get_or, drop}
use Rattle.lists.proofs.Places.{at}
use Rattle.lists.proofs.Tests.{by-test}
use Rattle.sheet.specs.Limits.{most_budgets, unbounded, byte_top}
use Rattle.sheet.specs.Sheet.{kind_of, bits, Colour, colours_in, product_of}
use Rattle.refusals.specs.Wordwise.{factor_of, capped}

by : (b : Bool) (n : ℕ) (q : ℕ) (c : Colour) (cs : List Colour) → cond (eqb c.bound unbounded) 1 (c.bound + 1) ≡ n → product_of cs ≡ q
    → product_of (cond b (c ∷ cs) cs) ≡ cond b n 1 * q
unfolding product_of
by true n q c cs e f = cc
by false n q c cs e f = f ∙ sym (one-mul q)

product-step : (s : List ℕ) (i : ℕ) → i < length s → product_of (colours_in (drop i s)) ≡ factor_of (get_or s i 0) * product_of (colours_in (drop (i + 1) s))
unfolding colours_in
product-step s i h = rw (at s i h) (by (eqb (kind_of (get_or s i 0)) 3) _ _ _ _ refl refl)

-- one turn: q is P of all, p the product so far, f the word's factor
pub product-next : (s : List ℕ) (i p f q : ℕ) → i < length s → q ≡ p * product_of (colours_in (drop i s)) → f ≡ factor_of (get_or s i 0) → q ≡ p * f * product_of (colours_in (drop (i + 1) s))
product-next s i p f q h e k =
    e ∙ ap (λ (n : ℕ). p * n) (product-step s i h ∙ ap (λ (n : ℕ). n * product_of (colours_in (drop (i + 1) s))) (sym k)) ∙
    sym (mul_assoc p f (product_of (colours_in (drop (i + 1) s))))

factor-by : (a b : Bool) (n : ℕ) → n < byte_top → cond a (cond b 1 (n + 1)) 1 ≤ byte_top
factor-by true true n h = omega arith
factor-by true false n h = omega arith
factor-by false b n h = omega arith

pub factor-le : (w : ℕ) → factor_of w ≤ byte_top
factor-le w = factor-by (eqb (kind_of w) 3) (eqb (bits w 0 8) unbounded) (bits w 0 8) (omega arith)

pos-by : (b : Bool) (n : ℕ) → 1 ≤ cond b 1 (n + 1)
pos-by true n = omega arith
pos-by false n = omega arith

pub product-pos : (cs : List Colour) → 1 ≤ product_of cs
unfolding product_of
product-pos [] = omega arith
product-pos (c ∷ cs) = mul-pos (pos-by (eqb c.bound unbounded) c.bound) (product-pos cs)

-- P capped is above the most where P is
pub capped-over : (n : ℕ) → ltb most_budgets (capped n) ≡ ltb most_budgets n
capped-over n = by-test (ltb most_budgets n) (λ e. rw e refl) (λ e. rw (e, e) refl)
