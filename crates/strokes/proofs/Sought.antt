-- The number sought, one number a turn; and what it says of the list of strokes. Assumes nothing.
use mathlib.Core.Path.{◌≡◌, refl, ◌∙◌, ap}
use mathlib.Core.Bool.{Bool, true, false, cond}
use mathlib.Core.List.{List, ◌∷◌}
use Prim.Native.Nat.{ℕ, zero, suc, ◌+◌, ◌-◌, ◌<◌, ◌≤◌}
use native.Mathlib.Omega.{arith}
use lib.ListN.{length, get_or}
use Rattle.std.specs.Prelude.{Result, Ok, Err}
use Rattle.labelling.specs.Strokes.{Stroke, listed, no_stroke}
use Rattle.strokes.specs.Seeking.{sought_in}

-- A TURN: the number is found, or goes by
sought-here : (t : ℕ → Bool) (a n p : ℕ) → t a ≡ true → p ≡ 0 → Ok a ≡ sought_in t a (suc n) p
unfolding sought_in
sought-here t a n zero h z = rw h refl
sought-here t a n (suc p) h z = absurd (omega arith)

sought-next : (t : ℕ → Bool) (a n p : ℕ) → t a ≡ true → (p ≡ 0 → ⊥) → sought_in t (suc a) n (p - 1) ≡ sought_in t a (suc n) p
unfolding sought_in
sought-next t a n zero h z = absurd (z refl)
sought-next t a n (suc p) h z = rw h (ap (sought_in t (suc a) n) (omega arith))

sought-by : (t : ℕ → Bool) (a n p : ℕ) → t a ≡ false → sought_in t (suc a) n p ≡ sought_in t a (suc n) p
unfolding sought_in
sought-by t a n zero h = rw h refl
sought-by t a n (suc p) h = rw h refl

sought-none : (t : ℕ → Bool) (a n p : ℕ) → n ≡ 0 → Err p ≡ sought_in t a n p
unfolding sought_in
sought-none t a zero p h = refl
sought-none t a (suc n) p h = absurd (omega arith)

-- the same as a loop has them, at the number i of so many
module _ (t : ℕ → Bool) (i count left : ℕ) {r : Result ℕ ℕ} (e : sought_in t i (count - i) left ≡ r) where
  module _ (l : i < count) where
    one_more : sought_in t i (suc (count - suc i)) left ≡ r
    one_more = let z : suc (count - suc i) ≡ count - i = omega arith in ap (λ (n : ℕ). sought_in t i n left) z ∙ e

    -- the next is sought behind it
    behind_it : (n : ℕ) → sought_in t (suc i) (count - suc i) n ≡ r → sought_in t (i + 1) (count - (i + 1)) n ≡ r
    behind_it n h = let z : i + 1 ≡ suc i = omega arith in rw z h

    pub turn-here : t i ≡ true → left ≡ 0 → Ok i ≡ r
    turn-here h z = sought-here t i (count - suc i) left h z ∙ one_more

    pub turn-next : t i ≡ true → (left ≡ 0 → ⊥) → sought_in t (i + 1) (count - (i + 1)) (left - 1) ≡ r
    turn-next h z = behind_it (left - 1) (sought-next t i (count - suc i) left h z ∙ one_more)

    pub turn-by : t i ≡ false → sought_in t (i + 1) (count - (i + 1)) left ≡ r
    turn-by h = behind_it left (sought-by t i (count - suc i) left h ∙ one_more)

  pub turn-none : count ≤ i → Err left ≡ r
  turn-none l = sought-none t i (count - i) left (omega arith) ∙ e

-- WHAT IT SAYS: found, it is that of the stroke at the place; else the list is so much shorter
abbrev pub Placed : (ts : List Stroke) (f : ℕ → Stroke) (bound p : ℕ) → Result ℕ ℕ → Type 0
Placed ts f bound p (Ok i) = (p < length ts) × (get_or ts p no_stroke ≡ f i) × (i < bound)
Placed ts f bound p (Err left) = p ≡ length ts + left

later : (ts : List Stroke) (f : ℕ → Stroke) (p : ℕ) (r : Result ℕ ℕ) (a n : ℕ) → Placed ts f (suc a + n) p r → Placed ts f (a + suc n) p r
later ts f p (Ok i) a n h = (h.0, h.1, omega (arith, h.2))
later ts f p (Err left) a n h = h

behind : (ts : List Stroke) (f : ℕ → Stroke) (p : ℕ) (r : Result ℕ ℕ) (t : Stroke) (a n : ℕ) → Placed ts f (suc a + n) p r → Placed (t ∷ ts) f (a + suc n) (suc p) r
behind ts f p (Ok i) t a n h = (omega (arith, h.0), h.1, omega (arith, h.2))
behind ts f p (Err left) t a n h = omega (arith, h)

pub placed : (t : ℕ → Bool) (f : ℕ → Stroke) (a n p : ℕ) → Placed (listed t f a n) f (a + n) p (sought_in t a n p)
unfolding listed sought_in
placed t f a zero p = omega arith
placed t f a (suc n) zero = go (t a) (placed t f (suc a) n zero)
  where
    rest : List Stroke
    rest = listed t f (suc a) n

    go : (b : Bool) → Placed rest f (suc a + n) zero (sought_in t (suc a) n zero) →
        Placed (cond b (f a ∷ rest) rest) f (a + suc n) zero (cond b (Ok a) (sought_in t (suc a) n zero))
    go true h = (omega arith, refl, omega arith)
    go false h = later rest f zero (sought_in t (suc a) n zero) a n h
placed t f a (suc n) (suc p) = go (t a) (placed t f (suc a) n p) (placed t f (suc a) n (suc p))
  where
    rest : List Stroke
    rest = listed t f (suc a) n

    go : (b : Bool) → Placed rest f (suc a + n) p (sought_in t (suc a) n p) → Placed rest f (suc a + n) (suc p) (sought_in t (suc a) n (suc p)) →
        Placed (cond b (f a ∷ rest) rest) f (a + suc n) (suc p) (cond b (sought_in t (suc a) n p) (sought_in t (suc a) n (suc p)))
    go true h g = behind rest f p (sought_in t (suc a) n p) (f a) a n h
    go false h g = later rest f (suc p) (sought_in t (suc a) n (suc p)) a n g
