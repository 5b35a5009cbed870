-- A part of an area zeroed, one store a turn. Assumes nothing.
use mathlib.Core.Path.{◌≡◌, refl, sym, ap, subst, ◌∙◌}
use mathlib.Core.List.{List, ◌∷◌, ◌++◌, append_assoc}
use Prim.Native.Nat.{ℕ, zero, suc, ◌+◌, ◌-◌, ◌≤◌, ◌<◌}
use native.Mathlib.Numerals.{add-one}
use native.Mathlib.Omega.{arith}
use lib.ListN.{length, get_or, take, drop, set, replicate, length-append, length-replicate, take-append-drop, replicate-append-replicate, get_or-append}
use lib.Seq.{drop-cons, set_at, length-take-le, get_or-append-add, get_or-take, get_or-drop}
use Rattle.labelling.specs.Entry.{zeroed}

-- from the first word on
pub zeroed-front : (n : ℕ) (w : List ℕ) → zeroed 0 n w ≡ replicate n 0 ++ drop n w
zeroed-front n w = let z : n - 0 ≡ n = omega arith in rw z refl

pub zeroed-none : (a : ℕ) (w : List ℕ) → w ≡ zeroed a a w
zeroed-none a w = let z : a - a ≡ 0 = omega arith in rw z (sym (take-append-drop a w))

-- a store more, at a place k: it has to be the next one
pub zeroed-more : (a i k : ℕ) (w : List ℕ) → k ≡ i → a ≤ i → i < length w → set (zeroed a i w) k 0 ≡ zeroed a (i + 1) w
zeroed-more a i k w e h l =
    rw (e, drop-cons w i 0 l, ← append_assoc (take a w) (replicate (i - a) 0) (get_or w i 0 ∷ drop (suc i) w))
    (set_at (take a w ++ replicate (i - a) 0) (get_or w i 0) (drop (suc i) w) 0 i long ∙ append_assoc (take a w) (replicate (i - a) 0) (0 ∷ drop (suc i) w) ∙ last)
  where
    long : length (take a w ++ replicate (i - a) 0) ≡ i
    long = omega (arith, length-append (take a w) (replicate (i - a) 0), length-take-le a w (omega arith), length-replicate {A = ℕ} (i - a) 0)

    last : take a w ++ (replicate (i - a) 0 ++ (0 ∷ drop (suc i) w)) ≡ zeroed a (i + 1) w
    last =
        let z : i + 1 - a ≡ i - a + 1 = omega arith in
        rw (z, ← replicate-append-replicate {A = ℕ} (i - a) 1 0, add-one i, append_assoc (replicate (i - a) 0) (replicate 1 0) (drop (suc i) w)) refl

-- WORD BY WORD: before the part, in it, and after it
past : (xs ys : List ℕ) (a i : ℕ) → length xs ≡ a → get_or (xs ++ ys) (a + i) 0 ≡ get_or ys i 0
past xs ys a i e = subst (λ (z : ℕ). get_or (xs ++ ys) (z + i) 0 ≡ get_or ys i 0) e (get_or-append-add xs ys i 0)

zeros : (n i : ℕ) → get_or {A = ℕ} (replicate n 0) i 0 ≡ 0
zeros zero i = refl
zeros (suc n) zero = refl
zeros (suc n) (suc i) = zeros n i

module _ (a b : ℕ) (w : List ℕ) (h : a ≤ b) (l : b ≤ length w) where
  front_long : length (take a w) ≡ a
  front_long = length-take-le a w (omega arith)

  part-long : length (replicate {A = ℕ} (b - a) 0) ≡ b - a
  part-long = length-replicate (b - a) 0

  pub zeroed-before : (i : ℕ) → i < a → get_or (zeroed a b w) i 0 ≡ get_or w i 0
  zeroed-before i k = get_or-append (take a w) _ 0 i (omega (arith, front_long)) ∙ get_or-take a w i 0 k

  pub zeroed-inside : (i : ℕ) → i < b - a → get_or (zeroed a b w) (a + i) 0 ≡ 0
  zeroed-inside i k =
      past (take a w) _ a i front_long ∙ get_or-append (replicate (b - a) 0) (drop b w) 0 i (omega (arith, part-long)) ∙ zeros (b - a) i

  pub zeroed-after : (i : ℕ) → b ≤ i → get_or (zeroed a b w) i 0 ≡ get_or w i 0
  zeroed-after i k =
      let e : i ≡ a + (b - a + (i - b)) = omega arith in
      let f : b + (i - b) ≡ i = omega arith in
      ap (λ (z : ℕ). get_or (zeroed a b w) z 0) e ∙ past (take a w) _ a (b - a + (i - b)) front_long ∙ past (replicate (b - a) 0) (drop b w) (b - a) (i - b) part-long
      ∙ get_or-drop b w (i - b) 0 ∙ ap (λ (z : ℕ). get_or w z 0) f
