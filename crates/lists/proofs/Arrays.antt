-- Arrays of a fixed size: what was written, then zeros. Assumes nothing.
use mathlib.Core.Path.{◌≡◌, refl, ap, ap₂, ◌∙◌}
use mathlib.Core.List.{List, [], ◌∷◌, ◌++◌}
use Prim.Native.Nat.{ℕ, zero, suc, ◌-◌, ◌≤◌}
use native.Mathlib.Omega.{arith}
use lib.ListN.{length, length-append, get_or, take, drop, replicate}
use lib.Seq.{take_at}
use Rattle.lists.specs.Arrays.{padded}

drop-zeros : (n k : ℕ) → drop {A = ℕ} k (replicate n 0) ≡ replicate (n - k) 0
drop-zeros n zero = let e : n ≡ n - 0 = omega arith in ap (λ (z : ℕ). replicate {A = ℕ} z 0) e
drop-zeros zero (suc k) = let e : 0 ≡ 0 - suc k = omega arith in ap (λ (z : ℕ). replicate {A = ℕ} z 0) e
drop-zeros (suc n) (suc k) = let e : n - k ≡ suc n - suc k = omega arith in drop-zeros n k ∙ ap (λ (z : ℕ). replicate {A = ℕ} z 0) e

-- what was written over the front of zeros
pub padded-of : (l m : List ℕ) (n k : ℕ) → l ≡ m → k ≡ length m → l ++ drop k (replicate n 0) ≡ padded n m
padded-of l m n k e f = ap₂ (λ (a b : List ℕ). a ++ b) e (drop-zeros n k ∙ ap (λ (z : ℕ). replicate (n - z) 0) f)

-- an array's front part is the list that was written
pub padded-front : (n : ℕ) (l : List ℕ) (k : ℕ) → k ≡ length l → take k (padded n l) ≡ l
padded-front n l k e = ap (λ (z : ℕ). take z (padded n l)) e ∙ take_at l (replicate (n - length l) 0) (length l) refl

-- zeros past a list are what it has there anyway
zeros-at : (n i : ℕ) → get_or {A = ℕ} (replicate n 0) i 0 ≡ 0
zeros-at zero i = refl
zeros-at (suc n) zero = refl
zeros-at (suc n) (suc i) = zeros-at n i

more-at : (l : List ℕ) (n i : ℕ) → get_or (l ++ replicate n 0) i 0 ≡ get_or l i 0
more-at [] n i = zeros-at n i
more-at (x ∷ l) n zero = refl
more-at (x ∷ l) n (suc i) = more-at l n i

pub padded-at : (n : ℕ) (l : List ℕ) (i : ℕ) → get_or (padded n l) i 0 ≡ get_or l i 0
padded-at n l i = more-at l (n - length l) i

pub padded-long : (n : ℕ) (l : List ℕ) → length l ≤ length (padded n l)
padded-long n l = omega (arith, length-append l (replicate (n - length l) 0))
