-- The input's words: one for each four bytes. Assumes nothing.
use mathlib.Core.Path.{◌≡◌, refl}
use mathlib.Core.List.{List, [], ◌∷◌}
use Prim.Native.Nat.{ℕ, suc, ◌*◌, ◌/◌, ◌<◌, ◌≤◌, zero}
use native.Mathlib.Omega.{arith}
use lib.ListN.{length, get_or}
use Rattle.std.specs.Simd.{first_chunks}
use Rattle.std.specs.Int.{w32, from_le_bytes}
use Rattle.report.specs.Input.{words_in}

-- the bytes in fours, as `as_chunks` has them
abbrev pub fours : List ℕ → List (List ℕ)
fours s = first_chunks 4 (length s / 4) s

fours-more : (a b c d : ℕ) (s : List ℕ) → fours (a ∷ b ∷ c ∷ d ∷ s) ≡ (a ∷ b ∷ c ∷ d ∷ []) ∷ fours s
fours-more a b c d s = let e : length (a ∷ b ∷ c ∷ d ∷ s) / 4 ≡ suc (length s / 4) = omega arith in rw e refl

-- the word of the i-th four
pub word_at : (s : List ℕ) (i : ℕ) → i < length s / 4 → get_or (words_in s) i 0 ≡ from_le_bytes w32 (get_or (fours s) i [])
unfolding words_in
word_at [] i h = absurd (omega arith)
word_at (a ∷ []) i h = absurd (omega arith)
word_at (a ∷ b ∷ []) i h = absurd (omega arith)
word_at (a ∷ b ∷ c ∷ []) i h = absurd (omega arith)
word_at (a ∷ b ∷ c ∷ d ∷ s) zero h = rw (fours-more a b c d s) (omega arith)
word_at (a ∷ b ∷ c ∷ d ∷ s) (suc i) h = rw (fours-more a b c d s) (word_at s i (omega arith))

pub words-long : (s : List ℕ) → length (words_in s) ≡ length s / 4
unfolding words_in
words-long [] = omega arith
words-long (a ∷ []) = omega arith
words-long (a ∷ b ∷ []) = omega arith
words-long (a ∷ b ∷ c ∷ []) = omega arith
words-long (a ∷ b ∷ c ∷ d ∷ s) = omega (arith, words-long s)

pub words-fit : (s : List ℕ) → 4 * length (words_in s) ≤ length s
words-fit s = omega (arith, words-long s)
