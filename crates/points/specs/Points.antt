-- A whole number of units as a 32-bit float in points: one point is eight units. Assumes nothing: these are definitions.
use Rattle.std.specs.Prelude.{◌≡◌, false, ℕ, ◌*◌, ◌≤◌, T, pos, Float}
use Rattle.std.specs.Float.{nan, inf, fin, binary32}
use Rattle.std.specs.Float.Ieee.{prec, up, down, odd, fits}

-- the greatest x, y, height or width of any sheet: wall charts reach it (document 02 (h)). It has 18 binary digits, and a 32-bit float keeps 24
abbrev pub widest_number : ℕ
widest_number = 262143

-- EIGHT TIMES THE FLOAT IS THE WHOLE NUMBER, and zero is plus zero. The float `fin s m e` is the number m * 2 ^ e itself, negative where s is true,
-- and 2 ^ e is up e / down e. So nothing is rounded here, and neither an infinity nor minus zero nor what is not a number is an eighth of any n
abbrev pub IsEighth : ℕ → Float → Type 0
IsEighth n nan = ⊥
IsEighth n (inf s) = ⊥
IsEighth n (fin s m e) = (s ≡ false) × (8 * (m * up e) ≡ n * down e)

-- n * 2 ^ 0 / 2 ^ 3 with a plus sign, in the one way that lib.Ieee writes a number
unfoldable pub in_points : ℕ → Float
unfolding odd
in_points n = odd (prec binary32) false n 0 3

-- WHAT IS PROMISED of every number up to the greatest: a 32-bit float holds its eighth, exactly, and no other float is that; zero is plus
-- zero; and the float says which number it is, so no coordinate loses anything
pub record PointsExact : Type 0 where
  pub held : (n : ℕ) → n ≤ widest_number → T (fits binary32 (in_points n))
  pub exact : (n : ℕ) → n ≤ widest_number → IsEighth n (in_points n)
  pub only : (n : ℕ) (x : Float) → n ≤ widest_number → T (fits binary32 x) → IsEighth n x → x ≡ in_points n
  pub plus-zero : in_points 0 ≡ fin false 0 (pos 0)
  pub lossless : (n k : ℕ) (x : Float) → IsEighth n x → IsEighth k x → n ≡ k
