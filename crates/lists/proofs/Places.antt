-- A test that goes through a list place by place: its value from a place on, from what stands at that place. Assumes nothing.
use mathlib.Core.Path.{◌≡◌, refl, sym, ap, ◌∙◌}
use mathlib.Core.Bool.{Bool, true, false, ◌&&◌, ◌||◌}
use mathlib.Core.List.{List, [], ◌∷◌}
use Prim.Native.Nat.{ℕ, zero, suc, ◌+◌, ◌-◌, ◌<◌}
use native.Mathlib.Numerals.{add-one}
use native.Mathlib.Omega.{arith}
use lib.ListN.{length, get_or, take, drop, length-drop}
use lib.Seq.{drop-cons, take_all}

-- the list from i on is what stands at i and the list from i + 1 on
pub at : (s : List ℕ) (i : ℕ) → i < length s → drop i s ≡ get_or s i 0 ∷ drop (i + 1) s
at s i h = rw (add-one, drop-cons s i 0)

-- what stands past the end of a list has no part within it
pub default-any : {A : Type 0} (l : List A) (i : ℕ) (d e : A) → i < length l → get_or l i d ≡ get_or l i e
default-any [] i d e h = absurd (omega arith)
default-any (x ∷ l) zero d e h = refl
default-any (x ∷ l) (suc i) d e h = default-any l i d e (omega arith)

-- a test of all: it stops at the first that fails, or goes on
pub stop : {x t : Bool} (y : Bool) → x ≡ (t && y) → t ≡ false → false ≡ x
stop {x} {t} y e f = sym (e ∙ ap (λ (b : Bool). b && y) f)

pub go : {x t : Bool} (y : Bool) → x ≡ (t && y) → t ≡ true → x ≡ y
go {x} {t} y e f = e ∙ ap (λ (b : Bool). b && y) f

-- a test of some: it ends at the first that is found, or goes on
pub found : {x t : Bool} (y : Bool) → x ≡ (t || y) → t ≡ true → true ≡ x
found {x} {t} y e f = sym (e ∙ ap (λ (b : Bool). b || y) f)

pub on : {x t : Bool} (y : Bool) → x ≡ (t || y) → t ≡ false → x ≡ y
on {x} {t} y e f = e ∙ ap (λ (b : Bool). b || y) f

-- a slice `&s[a..]` of Rattle code is the list from a on
pub part-from : (s : List ℕ) (a : ℕ) → take (length s - a) (drop a s) ≡ drop a s
part-from s a = take_all (length s - a) (drop a s) (omega (arith, length-drop a s))
