-- The parts of a stored list, word by word. Assumes nothing.
use mathlib.Core.Path.{◌≡◌, refl, sym, ap, ◌∙◌}
use mathlib.Core.Bool.{Bool, ◌&&◌, cond}
use mathlib.Core.List.{List, [], ◌∷◌}
use Prim.Native.Nat.{ℕ, ◌≤◌}
use native.Mathlib.Omega.{arith}
use lib.Dec.{eqb, ltb}
use lib.ListN.{length, take}
use borrow.Author.Tests.{lt-ltb, le-ltb}
use Rattle.std.specs.Prelude.{Option, Some, None}
use Rattle.std.specs.List.{list_all, position, position_or_len}
use Rattle.std.specs.Option.{unwrap_or}
use Rattle.std.proofs.lemmas.List.Recursion.{same_from_clauses, is_position_or_len}
use Rattle.lists.proofs.Tests.{by-test, by_order}
use Rattle.sheet.specs.Sheet.{all, kind_of}
use Rattle.labelling.specs.Layout.{sheet_part}

-- THE SHEET'S PART ends at the first word of kind 8
pub start-is : (s : List ℕ) → length (sheet_part s) ≡ position_or_len (λ w. eqb (kind_of w) 8) s
unfolding sheet_part
start-is = is_position_or_len (λ s. length (sheet_part s)) (λ w. eqb (kind_of w) 8) refl (λ w s. by-test (eqb (kind_of w) 8) (λ e. rw e refl) (λ e. rw e (omega arith)))

-- it is a front of the list
pub sheet-front : (s : List ℕ) → take (length (sheet_part s)) s ≡ sheet_part s
unfolding sheet_part
sheet-front [] = refl
sheet-front (w ∷ ws) = by-test (eqb (kind_of w) 8) (λ e. rw e refl) λ e. rw e (ap (λ (l : List ℕ). w ∷ l) (sheet-front ws))

pub sheet-le : (s : List ℕ) → length (sheet_part s) ≤ length s
unfolding sheet_part
sheet-le [] = omega arith
sheet-le (w ∷ ws) = by-test (eqb (kind_of w) 8) (λ e. rw e (omega arith)) λ e. rw e (omega (arith, sheet-le ws))

-- as it is looked for: the place, or the end where there is none
or-end : (p n : ℕ) → p ≤ n → unwrap_or (cond (ltb p n) (Some p) None) n ≡ p
or-end p n l = by_order n p (λ h. rw (le-ltb p n h) (omega arith)) (λ h. rw (lt-ltb p n h) refl)

pub found-start : (s : List ℕ) {o : Option ℕ} {n : ℕ} → o ≡ position (λ w. eqb (kind_of w) 8) s → n ≡ unwrap_or o (length s) → n ≡ length (sheet_part s)
found-start s e h =
    h ∙ ap (λ (z : Option ℕ). unwrap_or z (length s)) e ∙ or-end (position_or_len (λ w. eqb (kind_of w) 8) s) (length s) (omega (arith, start-is s, sheet-le s)) ∙ sym (start-is s)

-- ALL WORDS pass a test
pub all-is : (p : ℕ → Bool) (s : List ℕ) → all p s ≡ list_all p s
unfolding all
all-is p = same_from_clauses (all p) (list_all p) (λ w b. p w && b) refl (λ w ws. refl) (λ w ws. refl)
