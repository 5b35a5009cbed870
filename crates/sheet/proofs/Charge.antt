-- The charge of a sheet and where its body begins: what of the words they depend on. Assumes nothing.
use mathlib.Core.Path.{◌≡◌, refl}
use mathlib.Core.Bool.{true}
use mathlib.Core.List.{List, ◌∷◌}
use Prim.Native.Nat.{ℕ, ◌≤◌, ◌<◌}
use native.Mathlib.Omega.{arith}
use lib.Dec.{eqb}
use lib.ListN.{get_or}
use borrow.Author.Tests.{eqb-true}
use Rattle.lists.proofs.Tests.{by-test, and_l}
use Rattle.sheet.specs.Limits.{number_top}
use Rattle.sheet.specs.Sheet.{kind_of, bits, is_charge, has_charge, charge_in, body_at, body_of}

pub charge-kind : (w : ℕ) → is_charge w ≡ true → kind_of w ≡ 5
unfolding is_charge
charge-kind w h = eqb-true (kind_of w) 5 (and_l (eqb (kind_of w) 5) (eqb (bits w 14 14) 0) h)

-- it has 14 bits, as the numbers of a site have
pub charge-low : (ws : List ℕ) → charge_in ws < number_top
charge-low ws = by-test (has_charge ws) (λ e. rw e (omega arith)) λ e. rw e (omega arith)

-- the body begins after two words at most
pub body_near : (ws : List ℕ) → body_at ws ≤ 2
body_near ws = by-test (has_charge ws) (λ e. rw e (omega arith)) λ e. rw e (omega arith)

-- it does not depend on the head
pub body_kept : (v w : ℕ) (ws : List ℕ) → body_of (v ∷ ws) ≡ body_of (w ∷ ws)
body_kept v w ws = by-test (is_charge (get_or ws 0 0)) (λ e. rw e refl) λ e. rw e refl
