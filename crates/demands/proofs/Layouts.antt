-- Layouts and lawful layouts as statements are what the tests say. Assumes nothing.
use mathlib.Core.Path.{◌≡◌}
use mathlib.Core.Logic.{◌↔◌}
use mathlib.Core.Bool.{Bool, true, false, ◌&&◌}
use mathlib.Core.List.{List, [], ◌∷◌}
use Prim.Native.Nat.{ℕ}
use native.Mathlib.Omega.{arith}
use lib.Dec.{ltb, eqb}
use lib.ListN.{length, get_or}
use borrow.Author.Tests.{ltb-true, eqb-true, lt-ltb, eq-eqb}
use Rattle.sheet.specs.Sheet.{kind_of, bits, Sheet}
use Rattle.labelling.specs.Layout.{is_tie, is_layout, broken_by, is_lawful}
use Rattle.lists.proofs.Tests.{and_l, and_r, and_i, clash, is_false}
use Rattle.labelling.proofs.Members.{all-at, at_all}
use Rattle.labelling.proofs.Words.{Formed, formed, form}
use Rattle.labelling.proofs.Verdict.{broken-lawful}
use Rattle.labelling.specs.Lawful.{TieOf, LayoutOf}
use Rattle.demands.specs.Demands.{LawfulLayout}

-- a tie's word
tie-of : (s : Sheet) (w : ℕ) → is_tie s w ≡ true → TieOf s w
tie-of s w h =
    let k : Bool = eqb (kind_of w) 9 in
    let p : Bool = eqb (bits w 8 20) 0 in
    let l : Bool = ltb (bits w 0 8) (length s.slots) in
    record {
      kind = eqb-true (kind_of w) 9 (and_l k p (and_l (k && p) l h));
      spare = eqb-true (bits w 8 20) 0 (and_r k p (and_l (k && p) l h));
      slot = ltb-true (bits w 0 8) (length s.slots) (and_r (k && p) l h);
    }

of-tie : (s : Sheet) (w : ℕ) → TieOf s w → is_tie s w ≡ true
of-tie s w t =
    and_i (and_i (eq-eqb (kind_of w) 9 t.kind) (eq-eqb (bits w 8 20) 0 t.spare)) (lt-ltb (bits w 0 8) (length s.slots) t.slot)

-- a layout
pub layout_of : (s : Sheet) (b : List ℕ) → is_layout s b ≡ true → LayoutOf s b
layout_of s [] h = absurd (omega (arith, (formed s [] h).long))
layout_of s (w ∷ ws) h =
    let f : Formed s (w ∷ ws) = formed s (w ∷ ws) h in
    record { long = f.long; first = f.kind; ties = λ i l. tie-of s (get_or ws i 0) (all-at (is_tie s) 0 ws f.ties i (omega (arith, f.long))) }

pub of-layout : (s : Sheet) (b : List ℕ) → LayoutOf s b → is_layout s b ≡ true
of-layout s [] l = absurd (omega (arith, l.long))
of-layout s (w ∷ ws) l =
    form s (w ∷ ws)
    (record { long = l.long; kind = l.first; ties = at_all (is_tie s) 0 ws λ i h. of-tie s (get_or ws i 0) (l.ties i (omega (arith, l.long))) })

pub no-layout : (s : Sheet) (b : List ℕ) → (is_layout s b ≡ false) ↔ (LayoutOf s b → ⊥)
no-layout s b = ((λ h l. clash (of-layout s b l) h), λ n. is_false (is_layout s b) λ h. n (layout_of s b h))

-- a lawful one
pub lawful-of : (s : Sheet) (b : List ℕ) → is_lawful s b ≡ true → LawfulLayout s b
lawful-of s b h =
    let l : is_layout s b ≡ true = and_l (is_layout s b) (eqb (broken_by s b) 0) h in
    (layout_of s b l, (broken-lawful s b l).0 (eqb-true (broken_by s b) 0 (and_r (is_layout s b) (eqb (broken_by s b) 0) h)))

pub of-lawful : (s : Sheet) (b : List ℕ) → LawfulLayout s b → is_lawful s b ≡ true
of-lawful s b (l, k) =
    let h : is_layout s b ≡ true = of-layout s b l in
    and_i h (eq-eqb (broken_by s b) 0 ((broken-lawful s b h).1 k))
