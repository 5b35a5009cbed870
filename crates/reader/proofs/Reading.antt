-- What `read_sheet`'s answer says: its refusal, and each size of an accepted sheet. Assumes nothing.
use mathlib.Core.Path.{◌≡◌, sym, ap, ◌∙◌}
use mathlib.Core.List.{List}
use Prim.Native.Nat.{ℕ}
use lib.Dec.{eqb}
use lib.ListN.{length}
use borrow.Author.Tests.{eqb-true, eq-eqb}
use Rattle.lists.proofs.Tests.{by-test}
use Rattle.sheet.specs.Sheet.{product_of, sheet_in, sheet_fault, work_for}
use Rattle.reader.specs.declared.Sizes.{Sizes}
use Rattle.reader.specs.Read.{eight_of, read_of, refused_of, read_post}

-- its refusal is the sheet's
pub refusal_is : (ws : List ℕ) (r : Sizes) → r ≡ read_post ws → r.refusal ≡ sheet_fault ws
refusal_is ws r e =
    by-test (eqb (sheet_fault ws) 0)
    (λ t. let q : r ≡ read_of (sheet_in ws) = rw t at e in ap (λ (z : Sizes). z.refusal) q ∙ sym (eqb-true (sheet_fault ws) 0 t))
    (λ t. let q : r ≡ refused_of (sheet_fault ws) = rw t at e in ap (λ (z : Sizes). z.refusal) q)

-- without one, its sizes are the sheet's
pub record Reading (ws : List ℕ) (r : Sizes) : Type 0 where
  pub accepted : sheet_fault ws ≡ 0
  pub sites : r.n ≡ length (sheet_in ws).sites
  pub slots : r.m ≡ length (sheet_in ws).slots
  pub colours : r.c ≡ length (sheet_in ws).colours
  pub product : r.p ≡ product_of (sheet_in ws).colours
  pub work : r.work ≡ work_for (sheet_in ws)
  pub eight : r.colours ≡ eight_of (sheet_in ws).colours

pub reading : (ws : List ℕ) (r : Sizes) → r ≡ read_post ws → r.refusal ≡ 0 → Reading ws r
reading ws r e h =
    let none : sheet_fault ws ≡ 0 = sym (refusal_is ws r e) ∙ h in
    let q : r ≡ read_of (sheet_in ws) = rw (eq-eqb (sheet_fault ws) 0 none) at e in
    record {
      accepted = none;
      sites = ap (λ (z : Sizes). z.n) q;
      slots = ap (λ (z : Sizes). z.m) q;
      colours = ap (λ (z : Sizes). z.c) q;
      product = ap (λ (z : Sizes). z.p) q;
      work = ap (λ (z : Sizes). z.work) q;
      eight = ap (λ (z : Sizes). z.colours) q;
    }
