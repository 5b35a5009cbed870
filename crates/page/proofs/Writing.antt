-- The page of a stored sheet of which nothing is refused, as code finds and puts it. Assumes nothing.
use mathlib.Core.Path.{◌≡◌, sym, ◌∙◌, ap, ap₂, subst⁻¹}
use mathlib.Core.List.{List, ◌++◌}
use Prim.Native.Nat.{ℕ, ◌≤◌}
use native.Mathlib.Omega.{arith}
use lib.ListN.{length, drop}
use Rattle.sheet.specs.Sheet.{Sheet, sheet_in}
use Rattle.labelling.specs.Layout.{count_of, layout_ties, sheet_part, layout_part, stored_fault}
use Rattle.labelling.specs.Lawful.{RuleSix}
use Rattle.labelling.proofs.Stored.{stored-lawful}
use Rattle.faults.specs.Faults.{area_fault}
use Rattle.decoding.specs.Decoding.{numbers_by, sheet_by}
use Rattle.decoding.specs.declared.Numbers.{Numbers}
use Rattle.judge.proofs.Found.{sheet-found}
use Rattle.text.specs.Text.{written, past_of}
use Rattle.text.proofs.Written.{written-front}
use Rattle.sizes.specs.Pages.{bytes_for}
use Rattle.page.specs.Page.{page_of, page_in, page_size}
use Rattle.page.proofs.Promise.{size_of, stored-long}

-- what was opened: the numbers of a sheet and the words of a layout of it
module _ (ws : List ℕ) (z : 0 ≡ stored_fault ws) (d : Numbers) (ss ls : List ℕ) (e : d ≡ numbers_by (sheet_in ss)) (front : ss ≡ sheet_part ws) (back : ls ≡ layout_part ws) where
  sheet-is : sheet_by d ≡ sheet_in (sheet_part ws)
  sheet-is = sheet-found ss ws e front

  -- what it states is true
  pub states : RuleSix (sheet_by d) ls
  states = subst⁻¹ (λ (l : List ℕ). RuleSix (sheet_by d) l) back (subst⁻¹ (λ (s : Sheet). RuleSix s (layout_part ws)) sheet-is (stored-lawful ws (sym z)).six)

  -- how many bytes, and whether the area has them
  size-found : {n : ℕ} → n ≡ bytes_for (count_of (sheet_by d) (layout_ties ls)) (length (sheet_by d).sites) → n ≡ page_size ws
  size-found q = q ∙ ap₂ (λ (s : Sheet) (l : List ℕ). bytes_for (count_of s (layout_ties l)) (length s.sites)) sheet-is back ∙ sym (size_of ws (sym z))

  pub area-found : (lent : ℕ) {n r : ℕ} → n ≡ bytes_for (count_of (sheet_by d) (layout_ties ls)) (length (sheet_by d).sites) → r ≡ area_fault n lent → r ≡ area_fault (page_size ws) lent
  area-found lent q f = f ∙ ap (λ (n : ℕ). area_fault n lent) (size-found q)

  -- the page is put
  pub page-put : (o : List ℕ) {p : ℕ} {o' : List ℕ} → page_size ws ≤ length o → (p ≡ past_of o 0 (page_of (sheet_by d) (layout_ties ls))) × (o' ≡ written o 0 (page_of (sheet_by d) (layout_ties ls))) →
      (p ≡ page_size ws) × (o' ≡ page_in ws ++ drop (page_size ws) o)
  page-put o {p} {o'} h a =
      let t : page_of (sheet_by d) (layout_ties ls) ≡ page_in ws = ap₂ (λ (s : Sheet) (l : List ℕ). page_of s (layout_ties l)) sheet-is back in
      let n : length (page_in ws) ≡ page_size ws = stored-long ws (sym z) in
      let b : (p ≡ past_of o 0 (page_in ws)) × (o' ≡ written o 0 (page_in ws)) = rw t at a in
      (b.0 ∙ omega (arith, n), b.1 ∙ written-front o (page_in ws) (omega (arith, n)) ∙ ap (λ (k : ℕ). page_in ws ++ drop k o) n)
