-- What is found on the sites of a sheet and a layout of it that were read. Assumes nothing.
use mathlib.Core.Path.{◌≡◌, sym, ap, ◌∙◌}
use mathlib.Core.Bool.{Bool}
use mathlib.Core.List.{List}
use Prim.Native.Nat.{ℕ}
use lib.ListN.{length}
use Rattle.sheet.specs.Sheet.{sheet_in}
use Rattle.labelling.specs.Layout.{left_end, is_used, ties_in, layout_body, layout_ties, sheet_part}
use Rattle.labelling.specs.Counted.{is_taken, any_site}
use Rattle.labelling.proofs.Counted.{used-taken}
use Rattle.labelling.proofs.Words.{length-ties_in}
use Rattle.words.specs.declared.tied.Head.{Head}
use Rattle.decoding.specs.Decoding.{numbers_by, sheet_by, LayoutRead}
use Rattle.decoding.specs.declared.Numbers.{Numbers}
use Rattle.decoding.proofs.Places.{sheet-read}
use Rattle.layouts.specs.Model.{left_on}
use Rattle.layouts.proofs.Read.{left-read}
use Rattle.judge.specs.Opened.{SitesRead}

pub used-found : (ls : List ℕ) (k : ℕ) {ts : List ℕ} {b : Bool} {n : ℕ} → ts ≡ layout_body ls → b ≡ is_taken any_site (ties_in ts) k n → n ≡ length ts → b ≡ is_used k (layout_ties ls)
used-found ls k {ts} e q m =
    q ∙ ap (is_taken any_site (ties_in ts) k) (m ∙ sym (length-ties_in ts)) ∙ sym (used-taken (ties_in ts) k) ∙ ap (λ (l : List ℕ). is_used k (ties_in l)) e

pub left-found : {d : Numbers} {ls : List ℕ} → LayoutRead d ls → {h : Head} {hs us vs cs ts : List ℕ} → SitesRead d ls h hs us vs cs ts → (k : ℕ) {left : ℕ} → left ≡ left_on h us (ties_in ts) (length ts) k → left ≡ left_end (sheet_by d) (layout_ties ls) k
left-found p {ts = ts} t k q = q ∙ rw (t.head, t.xs) (left-read p ts k t.ties)

-- of a stored list: the sheet that its numbers are read back to is that of the words before its layout
pub sheet-found : {d : Numbers} (ss ws : List ℕ) → d ≡ numbers_by (sheet_in ss) → ss ≡ sheet_part ws → sheet_by d ≡ sheet_in (sheet_part ws)
sheet-found ss ws e p = sheet-read e ∙ ap sheet_in p
