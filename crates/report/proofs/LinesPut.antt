-- Lines from their parts, and the sites' lines by their colours. Assumes nothing.
use mathlib.Core.Path.{◌≡◌, refl, ap, subst}
use mathlib.Core.List.{List, [], ◌∷◌, ◌++◌, append_assoc}
use Prim.Native.Nat.{ℕ, suc, ◌+◌, ◌<◌}
use native.Mathlib.Numerals.{add-one}
use lib.ListN.{length, get_or, drop}
use lib.Seq.{drop-cons}
use Rattle.text.specs.Text.{ascii, decimal, blank, line_feed}
use Rattle.text.specs.Puts.{Puts}
use Rattle.text.specs.declared.Text.{Text}
use Rattle.text.proofs.Puts.{puts-more}
use Rattle.sheet.specs.Sheet.{Site, Sheet}
use Rattle.labelling.specs.Layout.{stated_count, stated_length}
use Rattle.decoding.specs.Decoding.{colours_of}
use Rattle.report.specs.Lines.{layout_line, site_line, slot_at, site_lines, layout_text, site_lines_by, layout_text_by}

-- the sites' lines by their colours
pub lines-by : (ls : List ℕ) (i : ℕ) (ss : List Site) → site_lines_by ls i (colours_of ss) ≡ site_lines ls i ss
unfolding site_lines site_lines_by colours_of
lines-by ls i [] = refl
lines-by ls i (s ∷ ss) = ap (λ (t : List ℕ). site_line i s.colour (slot_at ls i) ++ t) (lines-by ls (suc i) ss)

pub text-by : (s : Sheet) (ls : List ℕ) → layout_text_by (colours_of s.sites) ls ≡ layout_text s ls
unfolding layout_text layout_text_by
text-by s ls = ap (λ (t : List ℕ). layout_line (stated_count ls) (stated_length ls) ++ t) (lines-by ls 0 s.sites)

-- one more
pub lines_at : (ls cs : List ℕ) (i : ℕ) → i < length cs → site_lines_by ls i (drop i cs) ≡ site_line i (get_or cs i 0) (slot_at ls i) ++ site_lines_by ls (i + 1) (drop (i + 1) cs)
unfolding site_lines_by
lines_at ls cs i h = rw (drop-cons cs i 0 h, add-one i) refl

-- A LINE from its parts, each a name, a number and a last byte
abbrev pub Part : (name : List ℕ) (number last : ℕ) → List ℕ
Part s n b = s ++ decimal n ++ (b ∷ [])

part-more : {a b c : Text} (s x name n y : List ℕ) → Puts a b (s ++ x) → Puts b c (name ++ n ++ y) → Puts a c (s ++ (x ++ name) ++ n ++ y)
part-more {a} {c = c} s x name n y p q = subst (Puts a c) e (puts-more p q)
  where
    e : (s ++ x) ++ (name ++ n ++ y) ≡ s ++ (x ++ name) ++ n ++ y
    e = simp append_assoc

pub layout-put : {a b c : Text} (count size : ℕ) → Puts a b (Part (ascii "labels ") count blank) → Puts b c (Part (ascii "length ") size line_feed) → Puts a c (layout_line count size)
layout-put count size p q = part-more (ascii "labels " ++ decimal count) (blank ∷ []) (ascii "length ") (decimal size) (line_feed ∷ []) p q

pub site-put : {a b c d : Text} (site colour slot : ℕ) → Puts a b (Part (ascii "site ") site blank) → Puts b c (Part (ascii "colour ") colour blank) →
    Puts c d (Part (ascii "slot ") slot line_feed) → Puts a d (site_line site colour slot)
site-put site colour slot p q r =
    part-more (ascii "site " ++ decimal site ++ ascii " colour " ++ decimal colour) (blank ∷ []) (ascii "slot ") (decimal slot) (line_feed ∷ [])
    (part-more (ascii "site " ++ decimal site) (blank ∷ []) (ascii "colour ") (decimal colour) (blank ∷ []) p q) r
