-- Each sort of line, read back: it is a line, and its numbers stand in their columns. Assumes nothing.
use mathlib.Core.Path.{◌≡◌, refl}
use mathlib.Core.Bool.{true}
use mathlib.Core.List.{[], ◌∷◌}
use Prim.Native.Nat.{ℕ, ◌≤◌, ◌<◌}
use native.Mathlib.Omega.{arith}
use lib.Dec.{ltb}
use lib.ListN.{length, take, length-append}
use Rattle.lists.proofs.Tests.{by-test}
use Rattle.sheet.specs.Sheet.{all}
use Rattle.labelling.specs.Layout.{apart}
use Rattle.text.specs.Text.{ascii, decimal, right_in}
use Rattle.text.proofs.Decimal.{decimal-length}
use Rattle.page_lines.specs.Columns.{field}
use Rattle.page_lines.specs.Lines.{slot_fields, slot_line, sign_of, drop_text, site_start, site_fields, site_line, total_fields, total_line}
use Rattle.page_lines.specs.Reading.{number_in, IsLine}
use Rattle.page_lines.proofs.Reading.{FieldsFit, AllPlain, is_plain, plain_more, plain-decimal, line-columns, line-number, line-is}

-- HOW WIDE: numbers below these have no more digits than their columns
abbrev pub hundred : ℕ
hundred = 100

abbrev pub thousand : ℕ
thousand = 1000

abbrev pub ten_million : ℕ
ten_million = 10000000

two : (n : ℕ) → n < hundred → length (decimal n) ≤ 2
two n h = decimal-length 1 n h

three : (n : ℕ) → n < thousand → length (decimal n) ≤ 3
three n h = decimal-length 2 n h

seven : (n : ℕ) → n < ten_million → length (decimal n) ≤ 7
seven n h = decimal-length 6 n h

-- A USED SLOT's
pub record SlotRead (k c n h l : ℕ) : Type 0 where
  pub line : IsLine (slot_line k c n h l)
  pub sites : number_in 8 9 (slot_line k c n h l) ≡ n
  pub size : number_in 20 27 (slot_line k c n h l) ≡ l

module _ (k c n h l : ℕ) (pk : k < thousand) (pc : c < hundred) (pn : n < hundred) (ph : h < ten_million) (pl : l < ten_million) where
  slot-fits : FieldsFit 0 (slot_fields k c n h l)
  unfolding FieldsFit
  slot-fits = (
    omega arith,
    omega arith,
    omega (arith, three k pk),
    (
      omega arith,
      omega arith,
      omega (arith, two c pc),
      (
        omega arith,
        omega arith,
        omega (arith, two n pn),
        (
          omega arith,
          omega arith,
          omega (arith, seven h ph),
          (omega arith, omega arith, omega (arith, seven l pl), omega arith),
        ),
      ),
    ),
  )

  slot-plain : AllPlain (slot_fields k c n h l)
  unfolding AllPlain
  slot-plain = (plain-decimal k, (plain-decimal c, (plain-decimal n, (plain-decimal h, (plain-decimal l, tt)))))

  pub slot_read : SlotRead k c n h l
  slot_read =
      record {
        line = line-is (slot_fields k c n h l) slot-fits slot-plain;
        sites = line-number (field 1 3 (decimal k) ∷ field 5 6 (decimal c) ∷ []) 8 9 n (field 11 18 (decimal h) ∷ field 20 27 (decimal l) ∷ []) slot-fits;
        size = line-number (field 1 3 (decimal k) ∷ field 5 6 (decimal c) ∷ field 8 9 (decimal n) ∷ field 11 18 (decimal h) ∷ []) 20 27 l [] slot-fits;
      }

-- A SITE's
sign-long : (h y : ℕ) → length (sign_of h y) ≤ 1
sign-long h y = by-test (ltb y h) (λ e. rw e (omega arith)) λ e. rw e (by-test (ltb h y) (λ f. rw f (omega arith)) (λ f. rw f (omega arith)))

sign-plain : (h y : ℕ) → all is_plain (sign_of h y) ≡ true
unfolding all
sign-plain h y = by-test (ltb y h) (λ e. rw e refl) λ e. rw e (by-test (ltb h y) (λ f. rw f refl) (λ f. rw f refl))

start_plain : all is_plain site_start ≡ true
unfolding all
start_plain = refl

-- it begins with the six bytes
pub record SiteRead (i k h y : ℕ) : Type 0 where
  pub line : IsLine (site_line i k h y)
  pub start : take (length site_start) (site_line i k h y) ≡ site_start

module _ (i k h y : ℕ) (pi : i < thousand) (pk : k < thousand) (pd : apart h y < ten_million) where
  site-fits : FieldsFit 0 (site_fields i k h y)
  unfolding FieldsFit
  site-fits = (
    omega arith,
    omega arith,
    omega arith,
    (
      omega arith,
      omega arith,
      omega (arith, three i pi),
      (
        omega arith,
        omega arith,
        omega (arith, three k pk),
        (omega arith, omega arith, omega (arith, length-append (sign_of h y) (decimal (apart h y)), sign-long h y, seven (apart h y) pd), omega arith),
      ),
    ),
  )

  site-plain : AllPlain (site_fields i k h y)
  unfolding AllPlain
  site-plain = (start_plain, (plain-decimal i, (plain-decimal k, (plain_more (sign_of h y) (decimal (apart h y)) (sign-plain h y) (plain-decimal (apart h y)), tt))))

  pub site-read : SiteRead i k h y
  unfolding right_in
  site-read =
      record {
        line = line-is (site_fields i k h y) site-fits site-plain;
        start = line-columns [] (field 1 6 site_start) (field 8 10 (decimal i) ∷ field 12 14 (decimal k) ∷ field 16 23 (drop_text h y) ∷ []) site-fits;
      }

-- THE LAST
pub record LastRead (c l : ℕ) : Type 0 where
  pub line : IsLine (total_line c l)
  pub count : number_in 8 10 (total_line c l) ≡ c
  pub size : number_in 20 27 (total_line c l) ≡ l

total-start : all is_plain (ascii "total") ≡ true
unfolding all
total-start = refl

module _ (c l : ℕ) (pc : c < thousand) (pl : l < ten_million) where
  total-fits : FieldsFit 0 (total_fields c l)
  unfolding FieldsFit
  total-fits =
      (omega arith, omega arith, omega arith, (omega arith, omega arith, omega (arith, three c pc), (omega arith, omega arith, omega (arith, seven l pl), omega arith)))

  total-plain : AllPlain (total_fields c l)
  unfolding AllPlain
  total-plain = (total-start, (plain-decimal c, (plain-decimal l, tt)))

  pub last-read : LastRead c l
  last-read =
      record {
        line = line-is (total_fields c l) total-fits total-plain;
        count = line-number (field 1 5 (ascii "total") ∷ []) 8 10 c (field 20 27 (decimal l) ∷ []) total-fits;
        size = line-number (field 1 5 (ascii "total") ∷ field 8 10 (decimal c) ∷ []) 20 27 l [] total-fits;
      }
