-- A line read back: its columns are its fields', a number in them is the number that was put, and its only line feed is its last byte.
-- Assumes nothing.
use mathlib.Core.Path.{◌≡◌, refl, sym, ap, ◌∙◌}
use mathlib.Core.Bool.{Bool, true, not, cond}
use mathlib.Core.List.{List, [], ◌∷◌, ◌++◌, append_assoc}
use Prim.Native.Nat.{ℕ, zero, suc, ◌+◌, ◌*◌, ◌-◌, ◌/◌, ◌%◌, ◌≤◌, ◌<◌}
use native.Mathlib.Omega.{arith}
use lib.Dec.{eqb, ltb}
use lib.ListN.{length, get_or, take, drop, replicate, length-append, length-replicate, get_or-append}
use lib.Seq.{take_at, drop_at, get_or_at, drop-append-add}
use borrow.Author.Tests.{ltb-true, ltb-false, eqb-false, le-leb, lt-ltb, ne_eqb}
use Rattle.lists.proofs.Tests.{by-test, and_l, and_r, and_i, not_f}
use Rattle.sheet.specs.Sheet.{all}
use Rattle.sizes.specs.Pages.{line_columns}
use Rattle.text.specs.Text.{blank, line_feed, zero_digit, digits_by, decimal, right_in}
use Rattle.text.proofs.Right.{right-long}
use Rattle.page_lines.specs.Columns.{Field, field, start_of, width_of, field_after, columns_after, line_of}
use Rattle.page_lines.specs.Reading.{is_digit, value_from, columns_in, number_in, IsLine}

-- THE FIELDS FIT: they rise, each has columns, and its text is no wider
unfoldable pub FieldsFit : (done : ℕ) → List Field → Type 0
FieldsFit c [] = c ≤ line_columns
FieldsFit c (f ∷ fs) = (c < f.from) × (f.from ≤ f.to) × (length f.text ≤ width_of f) × FieldsFit f.to fs

fit-done : (c : ℕ) (fs : List Field) → FieldsFit c fs → c ≤ line_columns
unfolding FieldsFit
fit-done c [] h = h
fit-done c (f ∷ fs) h = omega (arith, h.0, h.1, fit-done f.to fs h.3)

-- a field fills the columns from what is done up to its last
field-long : (c : ℕ) (f : Field) → c < f.from → f.from ≤ f.to → length f.text ≤ width_of f → length (field_after c f) ≡ f.to - c
field-long c f a b h =
    omega (arith, length-append (replicate (start_of f - c) blank) (right_in (width_of f) f.text), length-replicate (start_of f - c) blank, right-long (width_of f) f.text h)

pub columns-long : (c : ℕ) (fs : List Field) → FieldsFit c fs → length (columns_after c fs) ≡ line_columns - c
unfolding FieldsFit columns_after
columns-long c [] h = length-replicate (line_columns - c) blank
columns-long c (f ∷ fs) h =
    omega (arith, length-append (field_after c f) (columns_after f.to fs), field-long c f h.0 h.1 h.2, columns-long f.to fs h.3, fit-done f.to fs h.3, h.0, h.1)

-- A FIELD'S COLUMNS
fit-start : (c : ℕ) (fs : List Field) (f : Field) (gs : List Field) → FieldsFit c (fs ++ (f ∷ gs)) → c ≤ start_of f
unfolding FieldsFit
fit-start c [] f gs h = omega (arith, h.0)
fit-start c (g ∷ fs) f gs h = omega (arith, h.0, h.1, fit-start g.to fs f gs h.3)

columns-at : (c : ℕ) (fs : List Field) (f : Field) (gs : List Field) (t : List ℕ) → FieldsFit c (fs ++ (f ∷ gs)) →
    take (width_of f) (drop (start_of f - c) (columns_after c (fs ++ (f ∷ gs)) ++ t)) ≡ right_in (width_of f) f.text
unfolding FieldsFit columns_after
columns-at c [] f gs t h =
    let b : List ℕ = replicate (start_of f - c) blank in
    let r : List ℕ = right_in (width_of f) f.text in
    let e : b ++ r ++ columns_after f.to gs ++ t ≡ b ++ (r ++ (columns_after f.to gs ++ t)) = simp append_assoc in
    rw (e, drop_at b (r ++ (columns_after f.to gs ++ t)) (start_of f - c) (length-replicate (start_of f - c) blank)) (take_at r (columns_after f.to gs ++ t) (width_of f) (right-long (width_of f) f.text h.2))
columns-at c (g ∷ fs) f gs t h =
    let x : List ℕ = field_after c g in
    let l = field-long c g h.0 h.1 h.2 in
    let e : start_of f - c ≡ length x + (start_of f - g.to) = omega (arith, l, fit-start g.to fs f gs h.3, h.0, h.1) in
    rw (e, append_assoc x (columns_after g.to (fs ++ (f ∷ gs))) t, drop-append-add x (columns_after g.to (fs ++ (f ∷ gs)) ++ t) (start_of f - g.to)) (columns-at g.to fs f gs t h.3)

pub line-columns : (fs : List Field) (f : Field) (gs : List Field) → FieldsFit 0 (fs ++ (f ∷ gs)) → columns_in f.from f.to (line_of (fs ++ (f ∷ gs))) ≡ right_in (width_of f) f.text
line-columns fs f gs h = let e : start_of f - 0 ≡ start_of f = omega arith in rw e at (columns-at 0 fs f gs (line_feed ∷ []) h)

-- A NUMBER, read back
value-more : (v : ℕ) (s t : List ℕ) → value_from v (s ++ t) ≡ value_from (value_from v s) t
unfolding value_from
value-more v [] t = refl
value-more v (b ∷ s) t = value-more (cond (is_digit b) (v * 10 + (b - zero_digit)) v) s t

value-blanks : (v n : ℕ) → value_from v (replicate n blank) ≡ v
unfolding value_from
value-blanks v zero = refl
value-blanks v (suc n) = value-blanks v n

value-digit : (v n : ℕ) → n < 10 → value_from v ((zero_digit + n) ∷ []) ≡ v * 10 + n
unfolding value_from
value-digit v n h =
    let e : zero_digit + n - zero_digit ≡ n = omega arith in
    rw (le-leb zero_digit (zero_digit + n) (omega arith), lt-ltb (zero_digit + n) (zero_digit + 10) (omega arith), e) refl

value-digits : (f n : ℕ) → n ≤ f → value_from 0 (digits_by f n) ≡ n
unfolding digits_by
value-digits zero n h = value-digit 0 n (omega arith) ∙ omega arith
value-digits (suc f) n h =
    by-test (ltb n 10)
    (λ e. rw e (value-digit 0 n (ltb-true n 10 e) ∙ omega arith))
    (λ e. let m : 10 ≤ n = ltb-false n 10 e in
    rw (e, value-more 0 (digits_by f (n / 10)) ((zero_digit + n % 10) ∷ []), value-digits f (n / 10) (omega arith)) (value-digit (n / 10) (n % 10) (omega arith) ∙ omega arith))

pub value-right : (w n : ℕ) → value_from 0 (right_in w (decimal n)) ≡ n
unfolding right_in decimal
value-right w n = rw (value-more 0 (replicate (w - length (digits_by n n)) blank) (digits_by n n), value-blanks 0 (w - length (digits_by n n))) (value-digits n n (omega arith))

-- the number of a field
pub line-number : (fs : List Field) (a b n : ℕ) (gs : List Field) → FieldsFit 0 (fs ++ (field a b (decimal n) ∷ gs)) →
    number_in a b (line_of (fs ++ (field a b (decimal n) ∷ gs))) ≡ n
line-number fs a b n gs h = ap (value_from 0) (line-columns fs (field a b (decimal n)) gs h) ∙ value-right (b - (a - 1)) n

-- NO LINE FEED before the last byte
abbrev pub is_plain : (byte : ℕ) → Bool
is_plain b = not (eqb b line_feed)

pub plain_more : (s t : List ℕ) → all is_plain s ≡ true → all is_plain t ≡ true → all is_plain (s ++ t) ≡ true
unfolding all
plain_more [] t a b = b
plain_more (x ∷ s) t a b = and_i (and_l (is_plain x) (all is_plain s) a) (plain_more s t (and_r (is_plain x) (all is_plain s) a) b)

plain-blanks : (n : ℕ) → all is_plain (replicate n blank) ≡ true
unfolding all
plain-blanks zero = refl
plain-blanks (suc n) = plain-blanks n

plain-digit : (n : ℕ) → all is_plain ((zero_digit + n) ∷ []) ≡ true
unfolding all
plain-digit n = rw (ne_eqb (zero_digit + n) line_feed (λ q. omega arith)) refl

plain-digits : (f n : ℕ) → all is_plain (digits_by f n) ≡ true
unfolding digits_by
plain-digits zero n = plain-digit n
plain-digits (suc f) n =
    by-test (ltb n 10) (λ e. rw e (plain-digit n)) λ e. rw e (plain_more (digits_by f (n / 10)) ((zero_digit + n % 10) ∷ []) (plain-digits f (n / 10)) (plain-digit (n % 10)))

pub plain-decimal : (n : ℕ) → all is_plain (decimal n) ≡ true
unfolding decimal
plain-decimal n = plain-digits n n

-- fields whose texts have none
unfoldable pub AllPlain : List Field → Type 0
AllPlain [] = Unit
AllPlain (f ∷ fs) = (all is_plain f.text ≡ true) × AllPlain fs

plain-columns : (c : ℕ) (fs : List Field) → AllPlain fs → all is_plain (columns_after c fs) ≡ true
unfolding AllPlain columns_after right_in
plain-columns c [] h = plain-blanks (line_columns - c)
plain-columns c (f ∷ fs) h =
    plain_more (field_after c f) (columns_after f.to fs)
    (plain_more (replicate (start_of f - c) blank) _ (plain-blanks (start_of f - c)) (plain_more (replicate (width_of f - length f.text) blank) f.text (plain-blanks (width_of f - length f.text)) h.0))
    (plain-columns f.to fs h.1)

plain_at : (s : List ℕ) (i : ℕ) → all is_plain s ≡ true → i < length s → get_or s i 0 ≡ line_feed → ⊥
unfolding all
plain_at [] i h l q = omega arith
plain_at (x ∷ s) zero h l q = eqb-false x line_feed (not_f (eqb x line_feed) (and_l (is_plain x) (all is_plain s) h)) q
plain_at (x ∷ s) (suc i) h l q = plain_at s i (and_r (is_plain x) (all is_plain s) h) (omega arith) q

-- A LINE of fields that fit
pub line-is : (fs : List Field) → FieldsFit 0 fs → AllPlain fs → IsLine (line_of fs)
line-is fs h p =
    let n : length (columns_after 0 fs) ≡ line_columns = columns-long 0 fs h in
    record {
      long = omega (arith, n, length-append (columns_after 0 fs) (line_feed ∷ []));
      end = get_or_at (columns_after 0 fs) line_feed [] 0 line_columns n;
      only = λ c l q. plain_at (columns_after 0 fs) c (plain-columns 0 fs p) (omega arith) (sym (get_or-append (columns_after 0 fs) (line_feed ∷ []) 0 c (omega arith)) ∙ q);
    }
