-- Texts into which bytes are put, one after the other. Assumes nothing.
use mathlib.Core.Path.{◌≡◌, refl, sym, subst, ◌∙◌}
use mathlib.Core.List.{List, [], ◌++◌}
use Prim.Native.Nat.{ℕ}
use native.Mathlib.Omega.{arith}
use Rattle.std.specs.Borrow.{MutBor}
use Rattle.text.specs.Text.{written, past_of}
use Rattle.text.specs.Puts.{Puts}
use Rattle.text.specs.declared.Text.{Text}
use Rattle.text.proofs.Written.{written-more, past_more}

-- putting nothing
pub puts-none : (a : Text) → Puts a a []
unfolding written
puts-none a = record { same = refl; past = omega arith; area = refl }

-- bytes, and then others
pub puts-more : {a b c : Text} {s t : List ℕ} → Puts a b s → Puts b c t → Puts a c (s ++ t)
puts-more {a = a} {s = s} {t = t} p q =
    record {
      same = q.same ∙ p.same;
      past = q.past ∙ rw (p.past, p.area) (sym (past_more a.area.now a.past s t));
      area = q.area ∙ rw (p.past, p.area) (sym (written-more a.area.now a.past s t));
    }

-- THE INVARIANT of a loop that puts bytes: once what is left is put, all is put
pub record Left (from : Text) (all : List ℕ) (now : Text) (rest : List ℕ) : Type 0 where
  pub goes_on : (end : Text) → Puts now end rest → Puts from end all

pub left-all : (a : Text) (all : List ℕ) → Left a all a all
left-all a all = record { goes_on = λ end p. p }

pub left-more : {a b c : Text} {all rest part : List ℕ} (rest' : List ℕ) → Left a all b rest → rest ≡ part ++ rest' → Puts b c part → Left a all c rest'
left-more rest' f e p = record { goes_on = λ end q. f.goes_on end (rw e (puts-more p q)) }

pub left-none : {a b : Text} {all rest : List ℕ} → Left a all b rest → rest ≡ [] → Puts a b all
left-none {b = b} f e = f.goes_on b (rw e (puts-none b))

-- WHAT A LENT AREA HOLDS once bytes were put into a new text of it
pub record Filled (area : MutBor (List ℕ)) (text : Text) (bytes : List ℕ) : Type 0 where
  pub same : area.ghost_name ≡ text.area.ghost_name
  pub past : text.past ≡ past_of area.now 0 bytes
  pub after : text.area.now ≡ written area.now 0 bytes

pub filled : {l : MutBor (List ℕ)} {a b : Text} {s : List ℕ} → a ≡ record { area = l; past = 0 } → Puts a b s → Filled l b s
filled {b = b} {s = s} e p = let q = subst (λ (t : Text). Puts t b s) e p in record { same = sym q.same; past = q.past; after = q.area }
