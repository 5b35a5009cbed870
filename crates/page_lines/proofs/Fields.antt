-- A line put field by field. Assumes nothing.
use mathlib.Core.Path.{sym, subst}
use mathlib.Core.List.{List, [], ◌∷◌, ◌++◌, append_assoc}
use Prim.Native.Nat.{ℕ, ◌-◌}
use lib.ListN.{replicate}
use Rattle.sizes.specs.Pages.{line_columns}
use Rattle.text.specs.Text.{blank, line_feed}
use Rattle.text.specs.Puts.{Puts}
use Rattle.text.specs.declared.Text.{Text}
use Rattle.text.proofs.Puts.{puts-more}
use Rattle.page_lines.specs.Columns.{Field, field_after, columns_after}

-- a line's columns after so many, and its line feed
abbrev pub Rest : (done : ℕ) → List Field → List ℕ
Rest c fs = columns_after c fs ++ (line_feed ∷ [])

pub field_put : {a b c : Text} (done : ℕ) (f : Field) (fs : List Field) → Puts a b (field_after done f) → Puts b c (Rest f.to fs) → Puts a c (Rest done (f ∷ fs))
unfolding columns_after
field_put {a} {b} {c} done f fs p q = subst (Puts a c) (sym (append_assoc (field_after done f) (columns_after f.to fs) (line_feed ∷ []))) (puts-more p q)

pub end-put : {a b : Text} (done : ℕ) → Puts a b (replicate (line_columns - done) blank ++ (line_feed ∷ [])) → Puts a b (Rest done [])
unfolding columns_after
end-put done p = p
