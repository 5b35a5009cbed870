-- What `Puts` says of the area and the place alone, and two such, one after the other. Assumes nothing.
use mathlib.Core.Path.{◌≡◌, sym, ◌∙◌}
use mathlib.Core.List.{List, ◌++◌}
use Prim.Native.Nat.{ℕ}
use Rattle.text.specs.Text.{written, past_of}
use Rattle.text.specs.Puts.{Puts}
use Rattle.text.specs.declared.Text.{Text}
use Rattle.text.proofs.Written.{written-more, past_more}

abbrev pub Put : (l out : List ℕ) (i past : ℕ) (s : List ℕ) → Type 0
Put l out i past s = (past ≡ past_of l i s) × (out ≡ written l i s)

pub put-of : {a b : Text} {s : List ℕ} → Puts a b s → Put a.area.now b.area.now a.past b.past s
put-of p = (p.past, p.area)

pub put-more : {m o : List ℕ} {p q : ℕ} (l : List ℕ) (i : ℕ) (s t : List ℕ) → Put l m i p s → Put m o p q t → Put l o i q (s ++ t)
put-more l i s t a b = (b.0 ∙ rw (a.0, a.1) (sym (past_more l i s t)), b.1 ∙ rw (a.0, a.1) (sym (written-more l i s t)))
