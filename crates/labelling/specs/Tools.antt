-- A tool over lawful stored sheets that writes into a lent area, whatever it writes: document 02, "Two-sided sheets end" (words) and "A page
-- for the print room" (bytes). Assumes nothing: these are definitions, each for every list of words.
use Rattle.std.specs.Prelude.{cond, List, [], ◌∷◌, ◌++◌, ℕ, eqb, leb, drop}
use Rattle.sheet.specs.Refusals.{Refusal, unless, given}
use Rattle.labelling.specs.Layout.{stored_refusals}

-- the refusal, with so many places to write and so many lent: 1 to 7, 11 and 13 of any stored sheet; then 9, fewer are lent; or 0
abbrev pub tool_refusals : (stored : List ℕ) → (size lent : ℕ) → List Refusal
tool_refusals ws n l = stored_refusals ws ++ (unless (leb n l) 9 ∷ [])

abbrev pub tool_fault : (stored : List ℕ) → (size lent : ℕ) → ℕ
tool_fault ws n l = given (tool_refusals ws n l)

-- the area afterwards: what is written in its first places, the rest as before; a refusal changes nothing
abbrev pub tool_area : (fault size : ℕ) → (contents area : List ℕ) → List ℕ
tool_area f n t o = cond (eqb f 0) (t ++ drop n o) o
