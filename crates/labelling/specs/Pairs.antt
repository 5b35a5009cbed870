-- Rules 4 and 5 by pairs of tied sites: no used slot and no left end is asked for. Assumes nothing: these are definitions.
-- proofs/Pairs shows that they are rules 4 and 5.
use Rattle.std.specs.Prelude.{Bool, cond, List, ℕ}
use Rattle.sheet.specs.Sheet.{all, Site, Sheet}
use Rattle.labelling.specs.Layout.{Tied, misses_from, clears_from}

-- the left end of a label that has this site alone: its x, or 0 on a two-sided sheet
abbrev pub start_of : Sheet → Site → ℕ
start_of s u = cond s.is_two_sided 0 u.x

-- rule 4 of a pair: the vertical of t misses the backbone that u's label has from u on
abbrev pub misses_pair : Sheet → (t u : Tied) → Bool
misses_pair s t u = misses_from s t u.slot (start_of s u.site)

abbrev pub misses_pairs : Sheet → List Tied → Tied → Bool
misses_pairs s ts t = all (misses_pair s t) ts

-- rule 5 of a pair: the backbone that u's label has from u on lies at least D from t
abbrev pub clears_pair : Sheet → (t u : Tied) → Bool
clears_pair s t u = clears_from s t u.slot (start_of s u.site)

abbrev pub clears_pairs : Sheet → List Tied → Tied → Bool
clears_pairs s ts t = all (clears_pair s t) ts
