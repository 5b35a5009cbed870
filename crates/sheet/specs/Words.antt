-- What code reads off a sheet's words one at a time. Assumes nothing: these are definitions.
use Rattle.std.specs.Prelude.{cond, List, [], ◌∷◌, ℕ, ◌+◌, eqb}
use Rattle.sheet.specs.Sheet.{kind_of, site_in, rank_of}

-- how many words are of a kind: of a sheet's body, kind 2 gives m, kind 3 gives C, kind 4 gives n
unfoldable pub count_kind : (kind : ℕ) → List ℕ → ℕ
count_kind k [] = 0
count_kind k (w ∷ ws) = cond (eqb (kind_of w) k) 1 0 + count_kind k ws

-- the rank of the site in a word (its colour has no part in it)
abbrev pub rank_in : (word : ℕ) → ℕ
rank_in w = rank_of (site_in w 0)
