-- Where a label starts. Assumes nothing: this is a definition.
use Rattle.std.specs.Prelude.{cond, ℕ}
use Rattle.words.specs.declared.tied.TiedSite.{TiedSite}
use Rattle.words.specs.declared.tied.Head.{Head}

-- the left end of u's label if u alone is on it: its x, or 0 on a two-sided sheet
abbrev pub start_of : Head → (u : TiedSite) → ℕ
start_of h u = cond h.twosided 0 u.x
