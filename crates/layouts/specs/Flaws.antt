-- Rules 1, 3, 4 and 5 of two tied sites at once. Assumes nothing: these are definitions.
use Rattle.std.specs.Prelude.{Bool, ◌&&◌, cond, ℕ}
use Rattle.words.specs.declared.tied.TiedSite.{TiedSite}
use Rattle.words.specs.declared.tied.Head.{Head}
use Rattle.rules.specs.Rules.{colours_pass, gaps_pass, misses_pass, clears_pass}

-- the tests that ask the same of t beside u and of u beside t; those that do not; 1 if one of the two fails one beside the other, else 0
abbrev pub passes_both : Head → (t u : TiedSite) → Bool
passes_both h t u = colours_pass t u && gaps_pass h t u

abbrev pub passes_one : Head → (t u : TiedSite) → Bool
passes_one h t u = misses_pass h t u && clears_pass h t u

unfoldable pub flaw_of : Head → (t u : TiedSite) → ℕ
flaw_of h t u = cond (passes_both h t u && (passes_one h t u && passes_one h u t)) 0 1
