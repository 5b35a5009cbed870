-- The tests of refusals 3 to 7 word by word, as the code makes them. Assumes nothing: these are definitions.
-- That they are the tests of `sheet_fault` is shown in reader: proofs/Wordwise (4, 5, 6) and refusal_7/Factors.
use Rattle.std.specs.Prelude.{Bool, true, false, ◌&&◌, ◌||◌, not, cond, List, [], ◌∷◌, ℕ, ◌+◌, eqb, leb, ltb, length}
use Rattle.sheet.specs.Limits.{most_slots, most_colours, most_sites, most_budgets, unbounded}
use Rattle.sheet.specs.Sheet.{bits, kind_of, slots_in, colours_in, sites_in}
use Rattle.sheet.specs.Words.{rank_in}

-- REFUSAL 3: `counts_fit` of the sheet with this body
abbrev pub counts_fit_in : (body : List ℕ) → Bool
counts_fit_in ws = leb (length (slots_in ws)) most_slots && leb (length (colours_in ws)) most_colours && leb (length (sites_in 0 ws)) most_sites

-- REFUSAL 4: a slot is no lower than the least that may come, which is then one above it
abbrev pub low_ok : (low word : ℕ) → Bool
low_ok l w = not (eqb (kind_of w) 2) || leb l (bits w 0 14)

abbrev pub low_next : (low word : ℕ) → ℕ
low_next l w = cond (eqb (kind_of w) 2) (bits w 0 14 + 1) l

unfoldable pub rises_from : (low : ℕ) → List ℕ → Bool
rises_from l [] = true
rises_from l (w ∷ ws) = low_ok l w && rises_from (low_next l w) ws

-- REFUSAL 5: a site's x is at most the width
abbrev pub width_ok : (width word : ℕ) → Bool
width_ok x w = not (eqb (kind_of w) 4) || leb (bits w 14 14) x

unfoldable pub all_inside : (width : ℕ) → List ℕ → Bool
all_inside x [] = true
all_inside x (w ∷ ws) = width_ok x w && all_inside x ws

-- REFUSAL 6: a word is a site of this rank; some word is; no later word is a site of this site's rank
abbrev pub is_ranked : (rank word : ℕ) → Bool
is_ranked r w = eqb (kind_of w) 4 && eqb (rank_in w) r

unfoldable pub some_ranked : (rank : ℕ) → List ℕ → Bool
some_ranked r [] = false
some_ranked r (w ∷ ws) = is_ranked r w || some_ranked r ws

abbrev pub rank_new : (word : ℕ) → List ℕ → Bool
rank_new w ws = not (eqb (kind_of w) 4) || not (some_ranked (rank_in w) ws)

unfoldable pub all_new : List ℕ → Bool
all_new [] = true
all_new (w ∷ ws) = rank_new w ws && all_new ws

-- REFUSAL 7: what a word multiplies P by
abbrev pub factor_of : (word : ℕ) → ℕ
factor_of w = cond (eqb (kind_of w) 3) (cond (eqb (bits w 0 8) unbounded) 1 (bits w 0 8 + 1)) 1

-- P as far as it matters: one more than the most stands for all that is above it
abbrev pub capped : ℕ → ℕ
capped n = cond (ltb most_budgets n) (most_budgets + 1) n
