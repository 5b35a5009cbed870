-- Tests, counts and sums over the sites by their numbers, as a loop that has passed the sites before one has them: each slot is
-- counted at the first site that has it, so no list of slots is kept. Assumes nothing: these are definitions.
-- proofs/Counted shows that they are a test of all sites, the numbers of slots of rule 2, the count and the length.
use Rattle.std.specs.Prelude.{Bool, true, false, ◌&&◌, ◌||◌, not, cond, List, ℕ, zero, suc, ◌+◌, ◌-◌, eqb, length, get_or}
use Rattle.sheet.specs.Sheet.{Sheet}
use Rattle.labelling.specs.Layout.{site_at, height_of, left_end, site_share}

-- all numbers before one pass
unfoldable pub all_before : (passes : ℕ → Bool) → (before : ℕ) → Bool
all_before f zero = true
all_before f (suc i) = all_before f i && f i

-- the sum over all numbers before one
unfoldable pub sum_before : (share : ℕ → ℕ) → (before : ℕ) → ℕ
sum_before f zero = 0
sum_before f (suc i) = sum_before f i + f i

-- a site before one, of those that pass, has this slot
unfoldable pub is_taken : (passes : ℕ → Bool) → (ties : List ℕ) → (slot before : ℕ) → Bool
is_taken p js k zero = false
is_taken p js k (suc i) = is_taken p js k i || (p i && eqb (get_or js i 0) k)

-- site i passes and is the first of those that pass to have its slot
abbrev pub is_first : (passes : ℕ → Bool) → (ties : List ℕ) → (site : ℕ) → Bool
is_first p js i = p i && not (is_taken p js (get_or js i 0) i)

-- the sum over the slots of the sites that pass, each slot once
abbrev pub sum_firsts : (passes : ℕ → Bool) → (share : ℕ → ℕ) → (ties : List ℕ) → (before : ℕ) → ℕ
sum_firsts p f js n = sum_before (λ i. cond (is_first p js i) (f (get_or js i 0)) 0) n

-- every site passes; the sites of a colour pass
abbrev pub any_site : ℕ → Bool
any_site i = true

abbrev pub of_colour : Sheet → (colour : ℕ) → (site : ℕ) → Bool
of_colour s c i = eqb (site_at s i).colour c

-- the count of rule 6: the number of used slots
abbrev pub labels_counted : Sheet → (ties : List ℕ) → ℕ
labels_counted s js = sum_firsts any_site (λ k. 1) js (length s.sites)

-- rule 2: the number of slots that a colour uses
abbrev pub colours_counted : Sheet → (ties : List ℕ) → (colour : ℕ) → ℕ
colours_counted s js c = sum_firsts (of_colour s c) (λ k. 1) js (length s.sites)

-- the length of rule 6: the sum of W less the left end over the used slots, and the sum of the sites' shares
abbrev pub backbones_counted : Sheet → (ties : List ℕ) → ℕ
backbones_counted s js = sum_firsts any_site (λ k. s.width - left_end s js k) js (length s.sites)

abbrev pub shares_counted : Sheet → (ties : List ℕ) → ℕ
shares_counted s js = sum_before (λ i. site_share s (height_of s (get_or js i 0)) (site_at s i).y) (length s.sites)
