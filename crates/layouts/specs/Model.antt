-- The model that the loops follow: tests and sums over the sites by their numbers, on a sheet's decoded numbers and the ties.
-- Assumes nothing: these are definitions. proofs/RulesKept shows that they come to document 01's rules.
use Rattle.std.specs.Prelude.{◌≡◌, Bool, true, not, cond, List, ℕ, zero, suc, ◌+◌, ◌-◌, ◌≤◌, ◌<◌, min, eqb, length, get_or}
use Rattle.sheet.specs.Limits.{most_sites, number_top}
use Rattle.rules.specs.Rules.{colours_pass, bound_kept, gaps_pass, misses_pass, clears_pass, is_stated}
use Rattle.labelling.specs.Counted.{all_before, sum_before, is_first}
use Rattle.labelling.specs.Layout.{ties_in, share_by}
use Rattle.decoding.specs.Decoding.{SiteNumbers}
use Rattle.words.specs.declared.tied.TiedSite.{TiedSite}
use Rattle.words.specs.declared.tied.Head.{Head}
use Rattle.layouts.specs.declared.labels.Among.{Among}
use Rattle.layouts.specs.declared.labels.Among.TheVariants.{All, Of}
use Rattle.layouts.specs.Flaws.{flaw_of}

abbrev pub one_if : Bool → ℕ
one_if b = cond b 1 0

-- WHAT THE LOOPS ASK: each tie has its site, and its slot a height; the numbers are so low, and so few, that lengths fit. ties: their words
pub record Fits (heights : List ℕ) (sites : List SiteNumbers) (ties : List ℕ) : Type 0 where
  pub sites-long : length ties ≤ length sites
  pub slots-low : (i : ℕ) → i < length ties → get_or (ties_in ties) i 0 < length heights
  pub few : length ties ≤ most_sites

pub record Low (h : Head) (hs bs : List ℕ) : Type 0 where
  pub width : h.width < number_top
  pub charge : h.charge < number_top
  pub heights : (k : ℕ) → get_or hs k 0 < number_top
  pub ys : (i : ℕ) → get_or bs i 0 < number_top

-- the most that a site adds to a length: its label's backbone, at most most_number, and its own share, at most most_share
abbrev pub most_added : ℕ
most_added = 49149

-- THE TIED SITE of a number
abbrev pub tied_at : (heights xs ys colours ties : List ℕ) → ℕ → TiedSite
tied_at hs xs ys cs js i =
    record { x = get_or xs i 0; y = get_or ys i 0; colour = get_or cs i 0; slot = get_or js i 0; height = get_or hs (get_or js i 0) 0 }

-- how many of the sites before i fail a test with site i
abbrev pub flaws_at : Head → (sites : ℕ → TiedSite) → (i : ℕ) → ℕ
flaws_at h ts i = sum_before (λ j. flaw_of h (ts i) (ts j)) i

-- what a rule asks of a tied site beside another, by the head
abbrev pub PairTest : Type 0
PairTest = Head → TiedSite → TiedSite → Bool

-- a tied site beside each of so many; each beside each
abbrev pub passes_all : PairTest → Head → (sites : ℕ → TiedSite) → (count : ℕ) → TiedSite → Bool
passes_all r h ts n t = all_before (λ j. r h t (ts j)) n

abbrev pub pairs_pass : PairTest → Head → (sites : ℕ → TiedSite) → (count : ℕ) → Bool
pairs_pass r h ts n = all_before (λ i. passes_all r h ts n (ts i)) n

-- a tied site beside each from a place on
abbrev pub passes_from : PairTest → Head → (sites : ℕ → TiedSite) → (from count : ℕ) → TiedSite → Bool
passes_from r h ts i n t = all_before (λ k. r h t (ts (i + k))) (n - i)

-- that a rule asks the same of t beside u and of u beside t
abbrev pub AsksBoth : PairTest → Type 0
AsksBoth r = (h : Head) → (t u : TiedSite) → r h t u ≡ r h u t

-- rules 1, 3, 4 and 5, each beside each
pub record AllPairsPass (h : Head) (sites : ℕ → TiedSite) (count : ℕ) : Type 0 where
  pub colours : pairs_pass (λ h t u. colours_pass t u) h sites count ≡ true
  pub gaps : pairs_pass gaps_pass h sites count ≡ true
  pub misses : pairs_pass misses_pass h sites count ≡ true
  pub clears : pairs_pass clears_pass h sites count ≡ true

-- LABELS, counted at their first sites: of all sites, or of a colour's
abbrev pub among_by : Among → (colours : List ℕ) → (site : ℕ) → Bool
among_by All cs i = true
among_by (Of c) cs i = eqb (get_or cs i 0) c

abbrev pub count_on : Among → (colours ties : List ℕ) → (count : ℕ) → ℕ
count_on a cs js n = sum_before (λ i. one_if (is_first (among_by a cs) js i)) n

-- RULE 2: each colour's bound is kept
abbrev pub bounds_on : (bounds colours ties : List ℕ) → (count : ℕ) → Bool
bounds_on bs cs js n = all_before (λ c. bound_kept (count_on (Of c) cs js n) (get_or bs c 0)) (length bs)

-- RULE 6: the least x of a slot's sites, or the width; the left end of its label
unfoldable pub least_before : (slot width : ℕ) → (slots xs : ℕ → ℕ) → (before : ℕ) → ℕ
least_before k w f g zero = w
least_before k w f g (suc i) = cond (eqb (f i) k) (min (least_before k w f g i) (g i)) (least_before k w f g i)

abbrev pub left_on : Head → (xs ties : List ℕ) → (count slot : ℕ) → ℕ
left_on h xs js n k = cond h.twosided 0 (least_before k h.width (λ i. get_or js i 0) (λ i. get_or xs i 0) n)

-- what a site adds to the length, and the length
abbrev pub length_by : Head → (first : Bool) → (heights xs ys ties : List ℕ) → (count site : ℕ) → ℕ
length_by h b hs xs ys js n i = cond b (h.width - left_on h xs js n (get_or js i 0)) 0 + share_by h.charge (get_or hs (get_or js i 0) 0) (get_or ys i 0)

abbrev pub length_at : Head → (heights xs ys colours ties : List ℕ) → (count site : ℕ) → ℕ
length_at h hs xs ys cs js n i = length_by h (is_first (among_by All cs) js i) hs xs ys js n i

abbrev pub length_on : Head → (heights xs ys colours ties : List ℕ) → (count : ℕ) → ℕ
length_on h hs xs ys cs js n = sum_before (length_at h hs xs ys cs js n) n

abbrev pub stated_on : Head → (stated : ℕ) → (heights xs ys colours ties : List ℕ) → (count : ℕ) → Bool
stated_on h w hs xs ys cs js n = is_stated w (count_on All cs js n) (length_on h hs xs ys cs js n)

-- THE LEAST BROKEN RULE: the first of six tests that fails, or 0
abbrev pub first_broken : (one two three four five six : Bool) → ℕ
first_broken a b c d e f = cond (not a) 1 (cond (not b) 2 (cond (not c) 3 (cond (not d) 4 (cond (not e) 5 (cond (not f) 6 0)))))

abbrev pub broken_on : Head → (stated : ℕ) → (heights bounds xs ys colours ties : List ℕ) → (count : ℕ) → ℕ
broken_on h w hs bs xs ys cs js n =
    first_broken (pairs_pass (λ h t u. colours_pass t u) h (tied_at hs xs ys cs js) n) (bounds_on bs cs js n) (pairs_pass gaps_pass h (tied_at hs xs ys cs js) n)
    (pairs_pass misses_pass h (tied_at hs xs ys cs js) n) (pairs_pass clears_pass h (tied_at hs xs ys cs js) n) (stated_on h w hs xs ys cs js n)
