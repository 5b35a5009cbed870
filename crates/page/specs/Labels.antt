-- A label's numbers, as a loop that has passed the sites before one has them, on a sheet's decoded numbers and the ties.
-- Assumes nothing: these are definitions. proofs/Counting shows that they are the label's own numbers.
use Rattle.std.specs.Prelude.{Bool, cond, List, ℕ, ◌+◌, get_or}
use Rattle.sheet.specs.Sheet.{Sheet}
use Rattle.labelling.specs.Layout.{share_by, height_of}
use Rattle.labelling.specs.Labels.{sum_at, colour_before, label_colour, label_sites, label_shares, label_length}
use Rattle.words.specs.declared.tied.Head.{Head}
use Rattle.page_lines.specs.declared.lines.Label.{Label}
use Rattle.page.specs.declared.labels.Sums.{Sums}

-- with one more site: its colour, itself and its share, if it has the slot
abbrev pub with_site : Sums → (has : Bool) → (colour share : ℕ) → Sums
with_site t b c l = cond b (record { colour = c; sites = t.sites + 1; shares = t.shares + l }) t

-- the sums over the sites before one
abbrev pub sums_on : Head → (slot : ℕ) → (heights ys colours ties : List ℕ) → (before : ℕ) → Sums
sums_on h k hs ys cs js n =
    record {
      colour = colour_before (λ i. get_or cs i 0) js k n;
      sites = sum_at k (λ i. 1) js n;
      shares = sum_at k (λ i. share_by h.charge (get_or hs (get_or js i 0) 0) (get_or ys i 0)) js n;
    }

-- those of a slot on a sheet
abbrev pub sums_at : Sheet → (ties : List ℕ) → (slot : ℕ) → Sums
sums_at s js k = record { colour = label_colour s js k; sites = label_sites s js k; shares = label_shares s js k }

-- THE LABEL of a slot: its slot, its colour, its number of sites, its height, its own length
abbrev pub label_at : Sheet → (ties : List ℕ) → (slot : ℕ) → Label
label_at s js k =
    record { slot = k; colour = label_colour s js k; sites = label_sites s js k; height = height_of s k; length = label_length s js k }
