-- What the twin tool gives. Assumes nothing: these are definitions.
use Rattle.std.specs.Prelude.{false, List, ℕ, length}
use Rattle.labelling.specs.Twin.{twin_fault}
use Rattle.words.specs.declared.tied.Head.{Head}
use Rattle.faults.specs.declared.written.Written.{Written}
use Rattle.faults.specs.Results.{written_post}

-- THE TWIN TOOL: its refusal, or 0; and how many words it wrote
abbrev pub twin_post : (stored out : List ℕ) → Written
twin_post ws o = written_post (twin_fault ws o) (length ws)

-- a head, one-sided
abbrev pub head_one_sided : Head → Head
head_one_sided h = record { twosided = false; shortest = h.shortest; gap = h.gap; width = h.width; charge = h.charge }
