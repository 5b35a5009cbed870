-- `reader::colour_sizes` meets its contract.
use lib.ListN.{replicate}
use Rattle.lists.proofs.Grown.{Grown}
use Rattle.sheet.specs.Limits.{most_colours}
use Rattle.reader.specs.Read.{absent}
use Rattle.reader.proofs.Eight.{sizes_from}
use Rattle.reader.proofs.colour_sizes.Given as goal

abbrev pub invariant-loop-c : goal.invariant-loop-c
invariant-loop-c l = Grown (replicate most_colours absent) l.sizes (sizes_from l.colours 0) (sizes_from l.colours l.c) l.c
