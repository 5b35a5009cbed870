use Rattle.strips.specs.Strips.{gap_left}
use Rattle.strips.proofs.Decisions.{opens-split}
use mathlib.Core.Path.{refl}
use native.Mathlib.Numerals.{add-one}
use Rattle.strips.proofs.opens.Goals as goal

pub returns : goal.returns
unfolding gap_left
returns c = rw (opens-split, ← (add-one c.args.s.c), c.is_barred.ensures, c.site_opens.ensures, c.is_far-2.ensures, c.is_far.ensures) refl
