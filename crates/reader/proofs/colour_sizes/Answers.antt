-- `reader::colour_sizes` meets its contract.
use native.Mathlib.Omega.{arith}
use Rattle.lists.proofs.Grown.{grown-more}
use Rattle.decoding.proofs.Records.{bounds-place, site-counts-place}
use Rattle.reader.proofs.Eight.{sizes-at, eight_are}
use Rattle.reader.proofs.colour_sizes.Goals as goal

pub overflow_cast-sizes : goal.overflow_cast-sizes
overflow_cast-sizes c = let h = c.requires.bounds_low c.loop-c.c in omega (arith, h, bounds-place c.args.colours.now c.loop-c.c)

pub overflow_cast-sizes-in-loop-c : goal.overflow_cast-sizes-in-loop-c
overflow_cast-sizes-in-loop-c c = let h = c.requires.counts_low c.loop-c.c in omega (arith, h, site-counts-place c.args.colours.now c.loop-c.c)

pub loop-c-preserved : goal.loop-c-preserved
loop-c-preserved c = let l = c.loop-c in
    let t = c.loop-c-test.true in
    grown-more _ _ _ _ _ _ _ (omega (arith, l.invariant.long, t, c.requires.few)) (sizes-at c.args.colours.now l.c t) l.invariant

pub returns : goal.returns
returns c = eight_are c.args.colours.now _ _ c.loop-c-test.false c.loop-c.invariant
