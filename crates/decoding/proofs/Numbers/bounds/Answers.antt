use native.Mathlib.Omega.{arith}
use Rattle.lists.proofs.Grown.{grown-more}
use Rattle.sheet.specs.Limits.{most_colours}
use Rattle.decoding.specs.Decoding.{ColourNumbers, no_colour_numbers, bounds_in}
use Rattle.decoding.proofs.Records.{field-next, fields-end}
use Rattle.decoding.proofs.Numbers.bounds.Goals as goal

pub loop-i-preserved : goal.loop-i-preserved
loop-i-preserved c = let l = c.loop-i in
    grown-more _ _ _ _ _ _ _ (omega (arith, l.invariant.long)) (field-next (λ (n : ColourNumbers). n.bound) no_colour_numbers c.args.self.now.colour_list l.i _ (omega arith) (omega arith)) l.invariant

pub returns : goal.returns
unfolding bounds_in
returns c = let l = c.loop-i in
    fields-end (λ (n : ColourNumbers). n.bound) c.args.self.now.colour_list l.bounds l.i most_colours (omega arith) (omega arith) l.invariant
