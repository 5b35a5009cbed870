use native.Mathlib.Omega.{arith}
use Rattle.lists.proofs.Grown.{grown-more}
use Rattle.sheet.specs.Limits.{most_sites}
use Rattle.decoding.specs.Decoding.{SiteNumbers, no_site_numbers, ys_in}
use Rattle.decoding.proofs.Records.{field-next, fields-end}
use Rattle.decoding.proofs.Numbers.ys.Goals as goal

pub loop-i-preserved : goal.loop-i-preserved
loop-i-preserved c = let l = c.loop-i in
    grown-more _ _ _ _ _ _ _ (omega (arith, l.invariant.long)) (field-next (λ (n : SiteNumbers). n.y) no_site_numbers c.args.self.now.site_list l.i _ (omega arith) (omega arith)) l.invariant

pub returns : goal.returns
unfolding ys_in
returns c = let l = c.loop-i in
    fields-end (λ (n : SiteNumbers). n.y) c.args.self.now.site_list l.ys l.i most_sites (omega arith) (omega arith) l.invariant
