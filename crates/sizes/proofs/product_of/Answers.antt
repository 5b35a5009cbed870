use Rattle.std.proofs.Common.{◌*◌, rules}
use Rattle.std.proofs.lemmas.Iterator.{YieldsList-from_slice, YieldsList-from_map}
use Rattle.std.proofs.lemmas.Iterator.Consumers.{YieldsList-at}
use Rattle.std.proofs.lemmas.Iterator.Adapters.{serves_from_places, total_from_yields_List}
use mathlib.Core.Path.{◌∙◌}
use native.Mathlib.Nat.{one-mul}
use native.Mathlib.Omega.{arith}
use Rattle.lists.proofs.Places.{default-any}
use Rattle.sizes.specs.Budgets.{radix_by}
use Rattle.sizes.proofs.Budgets.{product-is, product-fits}
use Rattle.sizes.proofs.product_of.Goals as goal

pub product-requires : goal.product-requires
product-requires c =
    let bs = c.args.bounds.now in
    let bounds = YieldsList-at c.map.ensures.source (YieldsList-from_slice bs c.iter.ensures.rest) in
    record {
      can = (tt, serves_from_places bounds (λ x q k. search rules) (λ x k l e κ r g h fits u. omega (arith, e ∙ default-any bs k x.now 0 l, c.requires.by_index k)));
      finite = tt;
      fits = product-fits bs (YieldsList-from_map _ radix_by bounds c.map.ensures.closure (λ x r q k. search rules)) c.requires.bounds_bound;
    }

pub returns : goal.returns
returns c =
    let bs = c.args.bounds.now in
    total_from_yields_List (λ a x. a * x) 1 _ c.product.ensures.ran (YieldsList-from_map _ radix_by (YieldsList-at c.map.ensures.source (YieldsList-from_slice bs c.iter.ensures.rest)) c.map.ensures.closure (λ x r q k. search rules))
    ∙ product-is 1 bs ∙ one-mul _
