-- `reader::sizes_of` meets its contract.
use native.Mathlib.Omega.{arith}
use lib.ListN.{length-take}
use Rattle.decoding.proofs.Fronts.{few, bounds, bounds-fit, counts-fit}
use Rattle.decoding.proofs.Records.{bounds-front, site-counts-front}
use Rattle.reader.proofs.Decoded.{few-budgets, sizes-are}
use Rattle.reader.proofs.sizes_of.Goals as goal

pub slice_bounds-bounds-end : goal.slice_bounds-bounds-end
slice_bounds-bounds-end c = omega (arith, few c.requires)

pub slice_bounds-product_of-end : goal.slice_bounds-product_of-end
slice_bounds-product_of-end c = rw c.bounds-bounds.ensures (bounds c.requires).1

pub shared_ref_as_front-colour_sizes : goal.shared_ref_as_front-colour_sizes
shared_ref_as_front-colour_sizes c = omega (arith, few c.requires)

pub product_of-p-requires : goal.product_of-p-requires
product_of-p-requires c = let b = bounds-fit c.requires in rw c.bounds-bounds.ensures (record { by_index = b.1; bounds_bound = b.2 })

pub overflow_cast-numbers-2 : goal.overflow_cast-numbers-2
overflow_cast-numbers-2 c = omega (arith, few c.requires)

pub overflow_cast-numbers-3 : goal.overflow_cast-numbers-3
overflow_cast-numbers-3 c = omega (arith, few c.requires)

pub work_for-work-requires : goal.work_for-work-requires
work_for-work-requires c = let z = few c.requires in (z.0, z.1, z.2, few-budgets c.requires _ (rw c.bounds-bounds.ensures at c.product_of-p.ensures))

pub overflow_cast-result : goal.overflow_cast-result
overflow_cast-result c = omega (arith, few c.requires)

pub overflow_cast-result-3 : goal.overflow_cast-result-3
overflow_cast-result-3 c = omega (arith, few c.requires)

pub overflow_cast-result-4 : goal.overflow_cast-result-4
overflow_cast-result-4 c = omega (arith, few-budgets c.requires _ (rw c.bounds-bounds.ensures at c.product_of-p.ensures))

pub colour_sizes-requires-clause-few : goal.colour_sizes-requires-clause-few
colour_sizes-requires-clause-few c = let d = c.args.numbers.now in omega (arith, few c.requires, length-take d.kinds d.colour_list)

pub colour_sizes-requires-clause-bounds_low : goal.colour_sizes-requires-clause-bounds_low
colour_sizes-requires-clause-bounds_low c = let d = c.args.numbers.now in λ i. rw (bounds-front d.kinds d.colour_list) ((bounds-fit c.requires).1 i)

pub colour_sizes-requires-clause-counts_low : goal.colour_sizes-requires-clause-counts_low
colour_sizes-requires-clause-counts_low c = let d = c.args.numbers.now in λ i. rw (site-counts-front d.kinds d.colour_list) ((counts-fit c.requires).1 i)

pub returns : goal.returns
returns c = sizes-are c.requires _ (rw c.bounds-bounds.ensures at c.product_of-p.ensures) _ c.work_for-work.ensures _ c.colour_sizes.ensures
