-- `maker::lay_binding` meets its contract.
use Rattle.decoding.proofs.Fronts.{few, bounds, bounds-fit, stands}
use Rattle.maker.proofs.Calls.{read_kept, few-budgets, takes-numbers, needs-less, laid}
use native.Mathlib.Omega.{arith}
use Rattle.maker.proofs.lay_binding.Goals as goal

pub slice_bounds-bounds-end : goal.slice_bounds-bounds-end
slice_bounds-bounds-end c = rw c.bounds-bounds.ensures (stands _ _ (bounds (read_kept c.requires c.binding_numbers-kept.ensures)).1)

pub slice_bounds-product_of-end : goal.slice_bounds-product_of-end
slice_bounds-product_of-end c = rw c.bounds-bounds.ensures (bounds (read_kept c.requires c.binding_numbers-kept.ensures)).1

pub product_of-budgets-requires : goal.product_of-budgets-requires
product_of-budgets-requires c =
    let f = bounds-fit (read_kept c.requires c.binding_numbers-kept.ensures) in
    rw c.bounds-bounds.ensures (record { by_index = f.1; bounds_bound = f.2 })

pub overflow_cast-kept : goal.overflow_cast-kept
overflow_cast-kept c = omega (arith, few (read_kept c.requires c.binding_numbers-kept.ensures))

pub overflow_cast-kinds : goal.overflow_cast-kinds
overflow_cast-kinds c = omega (arith, few (read_kept c.requires c.binding_numbers-kept.ensures))

pub overflow_cast-kept-2 : goal.overflow_cast-kept-2
overflow_cast-kept-2 c = omega (arith, few (read_kept c.requires c.binding_numbers-kept.ensures))

pub work_for-table-requires : goal.work_for-table-requires
work_for-table-requires c =
    let b = c.binding_numbers-kept.ensures in
    let z = few (read_kept c.requires b) in
    (z.0, z.1, z.2, few-budgets c.requires b (rw c.bounds-bounds.ensures at c.product_of-budgets.ensures))

pub lay_one_sided-laid-requires : goal.lay_one_sided-laid-requires
lay_one_sided-laid-requires c = takes-numbers c.requires c.binding_numbers-kept.ensures (rw c.bounds-bounds.ensures at c.product_of-budgets.ensures)

pub zero_part-requires : goal.zero_part-requires
zero_part-requires c =
    let b = c.binding_numbers-kept.ensures in
    needs-less c.requires b (rw c.bounds-bounds.ensures at c.product_of-budgets.ensures) c.work_for-table.ensures c.lay_one_sided-laid.ensures

pub returns : goal.returns
returns c =
    let b = c.binding_numbers-kept.ensures in
    let l = c.lay_one_sided-laid.ensures in
    laid c.requires b (rw c.bounds-bounds.ensures at c.product_of-budgets.ensures) c.work_for-table.ensures l c.zero_part.ensures
