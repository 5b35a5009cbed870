-- The one-sided model on document 01's starred examples and on the sheets that show a misreading, computed. An end in itself.
use mathlib.Core.Path.{refl}
use Rattle.search.specs.Cost.{plus, least, first}
use Rattle.search.specs.Semi.{sum, prod}
use Rattle.search.specs.Split.{conv, cheaper, never, just}
use Rattle.search.specs.Strips.{table, rest}
use Rattle.search.specs.Masks.{mask_by}
use Rattle.search.specs.Radix.{below, place}
use Rattle.search.specs.Plan.{weight, T, Rest}
use Rattle.search.specs.Walk.{choose_by, walk_by, answer_by}
use Rattle.sheet.specs.Sheet.{all, is_charge, slots_in, colours_in, sites_run, sites_in, product_of, rank_by}
use Rattle.labelling.specs.Layout.{tied_of, is_used, used_from, least_x, slots_of, bounds_kept, backbones, drops, by_rank, slot_at, comes_first, far_by, clear_by, counts_by, off_by, share_by}
use Rattle.optimum.specs.Slots.{over, under, far_from, clear_from, far_enough}
use Rattle.optimum.specs.Strips.{marked, inside, opens, joins_up, joins_down, cost, draw, children, strips_from, strips, hold_from, hold, price, next, value, walked}
use Rattle.optimum.specs.Examples.{Starred, Misreadings}
use Rattle.optimum.specs.OneSided.{lead_of, may_open, tip_clear, barred_of, has_slot, turn_of, held_of, radices_of, draws_of, word_of, rank_from, site_of, order_from, order, points_at, scatter, one_sided}

pub examples : Starred × Misreadings
unfolding plus least first sum prod conv cheaper never just table rest below place weight T Rest choose_by walk_by answer_by is_charge slots_in colours_in sites_run sites_in product_of over under inside far_from clear_from opens joins_up joins_down cost draw children strips_from strips hold_from hold marked price next value walked far_enough far_by clear_by counts_by off_by share_by lead_of may_open tip_clear mask_by barred_of has_slot turn_of held_of all radices_of draws_of word_of rank_from rank_by site_of order_from order points_at scatter one_sided tied_of is_used used_from least_x slots_of bounds_kept backbones drops by_rank slot_at comes_first Rattle.labelling.specs.Layout.next_rank
examples = (
  ((refl, refl, refl), refl, refl, refl, refl, refl),
  ((refl, refl, refl), (refl, refl, refl), (refl, refl), (refl, refl), (refl, refl, refl), (refl, refl, refl), (refl, refl, refl), (refl, refl, refl), (refl, refl, refl), (refl, refl)),
)
