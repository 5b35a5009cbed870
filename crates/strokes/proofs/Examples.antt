-- Strokes of sheet A, computed from the definitions. Assumes nothing.
use mathlib.Core.Path.{◌≡◌, refl}
use mathlib.Core.Bool.{false}
use mathlib.Core.List.{List, [], ◌∷◌}
use Prim.Native.Nat.{ℕ}
use lib.IntN.{pos, negsuc}
use lib.Count.{count_trailing_zeros}
use lib.Ieee.{fin, odd}
use Rattle.sheet.specs.Refusals.{given}
use Rattle.sheet.specs.Sheet.{all, in_order, is_charge, slots_in, sites_run, colours_in, sites_in, product_of, rising, has_rank, ranks_differ, rank_by}
use Rattle.labelling.specs.Layout.{tied_of, is_used, used_from, least_x, slots_of, bounds_kept, backbones, drops, ties_in, sheet_part, off_by, share_by, far_by, counts_by, clear_by}
use Rattle.labelling.specs.Strokes as units
use Rattle.labelling.specs.Strokes.{end_at, listed, strokes_in}
use Rattle.points.specs.Points.{in_points}
use Rattle.points.specs.declared.stroke.Stroke.TheVariants.{Bone, Drop}
use Rattle.std.specs.Prelude.{Ok, Err}
use Rattle.strokes.specs.Strokes.{stroke_post}

-- sheet A with its best layout, the slots 0, 0 and 2
stored_a : List ℕ
stored_a =
    0x10008008 ∷ 0x20000002 ∷ 0x20000005 ∷ 0x20000008 ∷ 0x300000FF ∷ 0x40008004 ∷ 0x40018006 ∷ 0x300000FF ∷ 0x40010005 ∷
    0x80400013 ∷ 0x90000000 ∷ 0x90000000 ∷ 0x90000002 ∷ []

-- in units
strokes-of-a : strokes_in stored_a ≡
    (units.Bone (end_at 2 2) (end_at 8 2) ∷
    units.Bone (end_at 4 8) (end_at 8 8) ∷
    units.Drop (end_at 2 4) (end_at 2 2) ∷
    units.Drop (end_at 6 6) (end_at 6 2) ∷
    units.Drop (end_at 4 5) (end_at 4 8) ∷ [])
unfolding stored_a sheet_part is_charge slots_in sites_in colours_in sites_run tied_of is_used least_x off_by ties_in listed
strokes-of-a = refl

-- in points: the first, from (0.25, 0.25) to (1, 0.25); the last, from (0.5, 0.625) to (0.5, 1); and past it
stroke-0-of-a : stroke_post stored_a 0 ≡
    Ok (Bone (record { x = fin false 1 (negsuc 1); y = fin false 1 (negsuc 1) }) (record { x = fin false 1 (pos 0); y = fin false 1 (negsuc 1) }))
unfolding stored_a given all in_order is_charge slots_in sites_run colours_in sites_in product_of rising rank_by has_rank ranks_differ tied_of is_used used_from least_x slots_of bounds_kept backbones far_by counts_by clear_by off_by share_by drops ties_in sheet_part listed in_points odd count_trailing_zeros
stroke-0-of-a = refl

stroke-4-of-a : stroke_post stored_a 4 ≡
    Ok (Drop (record { x = fin false 1 (negsuc 0); y = fin false 5 (negsuc 2) }) (record { x = fin false 1 (negsuc 0); y = fin false 1 (pos 0) }))
unfolding stored_a given all in_order is_charge slots_in sites_run colours_in sites_in product_of rising rank_by has_rank ranks_differ tied_of is_used used_from least_x slots_of bounds_kept backbones far_by counts_by clear_by off_by share_by drops ties_in sheet_part listed in_points odd count_trailing_zeros
stroke-4-of-a = refl

stroke-5-of-a : stroke_post stored_a 5 ≡ Err 14
unfolding stored_a given all in_order is_charge slots_in sites_run colours_in sites_in product_of rising rank_by has_rank ranks_differ tied_of is_used used_from least_x slots_of bounds_kept backbones far_by counts_by clear_by off_by share_by drops ties_in sheet_part listed
stroke-5-of-a = refl
