-- The page of sheet A, computed from the definitions. Assumes nothing.
use mathlib.Core.Path.{◌≡◌, refl}
use mathlib.Core.List.{List, [], ◌∷◌, ◌++◌}
use Prim.Native.Nat.{ℕ}
use lib.ListN.{replicate}
use Rattle.sheet.specs.Refusals.{given}
use Rattle.sheet.specs.Sheet.{all, in_order, is_charge, slots_in, sites_run, colours_in, sites_in, product_of, rising, has_rank, ranks_differ, rank_by}
use Rattle.labelling.specs.Layout.{tied_of, is_used, used_from, least_x, slots_of, bounds_kept, backbones, drops, tie_words, layout_words, ties_in, sheet_part, off_by, share_by, far_by, counts_by, clear_by}
use Rattle.labelling.specs.Counted.{sum_before}
use Rattle.labelling.specs.Labels.{colour_before}
use Rattle.labelling.specs.Promise.{a}
use Rattle.text.specs.Text.{ascii, digits_by, decimal, right_in}
use Rattle.page_lines.specs.Columns.{columns_after}
use Rattle.page.specs.Page.{numbers_from, joined, page_in, page_fault}

-- sheet A with its best layout, the slots 0, 0 and 2
stored_a : List ℕ
stored_a = a ++ layout_words 2 19 (0 ∷ 0 ∷ 2 ∷ [])

-- six lines of 41 bytes
page-of-a : page_in stored_a ≡
    (ascii "  0  0  2        2       12             \n" ++
    ascii "  2  1  1        8        7             \n" ++
    ascii "  drop   0   0       -2                 \n" ++
    ascii "  drop   1   0       -4                 \n" ++
    ascii "  drop   2   2       +3                 \n" ++
    ascii "total    2               19             \n")
unfolding stored_a sheet_part is_charge slots_in sites_in colours_in sites_run tied_of is_used used_from least_x off_by share_by tie_words ties_in backbones drops sum_before colour_before digits_by decimal right_in columns_after numbers_from joined
page-of-a = refl

-- 246 bytes serve, 245 give 9
served-246 : page_fault stored_a (replicate 246 0) ≡ 0
unfolding stored_a given all in_order is_charge slots_in sites_run colours_in sites_in product_of rising rank_by has_rank ranks_differ tied_of is_used used_from least_x slots_of bounds_kept backbones far_by counts_by clear_by off_by share_by drops tie_words ties_in sheet_part numbers_from
served-246 = refl

refused-245 : page_fault stored_a (replicate 245 0) ≡ 9
unfolding stored_a given all in_order is_charge slots_in sites_run colours_in sites_in product_of rising rank_by has_rank ranks_differ tied_of is_used used_from least_x slots_of bounds_kept backbones far_by counts_by clear_by off_by share_by drops tie_words ties_in sheet_part numbers_from
refused-245 = refl
