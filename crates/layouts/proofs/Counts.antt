-- The count that the judge compares with a colour's bound is the number of different slots that the colour's sites have. Assumes nothing.
use mathlib.Core.Path.{◌≡◌, refl, ◌∙◌, ap, subst⁻¹}
use mathlib.Core.Logic.{◌↔◌}
use mathlib.Core.List.{List}
use Prim.Native.Nat.{ℕ}
use Rattle.lists.specs.Number.{NumberOf}
use Rattle.sheet.specs.Limits.{most_slots}
use Rattle.sheet.specs.Refusals.{given}
use Rattle.sheet.specs.Sheet.{all, in_order, is_charge, slots_in, sites_run, colours_in, sites_in, product_of, rising, has_rank, ranks_differ, rank_by, Sheet, sheet_in}
use Rattle.labelling.specs.Layout.{tied_of, is_used, used_from, least_x, slots_of, bounds_kept, backbones, drops, tie_words, ties_in, off_by, share_by, far_by, counts_by, clear_by, layout_ties, sheet_part, layout_part, judge_fault}
use Rattle.labelling.specs.Counted.{sum_before, is_taken, colours_counted}
use Rattle.labelling.specs.Slots.{ColourHas}
use Rattle.labelling.proofs.Judge.{judged-so}
use Rattle.labelling.proofs.Slots.{colour-number}
use Rattle.decoding.specs.Decoding.{numbers_by, site_colours_in, site_array}
use Rattle.decoding.proofs.Places.{decoded}
use Rattle.layouts.specs.declared.labels.Among.TheVariants.{Of}
use Rattle.layouts.specs.Model.{count_on}
use Rattle.layouts.specs.Counts.{labels_compared, SlotsCounted, CountExamples}
use Rattle.layouts.proofs.Fitting.{long}
use Rattle.layouts.proofs.RulesKept.{colour-count}

-- by the sheet
compared : (ws : List ℕ) → judge_fault ws ≡ 0 → (c : ℕ) → labels_compared ws c ≡ colours_counted (sheet_in (sheet_part ws)) (layout_ties (layout_part ws)) c
compared ws z c =
    let s : Sheet = sheet_in (sheet_part ws) in
    let f = (judged-so.1 ws).3.0 z in
    ap (count_on (Of c) (site_colours_in (numbers_by s).site_list) (layout_ties (layout_part ws))) (long (sheet_part ws) (layout_part ws) f.0 f.1) ∙
    colour-count s _ _ _ _ (decoded s most_slots) (layout_ties (layout_part ws)) c

pub slots-counted : SlotsCounted
slots-counted ws z c n =
    subst⁻¹ (λ (m : ℕ). (n ≡ m) ↔ NumberOf (ColourHas (sheet_in (sheet_part ws)) (layout_ties (layout_part ws)) c) n) (compared ws z c)
    (colour-number (sheet_in (sheet_part ws)) (layout_ties (layout_part ws)) c n)

pub count-examples : CountExamples
unfolding given all in_order is_charge slots_in sites_run colours_in sites_in product_of rising rank_by has_rank ranks_differ tied_of is_used used_from least_x slots_of bounds_kept backbones far_by counts_by clear_by off_by share_by drops tie_words ties_in sheet_part sum_before is_taken site_colours_in site_array
count-examples = (refl, refl, refl, (refl, refl), (refl, refl), (refl, refl))
