-- The starred examples, computed from the definitions. Assumes nothing.
use mathlib.Core.Path.{◌≡◌, refl, subst}
use mathlib.Core.Bool.{false}
use mathlib.Core.List.{List, [], ◌∷◌}
use mathlib.Core.Option.{none, some}
use Prim.Native.Nat.{ℕ}
use native.Mathlib.Omega.{arith}
use Rattle.sheet.specs.Refusals.{given}
use Rattle.sheet.specs.Sheet.{all, in_order, is_charge, slots_in, sites_run, colours_in, sites_in, product_of, rising, has_rank, ranks_differ, sheet_in, sheet_fault, rank_by}
use Rattle.labelling.specs.Layout.{tied_of, is_used, used_from, least_x, slots_of, bounds_kept, backbones, drops, tie_words, ties_in, next_rank, slot_at, by_rank, comes_first, best_over, best_from, sheet_part, best, answer_of, off_by, share_by, far_by, counts_by, clear_by}
use Rattle.labelling.specs.Promise.{a, shortest, two_sided, gap_three, gap_four, bound_zero, head_alone, LaidOut, TurnedDown, Examples, bends, charge_word, ChargeExamples, beside, fewest_head, shortest_head, TipExamples}
use Rattle.labelling.proofs.Maker.{Called, called, refused-side, refused-work, refused-out}

-- a call by what is best
lays : (ws js : List ℕ) → sheet_fault ws ≡ 0 → (sheet_in ws).is_two_sided ≡ false → best (sheet_in ws) ≡ some js → LaidOut ws (answer_of (sheet_in ws) js)
lays ws js f s e k o w n =
    let c : Called ws k o (some js) = subst (Called ws k o) e (called ws k o (f, w, n, s)) in
    (c.fault, c.answer)

refuses : (ws : List ℕ) → sheet_fault ws ≡ 0 → (sheet_in ws).is_two_sided ≡ false → best (sheet_in ws) ≡ none → TurnedDown ws
refuses ws f s e k o w n =
    let c : Called ws k o none = subst (Called ws k o) e (called ws k o (f, w, n, s)) in c.fault

pub examples : Examples
unfolding given all in_order is_charge slots_in sites_run colours_in sites_in product_of rising rank_by has_rank ranks_differ tied_of is_used used_from least_x slots_of bounds_kept backbones far_by counts_by clear_by off_by share_by drops tie_words ties_in next_rank slot_at by_rank comes_first best_over best_from sheet_part
examples = (
  (refl, refl, refl, refl, refl, refl, refl, refl, refl, refl, refl, refl, refl),
  (
    lays a (0 ∷ 0 ∷ 2 ∷ []) refl refl refl,
    lays shortest (0 ∷ 1 ∷ 2 ∷ []) refl refl refl,
    (λ k o. (refused-side two_sided k o refl refl).fault-is),
    refuses gap_three refl refl refl,
    refuses gap_four refl refl refl,
    refuses bound_zero refl refl refl,
    lays head_alone [] refl refl refl,
    (refl, refl),
    (refl, refl),
    (refl, refl),
    (refl, refl),
    refl,
    refl,
    (λ k o l. (refused-work a k o refl refl (omega arith)).fault-is),
    λ k o l n. (refused-out a k o refl refl (omega arith) (omega arith)).fault-is,
  ),
)

-- document 02's: of a charge, and of a tip
pub later-examples : ChargeExamples × TipExamples
unfolding given all in_order is_charge slots_in sites_run colours_in sites_in product_of rising rank_by has_rank ranks_differ tied_of is_used used_from least_x slots_of bounds_kept backbones far_by counts_by clear_by off_by share_by drops tie_words ties_in next_rank slot_at by_rank comes_first best_over best_from sheet_part
later-examples = (
  (
    (
      lays (bends []) (0 ∷ 0 ∷ []) refl refl refl,
      lays (bends (charge_word 0 ∷ [])) (0 ∷ 0 ∷ []) refl refl refl,
      lays (bends (charge_word 3 ∷ [])) (0 ∷ 0 ∷ []) refl refl refl,
      lays (bends (charge_word 5 ∷ [])) (0 ∷ 2 ∷ []) refl refl refl,
    ),
    ((refl, refl), (refl, refl), (refl, refl), (refl, refl), (refl, refl)),
    (refl, refl, refl, refl, refl, refl),
  ),
  (
    ((refl, refl), (refl, refl), (refl, refl), (refl, refl), (refl, refl), (refl, refl)),
    (
      lays (beside fewest_head 2 8) (2 ∷ 1 ∷ 1 ∷ []) refl refl refl,
      lays (beside fewest_head 3 8) (2 ∷ 0 ∷ 0 ∷ []) refl refl refl,
      lays (beside shortest_head 3 8) (2 ∷ 0 ∷ 1 ∷ []) refl refl refl,
    ),
  ),
)
