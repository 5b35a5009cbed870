-- What is laid out from the arrays of an accepted one-sided sheet is what the maker is to answer and leave. Assumes nothing.
use mathlib.Core.Path.{◌≡◌, sym, ap, ap₂, ◌∙◌, subst⁻¹}
use mathlib.Core.Bool.{true, false}
use mathlib.Core.List.{List, ◌++◌}
use Prim.Native.Nat.{ℕ, ◌+◌, ◌*◌}
use native.Mathlib.Omega.{arith}
use lib.Dec.{ltb}
use lib.ListN.{length, set, drop, replicate}
use borrow.Author.Tests.{lt-ltb, le-ltb}
use Rattle.lists.proofs.Tests.{by_order}
use Rattle.labelling.specs.Layout.{first_word}
use Rattle.sheet.specs.Sheet.{Sheet, sheet_in, product_of, work_for}
use Rattle.sheet.proofs.Accepted.{sound, sites-coloured}
use Rattle.areas.proofs.Zeroed.{zeroed-front}
use Rattle.labelling.specs.Entry.{zeroed}
use Rattle.labelling.specs.Promise.{TakesSheet}
use Rattle.labelling.proofs.Maker.{cleared}
use Rattle.optimum.specs.Strips.{Point}
use Rattle.optimum.specs.OneSided.{top_word, instance_of, order, points_at, write_ties}
use Rattle.optimum.specs.CostWord.{count_in, length_in}
use Rattle.optimum.proofs.optimality.Order.{ordered}
use Rattle.optimum.proofs.optimality.OneSidedBest.{points-long}
use Rattle.optimum.proofs.optimality.OneSidedAnswer.{first_cell, slots_walked, cell-value, slots-walked, work-cells, call-unmade}
use Rattle.optimum.proofs.optimality.Write.{call-written}
use Rattle.arrays.specs.Arrays.{measures_of}
use Rattle.arrays.specs.Given as goal
use Rattle.arrays.specs.Given.{Given}
use Rattle.arrays.proofs.Instances.{instance-by, points-by}
use Rattle.rows.specs.Rows.{level_size}
use Rattle.costs.specs.Costs.{first_word_by}
use Rattle.walk.specs.Walk.{level_words}
use Rattle.walk.specs.Laid.{least_cost, fault_by, written_by, out_by, laid_fault, laid_out, laid_work}
use Rattle.onesided.specs.Laying.{Made, arrays_of}

module _ (ws k out : List ℕ) (t : TakesSheet ws k out) where
  abbrev s : Sheet
  s = sheet_in ws

  least-is : least_cost (instance_of s) (product_of s.colours) (points_at s (order s)) ≡ first_cell s
  least-is = sym (cell-value s (sound ws t.1) t.4 (sites-coloured ws t.1))

  size_is : (length (points_at s (order s)) + 1) * level_size (length s.slots) (length s.colours) (product_of s.colours) ≡ work_for s
  size_is =
      ap (λ (n : ℕ). (n + 1) * level_size (length s.slots) (length s.colours) (product_of s.colours)) (points-long s (order s) ∙ (ordered s (sound ws t.1)).long)
      ∙ sym (work-cells s t.4)

  zeroed-is : (work : List ℕ) → drop (work_for s) work ≡ drop (work_for s) k → laid_work (arrays_of s) work ≡ cleared ws k
  zeroed-is work e =
      ap (λ (p : List Point). zeroed 0 ((length p + 1) * level_words (arrays_of s)) work) (points-by s (sound ws t.1)) ∙ ap (λ (n : ℕ). zeroed 0 n work) size_is ∙ zeroed-front (work_for s) work
      ∙ ap (λ (l : List ℕ). replicate (work_for s) 0 ++ l) e

  written_is : written_by (instance_of s) (measures_of s) (points_at s (order s)) (order s) out
      ≡ write_ties (set out 0 (first_word (count_in s (first_cell s)) (length_in s (first_cell s)))) (order s) (slots_walked s)
  unfolding count_in length_in
  written_is =
      ap₂ (λ (w : ℕ) (js : List ℕ). write_ties (set out 0 (first_word_by (measures_of s) w)) (order s) js) least-is
      (sym (slots-walked s (sound ws t.1) t.4 (sites-coloured ws t.1)))

  -- by the sheet's own instance and order
  laid-sheet : (work : List ℕ) → drop (work_for s) work ≡ drop (work_for s) k
      → Made ws k out (fault_by (instance_of s) (product_of s.colours) (points_at s (order s)))
      (laid_work (arrays_of s) work) (out_by (instance_of s) (measures_of s) (points_at s (order s)) (order s) out)
  laid-sheet work e =
      by_order top_word (first_cell s)
      (λ h. let r = call-unmade ws k out t h in
      let l : ltb (least_cost (instance_of s) (product_of s.colours) (points_at s (order s))) top_word ≡ false = le-ltb (least_cost (instance_of s) (product_of s.colours) (points_at s (order s))) top_word (omega (arith, least-is)) in
      record { fault-is = rw l (sym r.fault-is); work-is = zeroed-is work e ∙ sym r.work-is; out-is = rw l (sym r.out-is) })
      (λ h. let r = call-written ws k out t h in
      let l : ltb (least_cost (instance_of s) (product_of s.colours) (points_at s (order s))) top_word ≡ true = lt-ltb (least_cost (instance_of s) (product_of s.colours) (points_at s (order s))) top_word (omega (arith, least-is)) in
      record { fault-is = rw l (sym r.fault-is); work-is = zeroed-is work e ∙ sym r.work-is; out-is = rw l (written_is ∙ sym r.out-is) })

  -- THE CALL, from arrays that are the sheet's
  pub laid-is : (g : Given) (work : List ℕ) → g ≡ arrays_of s → drop (work_for s) work ≡ drop (work_for s) k → Made ws k out (laid_fault g) (laid_work g work) (laid_out g out)
  laid-is g work eg e =
      let P : goal.instance_of (arrays_of s) ≡ instance_of s = instance-by s in
      let p : goal.points_of (arrays_of s) ≡ points_at s (order s) = points-by s (sound ws t.1) in
      let m = laid-sheet work e in
      subst⁻¹ (λ (z : Given). Made ws k out (laid_fault z) (laid_work z work) (laid_out z out)) eg
      (record {
        fault-is = (λ i. fault_by (P i) (product_of s.colours) (p i)) ∙ m.fault-is;
        work-is = m.work-is;
        out-is = (λ i. out_by (P i) (measures_of s) (p i) (order s) out) ∙ m.out-is;
      })
