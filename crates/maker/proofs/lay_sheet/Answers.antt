-- `maker::lay_sheet` meets its contract.
use Rattle.std.specs.Prelude.{Ok, Err}
use Rattle.sheet.specs.Sheet.{sheet_in, sheet_fault, work_for}
use Rattle.labelling.specs.Promise.{TakesSheet}
use Rattle.labelling.specs.Entry.{make_fault, make_answer, make_work}
use Rattle.labelling.proofs.Maker.{refused-sheet}
use Rattle.decoding.specs.declared.Numbers.{Numbers}
use Rattle.decoding.specs.Decoding.{sheet_by}
use Rattle.faults.specs.declared.refusal.Refusal.{Refusal}
use Rattle.faults.specs.Faults.{maker_fault}
use Rattle.faults.specs.Refusals.{number_of}
use Rattle.faults.proofs.Refusals.{number-above}
use Rattle.reader.specs.declared.Sizes.{Sizes}
use Rattle.reader.specs.Opened.{opened_of, sheet_opened}
use Rattle.reader.specs.Read.{read_of, read_post}
use Rattle.reader.proofs.Opening.{refusal_is, accepted-read, accepted-sizes}
use Rattle.maker.proofs.Calls.{call, refused, taken}
use mathlib.Core.Path.{◌≡◌, refl, ap, ◌∙◌}
use Rattle.std.proofs.lemmas.Result.{err_from_is_err_and}
use mathlib.Core.Bool.{Bool}
use mathlib.Core.List.{List}
use Prim.Native.Nat.{ℕ, ◌<◌}
use native.Mathlib.Omega.{arith}
use lib.ListN.{length, get_or}
use mir.Syntax.{w32}
use mir.Val.{Fits}
use Rattle.maker.proofs.lay_sheet.Goals as goal

-- what the call gives and leaves where it refuses
abbrev Refuses : (ws k o : List ℕ) → (number : ℕ) → Type 0
Refuses ws k o f = (f ≡ make_fault ws k o) × ((k ≡ make_work ws k o) × (o ≡ make_answer ws k o))

-- OPENED TO A REFUSAL
unopened : (ws k o : List ℕ) (r : Refusal) {f : ℕ} → opened_of (Err r) ≡ sheet_opened ws → f ≡ number_of r → Refuses ws k o f
unopened ws k o r {f} e q =
    let n = refusal_is ws e in
    let above : 0 < sheet_fault ws = omega (arith, n, number-above r) in
    call ws k o (sheet_fault ws) f (q ∙ n) (refused-sheet ws k o above)

-- OPENED TO NUMBERS: their sizes are the reader's; where nothing is refused, what is taken
module _ (ws k o : List ℕ) (d : Numbers) {r : Sizes} (e : opened_of (Ok d) ≡ sheet_opened ws) (z : r ≡ read_of (sheet_by d)) where
  read-is : r ≡ read_post ws
  read-is = z ∙ accepted-sizes ws d e

  unrefused : r.refusal ≡ 0
  unrefused = ap (λ (x : Sizes). x.refusal) z

  module _ {two : Bool} {f : ℕ} (side : two ≡ (sheet_in ws).is_two_sided) (q : f ≡ maker_fault 0 two r.work r.n (length k) (length o)) where
    same-fault : f ≡ maker_fault r.refusal two r.work r.n (length k) (length o)
    same-fault = rw unrefused q

    unserved : (f ≡ 0 → ⊥) → Refuses ws k o f
    unserved = refused ws k o r read-is two side f same-fault

    takes : ((i : ℕ) → Fits w32 (get_or ws i 0)) → f ≡ 0 → TakesSheet ws k o × (r.work ≡ work_for (sheet_in ws))
    takes u v = taken ws k o r read-is two side f same-fault (λ i. omega (arith, u i)) v

pub returns-in_err-numbers : goal.returns-in_err-numbers
returns-in_err-numbers c =
    let a = c.args in
    let p = err_from_is_err_and c.from_residual.result c.from_residual.ensures.1 in
    let facts = unopened a.sheet.now a.work.now a.out.now c.in_err-numbers.field-0.0 c.in_err-numbers.ensures refl in
    record { value = rw (p.1, p.2) facts.0; work_after = facts.1.0; out_after = facts.1.1 }

pub returns-in_err-maker_fault : goal.returns-in_err-maker_fault
returns-in_err-maker_fault c =
    let a = c.args in
    let p = err_from_is_err_and c.from_residual-in_err-maker_fault.result c.from_residual-in_err-maker_fault.ensures.1 in
    let r = c.in_err-maker_fault.field-0.0 in
    let facts = unserved a.sheet.now a.work.now a.out.now c.in_ok-numbers.numbers c.in_ok-numbers.ensures c.sizes_of-sizes.ensures c.is_two_sided.ensures c.in_err-maker_fault.ensures (λ e. omega (arith, e, number-above r)) in
    record { value = rw (p.1, p.2) facts.0; work_after = facts.1.0; out_after = facts.1.1 }

-- what is laid out
pub lay_binding-requires : goal.lay_binding-requires
lay_binding-requires c =
    let a = c.args in
    let t = takes a.sheet.now a.work.now a.out.now c.in_ok-numbers.numbers c.in_ok-numbers.ensures c.sizes_of-sizes.ensures c.is_two_sided.ensures c.in_ok-maker_fault.ensures c.type_inv.sheet refl in
    record { read = accepted-read a.sheet.now c.in_ok-numbers.numbers c.in_ok-numbers.ensures; takes = t.0; words-needed = t.1 }

pub returns : goal.returns
returns c =
    let a = c.args in
    let t = takes a.sheet.now a.work.now a.out.now c.in_ok-numbers.numbers c.in_ok-numbers.ensures c.sizes_of-sizes.ensures c.is_two_sided.ensures c.in_ok-maker_fault.ensures c.type_inv.sheet refl in
    let made = c.lay_binding.ensures _ t.0 (accepted-read a.sheet.now c.in_ok-numbers.numbers c.in_ok-numbers.ensures).numbers in
    record { value = made.fault-is; work_after = made.work-is; out_after = made.out-is }
