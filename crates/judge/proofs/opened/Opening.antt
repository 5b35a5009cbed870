-- What a stored sheet is opened to, by what was found of it. Assumes nothing.
use mathlib.Core.Path.{◌≡◌, refl, sym, ap, ◌∙◌}
use mathlib.Core.Bool.{Bool, true, false, not, true≢false, false≢true}
use mathlib.Core.List.{List}
use Prim.Native.Nat.{ℕ, ◌<◌}
use native.Mathlib.Omega.{arith}
use borrow.Author.Tests.{eq-eqb, ne_eqb}
use Rattle.std.specs.Prelude.{Option, Some, None, Result, IfOk}
use Rattle.std.specs.Option.{is_some}
use Rattle.faults.specs.declared.refusal.Refusal.{Refusal}
use Rattle.faults.specs.Faults.{layout_fault, rule_fault}
use Rattle.faults.specs.Refusals.{number_of}
use Rattle.faults.proofs.Refusals.{number-above}
use Rattle.sheet.specs.Sheet.{sheet_in, sheet_fault}
use Rattle.labelling.specs.Layout.{is_layout, sheet_part, layout_part, broken_by, judge_fault, judged, stored_fault}
use Rattle.labelling.proofs.Refusals.{judge-chain}
use Rattle.labelling.proofs.Stored.{stored-judge, stored-unlawful, stored-none}
use Rattle.decoding.specs.Decoding.{numbers_by, LayoutRead}
use Rattle.decoding.specs.declared.Numbers.{Numbers}
use Rattle.layouts.specs.declared.rule.Rule.{Rule}
use Rattle.layouts.specs.Broken.{rule_number, broken_number}
use Rattle.judge.specs.declared.opened.Opened.{Opened}
use Rattle.judge.specs.Opened.{parts_fault}

-- its numbers and its layout were read
pub layout-read : {d : Numbers} (ss ls : List ℕ) → sheet_fault ss ≡ 0 → d ≡ numbers_by (sheet_in ss) → is_layout (sheet_in ss) ls ≡ true → LayoutRead d ls
layout-read ss ls a e f = record { read = record { words = ss; accepted = a; numbers = e }; form = f }

-- THE REFUSAL of a sheet and the words behind it
pub parts-sheet : (ss ls : List ℕ) (r : Refusal) → number_of r ≡ sheet_fault ss → number_of r ≡ parts_fault ss ls
parts-sheet ss ls r e = rw (ne_eqb (sheet_fault ss) 0 (λ z. omega (arith, number-above r, e, z))) e

pub parts-layout : (ss ls : List ℕ) {n : ℕ} {b : Bool} → sheet_fault ss ≡ 0 → n ≡ layout_fault b → b ≡ is_layout (sheet_in ss) ls → n ≡ parts_fault ss ls
parts-layout ss ls z q e = rw (eq-eqb (sheet_fault ss) 0 z) (q ∙ ap layout_fault e)

-- of a stored list
pub judge-parts : (ws ss ls : List ℕ) {n : ℕ} → n ≡ parts_fault ss ls → ss ≡ sheet_part ws → ls ≡ layout_part ws → n ≡ judge_fault ws
judge-parts ws ss ls e p q = e ∙ rw (p, q) refl ∙ sym (judge-chain ws)

pub judge-opened : (r : Result Opened Refusal) {ss ls ss' ls' : List ℕ} → IfOk r (λ o. (o.sheet.now ≡ ss) × (o.layout.now ≡ ls)) → ss ≡ ss' → ls ≡ ls' → IfOk r (λ o. (o.sheet.now ≡ ss') × (o.layout.now ≡ ls'))
judge-opened r h p q = rw (← p, ← q) h

-- of a tool over lawful ones
pub stored-refused : (ws : List ℕ) (r : Refusal) → number_of r ≡ judge_fault ws → number_of r ≡ stored_fault ws
stored-refused ws r e = e ∙ sym (stored-judge ws (λ z. omega (arith, number-above r, e, z)))

-- THE RULE: b says that none was found
rule-above : (r : Rule) → 0 < rule_number r
rule-above r = grind arith

none-broken : (o : Option Rule) (b : Bool) → is_some o ≡ not b → 0 ≡ rule_fault b → broken_number o ≡ 0
none-broken None b e z = refl
none-broken (Some r) true e z = absurd (true≢false e)
none-broken (Some r) false e z = absurd (omega arith)

some-broken : (o : Option Rule) (b : Bool) {n : ℕ} → is_some o ≡ not b → n ≡ rule_fault b → 0 < n → (n ≡ 13) × (0 < broken_number o)
some-broken None true e q l = absurd (omega arith)
some-broken None false e q l = absurd (false≢true e)
some-broken (Some r) true e q l = absurd (true≢false e)
some-broken (Some r) false e q l = (q, rule-above r)

module _ (ws ss ls : List ℕ) (o : Option Rule) (b : Bool) (h : 0 ≡ judge_fault ws) (v : broken_number o ≡ broken_by (sheet_in ss) ls) (s : ss ≡ sheet_part ws) (l : ls ≡ layout_part ws) (e : is_some o ≡ not b) where
  judged-is : broken_number o ≡ judged ws
  judged-is = v ∙ rw (s, l) refl

  pub unlawful : (r : Refusal) → number_of r ≡ rule_fault b → number_of r ≡ stored_fault ws
  unlawful r q =
      let (t, n) = some-broken o b e q (number-above r) in
      t ∙ sym (stored-unlawful ws (sym h) (λ z. omega (arith, n, judged-is, z)))

  pub lawful : 0 ≡ rule_fault b → 0 ≡ stored_fault ws
  lawful q = sym (stored-none ws (sym h) (sym judged-is ∙ none-broken o b e q))
