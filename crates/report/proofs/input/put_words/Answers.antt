use mathlib.Core.Path.{◌≡◌, sym, ◌∙◌}
use mathlib.Core.List.{List}
use Prim.Native.Nat.{ℕ, ◌-◌, ◌/◌, ◌<◌, ◌≤◌, min}
use native.Mathlib.Nat.{zero-add}
use native.Mathlib.Omega.{arith}
use lib.ListN.{length, get_or}
use Rattle.std.proofs.lemmas.List.{get_or-take, length-take}
use Rattle.report.specs.Input.{words_in}
use Rattle.report.proofs.Words.{word_at, words-long}
use Rattle.text.proofs.Written.{written-next, written-end}
use Rattle.report.proofs.input.put_words.Goals as goal

pub loop-i-preserved : goal.loop-i-preserved
loop-i-preserved c =
    let s = c.args.bytes.now in
    let i = c.loop-i.i in
    let low : i < c.min-count.result = omega (arith, length-take {A = List ℕ}) in
    let found : i < length s / 4 = omega (arith, c.as_chunks.ensures.front_len, c.min-count.ensures) in
    let within : i < length (words_in s) = omega (arith, words-long s) in
    let word : get_or (words_in s) i 0 ≡ c.from_le_bytes.result = rw (c.from_le_bytes.ensures, get_or-take, c.as_chunks.ensures.front) (word_at s i found) in
    c.loop-i.invariant ∙ (simp (zero-add, word) at (written-next c.loop-i.words (words_in s) 0 i within))

pub returns-clause-value : goal.returns-clause-value
returns-clause-value c = omega (arith, words-long c.args.bytes.now, c.as_chunks.ensures.front_len, c.min-count.ensures)

pub returns-clause-words_after : goal.returns-clause-words_after
returns-clause-words_after c =
    let past : min (length (words_in c.args.bytes.now)) (length c.loop-i.words - 0) ≤ c.loop-i.i =
    omega (arith, words-long c.args.bytes.now, c.as_chunks.ensures.front_len, length-take {A = List ℕ}) in
    sym (c.loop-i.invariant ∙ (simp zero-add at (written-end c.loop-i.words (words_in c.args.bytes.now) 0 c.loop-i.i past)))
