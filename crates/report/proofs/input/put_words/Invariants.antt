use mathlib.Core.Path.{◌≡◌}
use lib.ListN.{drop}
use Rattle.report.specs.Input.{words_in}
use Rattle.text.specs.Text.{written}
use Rattle.report.proofs.input.put_words.Given as goal

-- once the words that are left are put, all are
abbrev pub invariant-loop-i : goal.invariant-loop-i
invariant-loop-i l = written l.initial.words 0 (words_in l.bytes) ≡ written l.words l.i (drop l.i (words_in l.bytes))
