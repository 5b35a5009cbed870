use Rattle.std.proofs.Common.{List, ℕ}
use Rattle.std.specs.Iterator.{AlwaysYields}
use Rattle.lists.proofs.Grown.{Grown}
use Rattle.words.proofs.arrays.padded.Given as goal

abbrev pub invariant-loop-place : goal.invariant-loop-place
invariant-loop-place g l =
    (all : List ℕ) → AlwaysYields (goal.iterator-loop-place g).next_gives (λ number. number) l.initial.numbers all
    → (rest : List ℕ) × AlwaysYields (goal.iterator-loop-place g).next_gives (λ number. number) l.numbers rest × Grown l.initial.place-items l.place-items all rest l.place-index
