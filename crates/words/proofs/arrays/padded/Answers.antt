use Rattle.std.proofs.Common.{List, ℕ, [], ◌∷◌, ◌≡◌, ◌≤◌, length, take, replicate, refl, ap, sym, ◌∙◌, Some, None, Option, arith}
use Rattle.std.specs.Iterator.{AlwaysYields}
use lib.ListN.{length-append, length-replicate}
use lib.Seq.{length-take-le}
use Rattle.std.proofs.lemmas.List.{set-get_or}
use Rattle.lists.specs.Arrays.{padded}
use Rattle.lists.proofs.Grown.{Grown, grown-more, grown-end}
use Rattle.lists.proofs.Arrays.{padded-of}
use Rattle.words.proofs.arrays.padded.Goals as goal
use Rattle.words.proofs.arrays.padded.Goals.{else-loop-place-test, then-loop-place-test+in_default}

module _ {S : Type 0} (steps : S → Option ℕ → S → Type 0) where
  -- a number that comes is the first of those to come
  comes : (s t : S) (number : ℕ) (rest : List ℕ) → AlwaysYields steps (λ n. n) s rest → steps s (Some number) t
      → (others : List ℕ) × (rest ≡ number ∷ others) × AlwaysYields steps (λ n. n) t others
  comes s t number [] yields came = absurd (yields number t came)
  comes s t number (n ∷ rest) yields came = let first = yields.1 number t came in (rest, ap (λ (z : ℕ). z ∷ rest) (sym first.0), first.1)

  -- where none comes, none is to come
  ends : (s t : S) (rest : List ℕ) → AlwaysYields steps (λ n. n) s rest → steps s None t → rest ≡ []
  ends s t [] yields none = refl
  ends s t (n ∷ rest) yields none = absurd (yields.0 t none)

-- what is put is the number that came
put : (number v : ℕ) (rest others : List ℕ) → rest ≡ number ∷ others → v ≡ number → rest ≡ v ∷ others
put number v rest others first e = first ∙ ap (λ (z : ℕ). z ∷ others) (sym e)

-- an array that is full has no room for more
full : (size : ℕ) (array all rest : List ℕ) (n : ℕ) → Grown (replicate size 0) array all rest n → size ≤ n → length all ≤ size → rest ≡ []
full size array all [] n grown over fits = refl
full size array all (x ∷ rest) n grown over fits =
    absurd (omega (arith, ap length grown.stands, length-append (take n array) (x ∷ rest), length-take-le n array grown.within))

done : (size : ℕ) (array all rest : List ℕ) (n : ℕ) → Grown (replicate size 0) array all rest n → rest ≡ [] → array ≡ padded size all
done size array all rest n grown none = grown-end _ _ _ _ _ none grown ∙ padded-of all all size (length all) refl refl

pub loop-place-preserved : goal.loop-place-preserved
loop-place-preserved g c = λ all yields.
    let l = c.loop-place in
    let (rest, left, grown) = l.invariant all yields in
    let (others, first, yet) = comes g.I.Iterator.next_gives _ _ _ rest left c.in-Some.ensures.steps in
    (others, yet, grown-more _ _ _ _ _ _ _ (omega (arith, grown.long, length-replicate {A = ℕ} g.row.N 0)) (put _ _ _ _ first (omega arith)) grown)

pub returns : goal.returns
returns g c = λ all gives fits.
    let l = c.loop-place in
    let (rest, left, grown) = l.invariant all gives.runs in
    elim c.loop-place-test.branch [
      | else-loop-place-test w ↦ rw w.array-is (done _ _ _ _ _ grown (full _ _ _ _ _ grown w.loop-place-test.false fits))
      | then-loop-place-test+in_default w ↦ (w.array-is ∙ set-get_or l.place-items l.place-index 0) ∙ done _ _ _ _ _ grown (ends g.I.Iterator.next_gives _ _ rest left w.in_default.ensures.steps)
    ]
