-- THEOREM 1, the rules: steps are in order exactly if every two tied sites are, over lists.
use mathlib.Core.Path.{◌≡◌, refl, sym, ap, ◌∙◌, subst, subst⁻¹}
use mathlib.Core.Logic.{inl, inr}
use mathlib.Core.List.{List, [], ◌∷◌}
use Prim.Native.Nat.{ℕ, zero, suc, ◌<◌}
use native.Mathlib.Omega.{arith}
use lib.ListN.{length, get_or, set, replicate, length-set}
use Rattle.lists.proofs.Tests.{by_equal, by-either}
use Rattle.optimum.specs.Strips.{Point, Instance}
use Rattle.optimum.proofs.StripsHeld.{set_same, set_other}
use Rattle.optimum.proofs.Neighbours.{Rel, Step}
use Rattle.optimum.proofs.Steps.{Steps}

-- no label is open
pub zeros : (m j : ℕ) → ◌≡◌ {A = ℕ} (get_or (replicate m 0) j 0) 0
zeros zero j = refl
zeros (suc m) zero = refl
zeros (suc m) (suc j) = zeros m j

module _ (P : Instance) where
  open P.slots use {m}

  -- the site s at k, tied before, and the site t at j are in order
  abbrev pub Pair : Point → ℕ → Point → ℕ → Type 0
  Pair s k t j = (k ≡ j → s.c ≡ t.c) × ((k ≡ j → ⊥) → Rel P k (suc s.c) t j)

  -- the first with each of a list; each of a list with those after it; each step against the open labels L
  unfoldable pub PairAll : Point → ℕ → List Point → List ℕ → Type 0
  PairAll s k [] js = Unit
  PairAll s k (t ∷ ts) [] = Unit
  PairAll s k (t ∷ ts) (j ∷ js) = Pair s k t j × PairAll s k ts js

  unfoldable pub Pairs : List Point → List ℕ → Type 0
  Pairs [] ks = Unit
  Pairs (s ∷ ss) [] = Unit
  Pairs (s ∷ ss) (k ∷ ks) = PairAll s k ss ks × Pairs ss ks

  unfoldable pub StepAll : List ℕ → List Point → List ℕ → Type 0
  StepAll L [] [] = Unit
  StepAll L [] (k ∷ ks) = ⊥
  StepAll L (s ∷ ss) [] = ⊥
  StepAll L (s ∷ ss) (k ∷ ks) = Step P L s k × StepAll L ss ks

  -- one more label open: one more pair
  step_less : (L : List ℕ) (s : Point) (k : ℕ) (t : Point) (j : ℕ) → length L ≡ m → Step P L s k → Step P (set L k (suc s.c)) t j → Step P L t j × Pair s k t j
  step_less L s k t j l u v = (
    record {
      slot = v.slot;
      same = by_equal j k
          (λ e. by-either u.same (λ z. inl (rw e z)) (λ z. by-either v.same
          (λ w. absurd (omega (arith, rw e at w, here)))
          (λ w. inr (rw e (z ∙ sym here ∙ rw e at w)))))
          (λ n. rw (other j n) at v.same);
      others = λ i li ni ne. by_equal i k
          (λ e. by-either u.same
          (λ z. absurd (omega (arith, ap (λ (q : ℕ). get_or L q 0) e)))
          (λ z. rw (e, z) (rw here at (v.others k u.slot (omega (arith, here)) (λ (q : k ≡ j). ne (e ∙ q))))))
          (λ n. rw (other i n) at (v.others i li (omega (arith, other i n)) ne));
    },
    (
      λ e. by-either v.same (λ w. absurd (omega (arith, here, subst⁻¹ (λ (q : ℕ). get_or (set L k (suc s.c)) q 0 ≡ 0) e w)))
          (λ w. omega (arith, here, subst⁻¹ (λ (q : ℕ). get_or (set L k (suc s.c)) q 0 ≡ suc t.c) e w)),
      λ n. rw here at (v.others k u.slot (omega (arith, here)) n),
    ),
  )
    where
      here : get_or (set L k (suc s.c)) k 0 ≡ suc s.c
      here = set_same L k (suc s.c) (omega (arith, u.slot))

      other : (i : ℕ) → (i ≡ k → ⊥) → get_or (set L k (suc s.c)) i 0 ≡ get_or L i 0
      other i n = set_other L k (suc s.c) i n

  step-more : (L : List ℕ) (s : Point) (k : ℕ) (t : Point) (j : ℕ) → length L ≡ m → Step P L s k → Step P L t j → Pair s k t j → Step P (set L k (suc s.c)) t j
  step-more L s k t j l u v (p, q) =
      record {
        slot = v.slot;
        same = by_equal k j
            (λ e. inr (subst (λ (i : ℕ). get_or (set L k (suc s.c)) i 0 ≡ suc t.c) e (here ∙ ap suc (p e))))
            (λ n. rw (other j (λ (e : j ≡ k). n (sym e))) v.same);
        others = λ i li ni ne. by_equal i k
            (λ e. rw (e, here) (q (λ (r : k ≡ j). ne (e ∙ r))))
            (λ n. rw (other i n) (v.others i li (omega (arith, other i n)) ne));
      }
    where
      here : get_or (set L k (suc s.c)) k 0 ≡ suc s.c
      here = set_same L k (suc s.c) (omega (arith, u.slot))

      other : (i : ℕ) → (i ≡ k → ⊥) → get_or (set L k (suc s.c)) i 0 ≡ get_or L i 0
      other i n = set_other L k (suc s.c) i n

  steps-less : (ss : List Point) (ks : List ℕ) (L : List ℕ) (s : Point) (k : ℕ) → length L ≡ m → Step P L s k → StepAll (set L k (suc s.c)) ss ks → StepAll L ss ks × PairAll s k ss ks
  unfolding StepAll PairAll
  steps-less [] [] L s k l u h = (tt, tt)
  steps-less [] (j ∷ ks) L s k l u h = absurd h
  steps-less (t ∷ ss) [] L s k l u h = absurd h
  steps-less (t ∷ ss) (j ∷ ks) L s k l u h =
      let a = step_less L s k t j l u h.0 in let b = steps-less ss ks L s k l u h.1 in ((a.0, b.0), (a.1, b.1))

  steps-more : (ss : List Point) (ks : List ℕ) (L : List ℕ) (s : Point) (k : ℕ) → length L ≡ m → Step P L s k → StepAll L ss ks → PairAll s k ss ks → StepAll (set L k (suc s.c)) ss ks
  unfolding StepAll PairAll
  steps-more [] [] L s k l u h p = tt
  steps-more [] (j ∷ ks) L s k l u h p = absurd h
  steps-more (t ∷ ss) [] L s k l u h p = absurd h
  steps-more (t ∷ ss) (j ∷ ks) L s k l u h p = (step-more L s k t j l u h.0 p.0, steps-more ss ks L s k l u h.1 p.1)

  -- STEPS ARE PAIRS
  pub steps-e : (ss : List Point) (ks : List ℕ) (L : List ℕ) → length L ≡ m → Steps P L ss ks → StepAll L ss ks × Pairs ss ks
  unfolding Steps StepAll Pairs
  steps-e [] [] L l h = (tt, tt)
  steps-e [] (k ∷ ks) L l h = absurd h
  steps-e (s ∷ ss) [] L l h = absurd h
  steps-e (s ∷ ss) (k ∷ ks) L l h =
      let ih = steps-e ss ks (set L k (suc s.c)) (length-set L k (suc s.c) ∙ l) h.1 in
      let b = steps-less ss ks L s k l h.0 ih.0 in
      ((h.0, b.0), (b.1, ih.1))

  pub steps-i : (ss : List Point) (ks : List ℕ) (L : List ℕ) → length L ≡ m → StepAll L ss ks → Pairs ss ks → Steps P L ss ks
  unfolding Steps StepAll Pairs
  steps-i [] [] L l h p = tt
  steps-i [] (k ∷ ks) L l h p = absurd h
  steps-i (s ∷ ss) [] L l h p = absurd h
  steps-i (s ∷ ss) (k ∷ ks) L l h p =
      (h.0, steps-i ss ks (set L k (suc s.c)) (length-set L k (suc s.c) ∙ l) (steps-more ss ks L s k l h.0 h.1 p.0) p.1)

  -- on the empty sheet every slot is in order
  pub first_step : (s : Point) (k : ℕ) → k < m → Step P (replicate m 0) s k
  first_step s k h = record { slot = h; same = inl (zeros m k); others = λ j l n ne. absurd (omega (arith, zeros m j)) }
