-- A page put line by line. Assumes nothing.
use mathlib.Core.Path.{◌≡◌, refl, sym, ap, subst, ◌∙◌}
use mathlib.Core.Bool.{cond}
use mathlib.Core.List.{List, [], ◌∷◌, ◌++◌, append_assoc, append-nil, map}
use Prim.Native.Nat.{ℕ, suc, ◌+◌, ◌-◌, ◌<◌, ◌≤◌}
use native.Mathlib.Omega.{arith}
use Rattle.lists.proofs.Tests.{by-test}
use Rattle.labelling.specs.Layout.{is_used, used_from}
use Rattle.text.specs.Puts.{Puts}
use Rattle.text.specs.declared.Text.{Text}
use Rattle.text.proofs.Puts.{puts-more}
use Rattle.page.specs.Page.{numbers_from, joined}

-- THE LINES of the used slots among m, from slot k on; of n sites, from site i on
abbrev pub slots_from : (line : ℕ → List ℕ) → (ties : List ℕ) → (m k : ℕ) → List ℕ
slots_from f js m k = joined (map f (used_from k (m - k) js))

abbrev pub sites_from : (line : ℕ → List ℕ) → (n i : ℕ) → List ℕ
sites_from f n i = joined (map f (numbers_from i (n - i)))

module _ (f : ℕ → List ℕ) (js : List ℕ) (m k : ℕ) where
  pub slots-all : {l : ℕ} → m ≡ l → slots_from f js m 0 ≡ joined (map f (used_from 0 l js))
  slots-all e = let z : m - 0 ≡ m = omega arith in ap (λ (n : ℕ). joined (map f (used_from 0 n js))) (z ∙ e)

  pub slots-more : k < m → slots_from f js m k ≡ cond (is_used k js) (f k) [] ++ slots_from f js m (k + 1)
  unfolding joined used_from
  slots-more l =
      let e : m - k ≡ suc (m - (k + 1)) = omega arith in
      let a : k + 1 ≡ suc k = omega arith in
      rw (e, a) (by-test (is_used k js) (λ q. rw q refl) (λ q. rw q refl))

  pub slots-none : m ≤ k → slots_from f js m k ≡ []
  unfolding joined used_from
  slots-none l = let e : m - k ≡ 0 = omega arith in rw e refl

module _ (f : ℕ → List ℕ) (n i : ℕ) where
  pub sites-all : {l : ℕ} → n ≡ l → sites_from f n 0 ≡ joined (map f (numbers_from 0 l))
  sites-all e = let z : n - 0 ≡ n = omega arith in ap (λ (k : ℕ). joined (map f (numbers_from 0 k))) (z ∙ e)

  pub sites-more : i < n → sites_from f n i ≡ f i ++ sites_from f n (i + 1)
  unfolding joined numbers_from
  sites-more l =
      let e : n - i ≡ suc (n - (i + 1)) = omega arith in
      let a : i + 1 ≡ suc i = omega arith in
      rw (e, a) refl

  pub sites-none : n ≤ i → sites_from f n i ≡ []
  unfolding joined numbers_from
  sites-none l = let e : n - i ≡ 0 = omega arith in rw e refl

-- LINES, joined
pub joined-more : (ks bs : List (List ℕ)) → joined (ks ++ bs) ≡ joined ks ++ joined bs
unfolding joined
joined-more [] bs = refl
joined-more (a ∷ ks) bs = ap (λ (t : List ℕ). a ++ t) (joined-more ks bs) ∙ sym (append_assoc a (joined ks) (joined bs))

pub joined-one : (l : List ℕ) → joined (l ∷ []) ≡ l
unfolding joined
joined-one l = append-nil l

-- three parts, one after the other
pub parts-put : {a b c d : Text} (ks bs : List (List ℕ)) (l m : List ℕ) → m ≡ l → Puts a b (joined ks) → Puts b c (joined bs) → Puts c d m → Puts a d (joined (ks ++ (bs ++ (l ∷ []))))
parts-put {a} {d = d} ks bs l m same x y z = subst (Puts a d) all (puts-more x (puts-more y z))
  where
    all : joined ks ++ (joined bs ++ m) ≡ joined (ks ++ (bs ++ (l ∷ [])))
    all =
        ap (λ (t : List ℕ). joined ks ++ (joined bs ++ t)) same ∙
        sym (joined-more ks (bs ++ (l ∷ [])) ∙ ap (λ (t : List ℕ). joined ks ++ t) (joined-more bs (l ∷ []) ∙ ap (λ (t : List ℕ). joined bs ++ t) (joined-one l)))
