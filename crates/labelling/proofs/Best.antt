-- `best s` is the first of all ties that obey rules 1 to 5, and `none` means that there are none. For every sheet whatsoever.
-- Assumes nothing.
use mathlib.Core.Path.{◌≡◌, refl, sym, ◌∙◌, ap, subst}
use mathlib.Core.Logic.{◌⊎◌, inl, inr}
use mathlib.Core.Bool.{Bool, true, false, cond}
use mathlib.Core.List.{List, [], ◌∷◌, ◌++◌, append_assoc, append-nil}
use mathlib.Core.Option.{Option, none, some}
use Prim.Native.Nat.{ℕ, zero, suc, ◌+◌, ◌≤◌, ◌<◌}
use native.Mathlib.Omega.{arith}
use lib.Dec.{ltb, eqb}
use lib.ListN.{length, get_or}
use borrow.Author.Tests.{ltb-true, eqb-true, eqb-false, lt-ltb}
use Rattle.sheet.specs.Sheet.{all, Sheet}
use Rattle.labelling.specs.Layout.{Tied, tied, by_rank, slots_by_rank, first_number, second_number, is_better, broken_in, better_of, best_over, best_from, best}
use Rattle.lists.proofs.Tests.{clash, by-test, and_l, and_r, and_i, is_false, tests}
use Rattle.labelling.proofs.Members.{all-at}
use Rattle.labelling.proofs.Order.{before-trans, before-asym, before-total}

-- is_better as an order
pub length-by_rank : (n a : ℕ) (ts : List Tied) → length (by_rank n a ts) ≡ n
unfolding by_rank
length-by_rank zero a ts = refl
length-by_rank (suc n) a ts = ap suc (length-by_rank n _ ts)

pub length-slots_by_rank : (s : Sheet) (js : List ℕ) → length (slots_by_rank s js) ≡ length s.sites
length-slots_by_rank s js = length-by_rank (length s.sites) 0 (tied s js)

same_length : (s : Sheet) (js ks : List ℕ) → length (slots_by_rank s js) ≡ length (slots_by_rank s ks)
same_length s js ks = length-slots_by_rank s js ∙ sym (length-slots_by_rank s ks)

pub better-trans : (s : Sheet) (a b c : List ℕ) → is_better s b a ≡ false → is_better s c b ≡ false → is_better s c a ≡ false
better-trans s a b c =
    before-trans (first_number s a) (second_number s a) (slots_by_rank s a) (first_number s b) (second_number s b) (slots_by_rank s b)
    (first_number s c) (second_number s c) (slots_by_rank s c) (same_length s a b) (same_length s b c)

pub better-asym : (s : Sheet) (a b : List ℕ) → is_better s a b ≡ true → is_better s b a ≡ false
better-asym s a b =
    before-asym (first_number s a) (second_number s a) (slots_by_rank s a) (first_number s b) (second_number s b) (slots_by_rank s b)

pub better-total : (s : Sheet) (a b : List ℕ) → is_better s a b ≡ false → is_better s b a ≡ false → slots_by_rank s a ≡ slots_by_rank s b
better-total s a b =
    before-total (first_number s a) (second_number s a) (slots_by_rank s a) (first_number s b) (second_number s b) (slots_by_rank s b) (same_length s a b)

pub better-irrefl : (s : Sheet) (a : List ℕ) → is_better s a a ≡ false
better-irrefl s a = is_false (is_better s a a) λ e. clash e (better-asym s a a e)

-- WHAT IS BEST of those that P holds of
abbrev pub IsBest : Sheet → (List ℕ → Type 0) → Option (List ℕ) → Type 0
IsBest s P none = (ks : List ℕ) → P ks → ⊥
IsBest s P (some r) = P r × ((ks : List ℕ) → P ks → is_better s ks r ≡ false)

pub best-iff : (s : Sheet) (P Q : List ℕ → Type 0) (o : Option (List ℕ)) → ((ks : List ℕ) → P ks → Q ks) → ((ks : List ℕ) → Q ks → P ks) → IsBest s P o → IsBest s Q o
best-iff s P Q none f g h = λ ks q. h ks (g ks q)
best-iff s P Q (some r) f g h = (f r h.0, λ ks q. h.1 ks (g ks q))

pub best-of-two : (s : Sheet) (P Q R : List ℕ → Type 0) (o p : Option (List ℕ)) → ((ks : List ℕ) → P ks → R ks) → ((ks : List ℕ) → Q ks → R ks) →
    ((ks : List ℕ) → R ks → P ks ⊎ Q ks) → IsBest s P o → IsBest s Q p → IsBest s R (better_of s o p)
best-of-two s P Q R none none i j k h l = λ ks r. go ks (k ks r)
  where
    go : (ks : List ℕ) → P ks ⊎ Q ks → ⊥
    go ks (inl a) = h ks a
    go ks (inr b) = l ks b
best-of-two s P Q R none (some b) i j k h l = (j b l.0, λ ks r. go ks (k ks r))
  where
    go : (ks : List ℕ) → P ks ⊎ Q ks → is_better s ks b ≡ false
    go ks (inl x) = absurd (h ks x)
    go ks (inr x) = l.1 ks x
best-of-two s P Q R (some a) none i j k h l = (i a h.0, λ ks r. go ks (k ks r))
  where
    go : (ks : List ℕ) → P ks ⊎ Q ks → is_better s ks a ≡ false
    go ks (inl x) = h.1 ks x
    go ks (inr x) = absurd (l ks x)
best-of-two s P Q R (some a) (some b) i j k h l = go (is_better s b a) refl
  where
    late : is_better s b a ≡ true → (ks : List ℕ) → P ks ⊎ Q ks → is_better s ks b ≡ false
    late e ks (inl x) = better-trans s b a ks (better-asym s b a e) (h.1 ks x)
    late e ks (inr x) = l.1 ks x

    soon : is_better s b a ≡ false → (ks : List ℕ) → P ks ⊎ Q ks → is_better s ks a ≡ false
    soon e ks (inl x) = h.1 ks x
    soon e ks (inr x) = better-trans s a b ks e (l.1 ks x)

    go : (t : Bool) → is_better s b a ≡ t → IsBest s R (some (cond t b a))
    go true e = (j b l.0, λ ks r. late e ks (k ks r))
    go false e = (i a h.0, λ ks r. soon e ks (k ks r))

-- over the slots from k on, so many
abbrev pub Over : (ℕ → List ℕ → Type 0) → (slot count : ℕ) → List ℕ → Type 0
Over Q k c ks = (j : ℕ) × (k ≤ j) × (j < k + c) × Q j ks

pub best-over : (f : List ℕ → Option (List ℕ)) (s : Sheet) (Q : ℕ → List ℕ → Type 0) (k c : ℕ) (js : List ℕ) →
    ((j : ℕ) → j < k + c → IsBest s (Q j) (f (js ++ (j ∷ [])))) → IsBest s (Over Q k c) (best_over f s k c js)
unfolding best_over
best-over f s Q k zero js h = λ ks (j, l, u, q). omega arith
best-over f s Q k (suc c) js h =
    best-of-two s (Q k) (Over Q (suc k) c) (Over Q k (suc c)) (f (js ++ (k ∷ []))) (best_over f s (suc k) c js)
    (λ ks q. (k, omega arith, omega arith, q)) (λ ks (j, l, u, q). (j, omega arith, omega arith, q)) (λ ks (j, l, u, q). split ks j l u q)
    (h k (omega arith)) (best-over f s Q (suc k) c js (λ j l. h j (omega arith)))
  where
    split : (ks : List ℕ) (j : ℕ) → k ≤ j → j < k + suc c → Q j ks → Q k ks ⊎ Over Q (suc k) c ks
    split ks j l u q =
        by-test (eqb j k) (λ e. inl (subst (λ (i : ℕ). Q i ks) (eqb-true j k e) q)) λ e. inr (j, omega (arith, tests), omega arith, q)

-- TIES that obey rules 1 to 5
abbrev pub low_ties : (count : ℕ) → List ℕ → Bool
low_ties m = all (λ j. ltb j m)

pub low-at : (m : ℕ) (js : List ℕ) → low_ties m js ≡ true → (i : ℕ) → i < length js → get_or js i 0 < m
low-at m js h i l = ltb-true (get_or js i 0) m (all-at (λ j. ltb j m) 0 js h i l)

pub record Obeys (s : Sheet) (js : List ℕ) : Type 0 where
  pub long : length js ≡ length s.sites
  pub low : low_ties (length s.slots) js ≡ true
  pub kept : broken_in s js ≡ 0

-- those that go on from js by so many
abbrev pub Goes : (count : ℕ) → Sheet → List ℕ → List ℕ → Type 0
Goes n s js ks = (t : List ℕ) × (ks ≡ js ++ t) × (length t ≡ n) × (low_ties (length s.slots) t ≡ true) × (broken_in s ks ≡ 0)

goes-suc : (n : ℕ) (s : Sheet) (js ks : List ℕ) → Over (λ j. Goes n s (js ++ (j ∷ []))) 0 (length s.slots) ks → Goes (suc n) s js ks
unfolding all
goes-suc n s js ks (j, l, u, (t, e, k, b, z)) =
    (j ∷ t, e ∙ append_assoc js (j ∷ []) t, ap suc k, and_i (lt-ltb j (length s.slots) (omega arith)) b, z)

suc-goes : (n : ℕ) (s : Sheet) (js ks t : List ℕ) → ks ≡ js ++ t → length t ≡ suc n → low_ties (length s.slots) t ≡ true → broken_in s ks ≡ 0 →
    Over (λ j. Goes n s (js ++ (j ∷ []))) 0 (length s.slots) ks
unfolding all
suc-goes n s js ks [] e k b z = absurd (omega arith)
suc-goes n s js ks (j ∷ t) e k b z =
    let h : j < length s.slots = ltb-true j (length s.slots) (and_l (ltb j (length s.slots)) (low_ties (length s.slots) t) b) in (
      j,
      omega arith,
      omega arith,
      (t, e ∙ sym (append_assoc js (j ∷ []) t), omega arith, and_r (ltb j (length s.slots)) (low_ties (length s.slots) t) b, z),
    )

pub best-from : (n : ℕ) (s : Sheet) (js : List ℕ) → IsBest s (Goes n s js) (best_from n s js)
unfolding best_from all
best-from zero s js = go (eqb (broken_in s js) 0) refl
  where
    nil : (ks t : List ℕ) → ks ≡ js ++ t → length t ≡ 0 → ks ≡ js
    nil ks [] e k = e ∙ append-nil js
    nil ks (j ∷ t) e k = absurd (omega arith)

    go : (t : Bool) → eqb (broken_in s js) 0 ≡ t → IsBest s (Goes zero s js) (cond t (some js) none)
    go true e = (
      ([], sym (append-nil js), refl, refl, eqb-true (broken_in s js) 0 e),
      λ ks (t, q, k, b, z). subst (λ (l : List ℕ). is_better s l js ≡ false) (sym (nil ks t q k)) (better-irrefl s js),
    )
    go false e = λ ks (t, q, k, b, z). eqb-false (broken_in s js) 0 e (subst (λ (l : List ℕ). broken_in s l ≡ 0) (nil ks t q k) z)
best-from (suc n) s js =
    best-iff s (Over (λ j. Goes n s (js ++ (j ∷ []))) 0 (length s.slots)) (Goes (suc n) s js) (best_over (best_from n s) s 0 (length s.slots) js)
    (goes-suc n s js) (λ ks (t, e, k, b, z). suc-goes n s js ks t e k b z)
    (best-over (best_from n s) s (λ j. Goes n s (js ++ (j ∷ []))) 0 (length s.slots) js λ j l. best-from n s (js ++ (j ∷ [])))

-- THE CHARACTERISATION, one way: what `best s` is
pub best-is : (s : Sheet) → IsBest s (Obeys s) (best s)
best-is s =
    best-iff s (Goes (length s.sites) s []) (Obeys s) (best s)
    (λ ks (t, e, k, b, z). record {
      long = ap length e ∙ k;
      low = subst (λ (l : List ℕ). low_ties (length s.slots) l ≡ true) (sym e) b;
      kept = z;
    })
    (λ ks o. (ks, refl, o.long, o.low, o.kept)) (best-from (length s.sites) s [])

pub best-some : (s : Sheet) (js : List ℕ) → best s ≡ some js → Obeys s js × ((ks : List ℕ) → Obeys s ks → is_better s ks js ≡ false)
best-some s js e = subst (IsBest s (Obeys s)) e (best-is s)

pub best_none : (s : Sheet) → best s ≡ none → (ks : List ℕ) → Obeys s ks → ⊥
best_none s e = subst (IsBest s (Obeys s)) e (best-is s)
