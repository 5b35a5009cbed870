-- A sheet without the bounds that can't bind has the same answer, and a call the same outcome. Assumes nothing.
use mathlib.Core.Path.{◌≡◌, refl, sym, ap, ap₂, subst, ◌∙◌}
use mathlib.Core.Bool.{true, ◌&&◌, ◌||◌, cond}
use mathlib.Core.List.{List, [], ◌∷◌, ◌++◌, append_assoc}
use mathlib.Core.Option.{Option, none, some}
use Prim.Native.Nat.{ℕ, zero, suc, ◌+◌, ◌-◌, ◌≤◌, ◌<◌}
use native.Mathlib.Omega.{arith}
use lib.Dec.{ltb, leb, eqb}
use lib.ListN.{length, take, drop, replicate, length-replicate, replicate-append-replicate}
use lib.Seq.{drop-drop, take_at, drop_at}
use borrow.Author.Tests.{ltb-true, lt-ltb, eq-eqb, ne_eqb}
use Rattle.lists.proofs.Tests.{by-test, by_equal, and_l, and_r, and_i, tests}
use Rattle.sheet.specs.Limits.{unbounded, word_top}
use Rattle.sheet.specs.Sheet.{kind_of, bits, Site, Colour, Sheet, sites_run, sheet_in, sheet_fault, work_for}
use Rattle.sheet.specs.Binding.{binding_word, binding_only, binding_colours, with_colours, sites_of}
use Rattle.sheet.proofs.Accepted.{unrefused}
use Rattle.sheet.proofs.Binding.{work-binding, sheet-binding, binding-accepted, Few, few-sites}
use Rattle.labelling.specs.Layout.{tied_of, tied, is_used, used_from, used_of, slots_of, Tied, bounds_kept, left_end, backbones, drops, length_of, broken_in, is_better, better_of, best_over, best_from, best, answer, answer_by, words_for, share_by}
use Rattle.labelling.specs.Entry.{is_none, make_fault, make_answer, make_work, zeroed}
use Rattle.labelling.specs.Promise.{are_words, TakesSheet}
use Rattle.labelling.proofs.Maker.{Serves, fault-is, called}

-- A COLOUR'S LABELS are at most its sites
used-past : (j k n : ℕ) (js : List ℕ) → j < k → used_from k n (j ∷ js) ≡ used_from k n js
unfolding used_from is_used
used-past j k zero js h = refl
used-past j k (suc n) js h = rw (ne_eqb j k (λ q. omega arith), used-past j (suc k) n js (omega arith))

used-one : (j k n : ℕ) (js : List ℕ) → length (used_from k n (j ∷ js)) ≤ suc (length (used_from k n js))
unfolding used_from is_used
used-one j k zero js = omega arith
used-one j k (suc n) js =
    by_equal j k
    (λ e. rw (eq-eqb j k e, used-past j (suc k) n js (omega arith)) (by-test (is_used k js) (λ f. rw f (omega arith)) (λ f. rw f (omega arith))))
    (λ e. rw (ne_eqb j k e) (by-test (is_used k js) (λ f. rw f (omega (arith, used-one j (suc k) n js))) (λ f. rw f (used-one j (suc k) n js))))

used-none : (k n : ℕ) → used_from k n [] ≡ []
unfolding used_from is_used
used-none k zero = refl
used-none k (suc n) = used-none (suc k) n

pub used-few : (k n : ℕ) (js : List ℕ) → length (used_from k n js) ≤ length js
used-few k n [] = rw (used-none k n) (omega arith)
used-few k n (j ∷ js) = omega (arith, used-one j k n js, used-few k n js)

slots-few : (c : ℕ) (ss : List Site) (js : List ℕ) → length (slots_of c (tied_of ss js)) ≤ sites_of c ss
unfolding slots_of tied_of sites_of
slots-few c [] js = omega arith
slots-few c (s ∷ ss) [] = omega arith
slots-few c (s ∷ ss) (j ∷ js) =
    by-test (eqb s.colour c) (λ e. rw e (omega (arith, slots-few c ss js))) (λ e. rw e (slots-few c ss js))

pub labels-few : (s : Sheet) (js : List ℕ) (c : ℕ) → length (used_of s (slots_of c (tied s js))) ≤ sites_of c s.sites
labels-few s js c = omega (arith, used-few 0 (length s.slots) (slots_of c (tied s js)), slots-few c s.sites js)

-- RULE 2 reads the same of the bounds that bind
bound-same : (b n l : ℕ) → l ≤ n → (eqb (cond (leb n b) unbounded b) unbounded || leb l (cond (leb n b) unbounded b)) ≡ (eqb b unbounded || leb l b)
bound-same b n l h =
    by-test (leb n b)
    (λ e. let f : leb l b ≡ true = omega (arith, tests) in rw (e, f) (by-test (eqb b unbounded) (λ g. rw g) (λ g. rw g)))
    (λ e. rw e)

bounds-same : (s : Sheet) (ks : List Colour) (js : List ℕ) (c : ℕ) (cs : List Colour) → Few c s.sites cs →
    bounds_kept (with_colours s ks) js c (binding_colours cs) ≡ bounds_kept s js c cs
unfolding bounds_kept binding_colours
bounds-same s ks js c [] h = refl
bounds-same s ks js c (d ∷ cs) h =
    let l = length (used_of s (slots_of c (tied s js))) in
    let f : sites_of c s.sites ≤ d.sites = rw (add-zero c) at (h d 0 (omega arith)) in
    ap₂ ◌&&◌ (bound-same d.bound d.sites l (omega (arith, labels-few s js c)))
    (bounds-same s ks js (suc c) cs λ e i g. rw (let z : suc c + i ≡ c + suc i = omega arith in z) (h e (suc i) (omega arith)))
  where
    add-zero : (n : ℕ) → n + 0 ≡ n
    add-zero n = omega arith

-- THE REST of the answer does not read the colours
module _ (s : Sheet) (ks : List Colour) where
  backbones-same : (js us : List ℕ) → backbones (with_colours s ks) js us ≡ backbones s js us
  unfolding backbones
  backbones-same js [] = refl
  backbones-same js (u ∷ us) = ap (λ (n : ℕ). s.width - left_end s js u + n) (backbones-same js us)

  drops_same : (ts : List Tied) → drops (with_colours s ks) ts ≡ drops s ts
  unfolding drops share_by
  drops_same [] = refl
  drops_same (t ∷ ts) = rw (drops_same ts)

  length-same : (js : List ℕ) → length_of (with_colours s ks) js ≡ length_of s js
  length-same js = ap₂ ◌+◌ (backbones-same js (used_of s js)) (drops_same (tied s js))

  better-same : (js ls : List ℕ) → is_better (with_colours s ks) js ls ≡ is_better s js ls
  better-same js ls = rw (length-same js, length-same ls)

  better-of-same : (a b : Option (List ℕ)) → better_of (with_colours s ks) a b ≡ better_of s a b
  better-of-same none b = refl
  better-of-same (some a) none = refl
  better-of-same (some a) (some b) = rw (better-same b a)

  answer-same : (b : Option (List ℕ)) → answer_by (with_colours s ks) b ≡ answer_by s b
  answer-same none = refl
  answer-same (some js) = rw (length-same js)

  over-same : (f g : List ℕ → Option (List ℕ)) → ((js : List ℕ) → f js ≡ g js) → (k n : ℕ) (js : List ℕ) → best_over f (with_colours s ks) k n js ≡ best_over g s k n js
  unfolding best_over
  over-same f g h k zero js = refl
  over-same f g h k (suc n) js = better-of-same (f (js ++ (k ∷ []))) (best_over f (with_colours s ks) (suc k) n js) ∙ ap₂ (better_of s) (h (js ++ (k ∷ []))) (over-same f g h (suc k) n js)

  from-same : ((js : List ℕ) → broken_in (with_colours s ks) js ≡ broken_in s js) → (n : ℕ) (js : List ℕ) → best_from n (with_colours s ks) js ≡ best_from n s js
  unfolding best_from
  from-same h zero js = rw (h js)
  from-same h (suc n) js = over-same (best_from n (with_colours s ks)) (best_from n s) (from-same h n) 0 (length s.slots) js

-- THE ANSWER
broken-same : (s : Sheet) → Few 0 s.sites s.colours → (js : List ℕ) → broken_in (with_colours s (binding_colours s.colours)) js ≡ broken_in s js
broken-same s h js = rw (bounds-same s (binding_colours s.colours) js 0 s.colours h)

pub best-binding : (ws : List ℕ) → sheet_fault ws ≡ 0 → best (sheet_in (binding_only ws)) ≡ best (sheet_in ws)
best-binding ws h =
    let s = sheet_in ws in
    ap best (sheet-binding ws (unrefused ws h).head) ∙ (from-same s (binding_colours s.colours) (broken-same s (few-sites ws h)) (length s.sites) [])

pub answer-binding : (ws : List ℕ) → sheet_fault ws ≡ 0 → answer (sheet_in (binding_only ws)) ≡ answer (sheet_in ws)
answer-binding ws h =
    ap₂ answer_by (sheet-binding ws (unrefused ws h).head) (best-binding ws h) ∙ answer-same (sheet_in ws) (binding_colours (sheet_in ws).colours) (best (sheet_in ws))

-- THE WORK WORDS: no more, and the answer's the same
pub work-less : (ws : List ℕ) → sheet_fault ws ≡ 0 → work_for (sheet_in (binding_only ws)) ≤ work_for (sheet_in ws)
work-less ws h = omega (arith, ap work_for (sheet-binding ws (unrefused ws h).head), work-binding (sheet_in ws))

pub words_same : (ws : List ℕ) → sheet_fault ws ≡ 0 → words_for (sheet_in (binding_only ws)) ≡ words_for (sheet_in ws)
words_same ws h = ap words_for (sheet-binding ws (unrefused ws h).head)

pub side_same : (ws : List ℕ) → sheet_fault ws ≡ 0 → (sheet_in (binding_only ws)).is_two_sided ≡ (sheet_in ws).is_two_sided
side_same ws h = ap (λ (s : Sheet). s.is_two_sided) (sheet-binding ws (unrefused ws h).head)

-- zeros up to a place, and from there up to another
zeroed-by : (a n : ℕ) (k : List ℕ) →
    take a (replicate a 0 ++ drop a k) ++ (replicate n 0 ++ drop (a + n) (replicate a 0 ++ drop a k)) ≡ replicate (a + n) 0 ++ drop (a + n) k
zeroed-by a n k =
    rw (← drop-drop n a (replicate a 0 ++ drop a k), take_at (replicate a 0) (drop a k) a (length-replicate a 0), drop_at (replicate a 0) (drop a k) a (length-replicate a 0), drop-drop n a k, ← append_assoc (replicate a 0) (replicate n 0) (drop (a + n) k), replicate-append-replicate {A = ℕ} a n 0)
    refl

pub zeroed-on : (a b : ℕ) (k : List ℕ) → a ≤ b → zeroed a b (replicate a 0 ++ drop a k) ≡ replicate b 0 ++ drop b k
zeroed-on a b k h =
    let e : b ≡ a + (b - a) = omega arith in
    subst (λ (c : ℕ). take a (replicate a 0 ++ drop a k) ++ (replicate (b - a) 0 ++ drop c (replicate a 0 ++ drop a k)) ≡ replicate c 0 ++ drop c k) (sym e) (zeroed-by a (b - a) k)

-- THE CALL on a sheet that it takes, by the sheet without the bounds that can't bind
module _ (ws k o : List ℕ) (t : Serves ws k o) where
  pub serves-binding : Serves (binding_only ws) k o
  serves-binding = (binding-accepted ws t.0, omega (arith, work-less ws t.0, t.1), omega (arith, words_same ws t.0, t.2), side_same ws t.0 ∙ t.3)

  pub fault-binding : make_fault (binding_only ws) k o ≡ make_fault ws k o
  fault-binding =
      fault-is (binding_only ws) k o serves-binding ∙ ap (λ (b : Option (List ℕ)). cond (is_none b) 10 0) (best-binding ws t.0) ∙ sym (fault-is ws k o t)

  pub area-binding : make_answer (binding_only ws) k o ≡ make_answer ws k o
  area-binding = rw (fault-binding, answer-binding ws t.0, words_same ws t.0) refl

  pub work-zeroed : zeroed (work_for (sheet_in (binding_only ws))) (work_for (sheet_in ws)) (make_work (binding_only ws) k o) ≡ make_work ws k o
  work-zeroed =
      ap (zeroed (work_for (sheet_in (binding_only ws))) (work_for (sheet_in ws))) (called (binding_only ws) k o serves-binding).work ∙
      zeroed-on (work_for (sheet_in (binding_only ws))) (work_for (sheet_in ws)) k (work-less ws t.0) ∙ sym (called ws k o t).work

-- 32-bit words stay so
word_small : (w n : ℕ) → w < word_top → binding_word w n < word_top
word_small w n h = by-test (eqb (kind_of w) 3 && leb n (bits w 0 8)) (λ e. rw e (omega arith)) (λ e. rw e h)

are-words-binding : (ws : List ℕ) → are_words ws ≡ true → are_words (binding_only ws) ≡ true
unfolding binding_only are_words
are-words-binding [] h = refl
are-words-binding (w ∷ ws) h =
    and_i (lt-ltb (binding_word w (sites_run ws)) word_top (word_small w (sites_run ws) (ltb-true w word_top (and_l (ltb w word_top) (are_words ws) h))))
    (are-words-binding ws (and_r (ltb w word_top) (are_words ws) h))

pub takes-binding : (ws k o : List ℕ) → TakesSheet ws k o → TakesSheet (binding_only ws) k o
takes-binding ws k o t =
    let u = serves-binding ws k o (t.1, t.2, t.3, t.4) in
    (are-words-binding ws t.0, u.0, u.1, u.2, u.3)
