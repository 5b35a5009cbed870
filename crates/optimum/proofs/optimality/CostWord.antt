-- Laws of the cost word: it adds, it is below the greatest word, it compares as the aim's two numbers do, and both are read off it.
use mathlib.Core.Path.{◌≡◌, refl}
use mathlib.Core.Logic.{◌⊎◌, inl, inr}
use mathlib.Core.Bool.{Bool, true, false, cond}
use mathlib.Core.List.{List}
use Prim.Native.Nat.{ℕ, ◌+◌, ◌*◌, ◌/◌, ◌%◌, ◌<◌}
use native.Mathlib.Omega.{arith}
use Rattle.sheet.specs.Sheet.{Sheet}
use Rattle.sheet.proofs.Accepted.{Sound}
use Rattle.labelling.specs.Layout.{count_of, length_of}
use Rattle.labelling.specs.Lawful.{Earlier, Better}
use Rattle.labelling.proofs.Words.{count_low, length-low}
use Rattle.optimum.specs.CostWord.{top_word, count_limit, length_limit, word_of, count_in, length_in, layout_cost}

-- the word for an aim: shortest, or fewest
abbrev word : Bool → (count size : ℕ) → ℕ
word b c l = cond b (l * count_limit + c) (c * length_limit + l)

-- ---- it adds

pub word-nothing : (s : Sheet) → word_of s 0 0 ≡ 0
unfolding word_of
word-nothing s = go s.is_shortest
  where
    go : (b : Bool) → word b 0 0 ≡ 0
    go true = refl
    go false = refl

pub word-adds : (s : Sheet) (a b c d : ℕ) → word_of s (a + c) (b + d) ≡ word_of s a b + word_of s c d
unfolding word_of
word-adds s a b c d = go s.is_shortest
  where
    go : (t : Bool) → word t (a + c) (b + d) ≡ word t a b + word t c d
    go true = omega arith
    go false = omega arith

-- ---- of counts and lengths in range: it is below the greatest word, and both are read off it

pub word_low : (s : Sheet) (c l : ℕ) → c < count_limit → l < length_limit → word_of s c l < top_word
unfolding word_of
word_low s c l h k = go s.is_shortest
  where
    go : (b : Bool) → word b c l < top_word
    go true = omega arith
    go false = omega arith

pub count_word : (s : Sheet) (c l : ℕ) → c < count_limit → l < length_limit → count_in s (word_of s c l) ≡ c
unfolding count_in word_of
count_word s c l h k = go s.is_shortest
  where
    go : (b : Bool) → cond b (word b c l % count_limit) (word b c l / length_limit) ≡ c
    go true = omega arith
    go false = omega arith

pub length-word : (s : Sheet) (c l : ℕ) → c < count_limit → l < length_limit → length_in s (word_of s c l) ≡ l
unfolding length_in word_of
length-word s c l h k = go s.is_shortest
  where
    go : (b : Bool) → cond b (word b c l / count_limit) (word b c l % length_limit) ≡ l
    go true = omega arith
    go false = omega arith

-- ---- of a layout

module _ (s : Sheet) (o : Sound s) where
  count_fits : (js : List ℕ) → count_of s js < count_limit
  count_fits js = omega (arith, count_low s o js)

  length-fits : (js : List ℕ) → length_of s js < length_limit
  length-fits js = omega (arith, length-low s o js)

  pub layout-low : (js : List ℕ) → layout_cost s js < top_word
  layout-low js = word_low s (count_of s js) (length_of s js) (count_fits js) (length-fits js)

  pub layout-count : (js : List ℕ) → count_in s (layout_cost s js) ≡ count_of s js
  layout-count js = count_word s (count_of s js) (length_of s js) (count_fits js) (length-fits js)

  pub layout-length : (js : List ℕ) → length_in s (layout_cost s js) ≡ length_of s js
  layout-length js = length-word s (count_of s js) (length_of s js) (count_fits js) (length-fits js)

  -- THE BETTER OF TWO LAYOUTS costs less, or as much and comes first
  pub better-costs : (js ks : List ℕ) → Better s js ks → (layout_cost s js < layout_cost s ks) ⊎ ((layout_cost s js ≡ layout_cost s ks) × Earlier s js ks)
  unfolding word_of
  better-costs js ks h = compare s.is_shortest (count_of s js) (length_of s js) (count_of s ks) (length_of s ks) (count_fits js) (length-fits js) (count_fits ks) (length-fits ks) h
    where
      compare : (b : Bool) (c l d k : ℕ) → c < count_limit → l < length_limit → d < count_limit → k < length_limit →
          (cond b l c < cond b k d) ⊎ ((cond b l c ≡ cond b k d) × ((cond b c l < cond b d k) ⊎ ((cond b c l ≡ cond b d k) × Earlier s js ks))) →
          (word b c l < word b d k) ⊎ ((word b c l ≡ word b d k) × Earlier s js ks)
      compare true c l d k p q r t (inl h) = inl (omega arith)
      compare true c l d k p q r t (inr (e, inl h)) = inl (omega arith)
      compare true c l d k p q r t (inr (e, inr (h, f))) = inr (omega arith, f)
      compare false c l d k p q r t (inl h) = inl (omega arith)
      compare false c l d k p q r t (inr (e, inl h)) = inl (omega arith)
      compare false c l d k p q r t (inr (e, inr (h, f))) = inr (omega arith, f)
