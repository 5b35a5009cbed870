-- Lines of 41 bytes, joined: how long they are, and the line of a number. Assumes nothing.
use mathlib.Core.Path.{◌≡◌, refl, ◌∙◌}
use mathlib.Core.Bool.{Bool, true, false, cond}
use mathlib.Core.List.{List, [], ◌∷◌, ◌++◌, map}
use Prim.Native.Nat.{ℕ, zero, suc, ◌+◌, ◌*◌, ◌<◌}
use native.Mathlib.Omega.{arith}
use lib.ListN.{length, get_or, length-append}
use lib.Seq.{take_at, drop-append-add}
use Rattle.labelling.specs.Layout.{is_used, used_from}
use Rattle.sizes.specs.Pages.{line_bytes}
use Rattle.page_lines.specs.Reading.{IsLine}
use Rattle.page.specs.Page.{numbers_from, joined}
use Rattle.page.specs.Promise.{line_at}

-- EACH LINE of a list
unfoldable pub Each : (P : List ℕ → Type 0) → List (List ℕ) → Type 0
Each P [] = Unit
Each P (l ∷ ls) = P l × Each P ls

pub each_more : (P : List ℕ → Type 0) (ks ls : List (List ℕ)) → Each P ks → Each P ls → Each P (ks ++ ls)
unfolding Each
each_more P [] ls a b = b
each_more P (k ∷ ks) ls a b = (a.0, each_more P ks ls a.1 b)

pub each-one : (P : List ℕ → Type 0) (l : List ℕ) → P l → Each P (l ∷ [])
unfolding Each
each-one P l p = (p, tt)

pub each-used : (P : List ℕ → Type 0) (f : ℕ → List ℕ) (js : List ℕ) (a n : ℕ) → ((k : ℕ) → k < a + n → P (f k)) → Each P (map f (used_from a n js))
unfolding Each used_from
each-used P f js a zero h = tt
each-used P f js a (suc n) h = go (is_used a js) (each-used P f js (suc a) n (λ k l. h k (omega arith)))
  where
    go : (b : Bool) → Each P (map f (used_from (suc a) n js)) → Each P (map f (cond b (a ∷ used_from (suc a) n js) (used_from (suc a) n js)))
    go true r = (h a (omega arith), r)
    go false r = r

pub each_number : (P : List ℕ → Type 0) (f : ℕ → List ℕ) (a n : ℕ) → ((k : ℕ) → k < a + n → P (f k)) → Each P (map f (numbers_from a n))
unfolding Each numbers_from
each_number P f a zero h = tt
each_number P f a (suc n) h = (h a (omega arith), each_number P f (suc a) n (λ k l. h k (omega arith)))

pub each_at : (P : List ℕ → Type 0) (ls : List (List ℕ)) (i : ℕ) → Each P ls → i < length ls → P (get_or ls i [])
unfolding Each
each_at P [] i a h = absurd (omega arith)
each_at P (l ∷ ls) zero a h = a.0
each_at P (l ∷ ls) (suc i) a h = each_at P ls i a.1 (omega arith)

-- HOW LONG
pub joined-long : (ls : List (List ℕ)) → Each IsLine ls → length (joined ls) ≡ line_bytes * length ls
unfolding Each joined
joined-long [] a = omega arith
joined-long (l ∷ ls) a = omega (arith, length-append l (joined ls), a.0.long, joined-long ls a.1)

-- THE LINE of a number
pub joined_at : (ls : List (List ℕ)) (i : ℕ) → Each IsLine ls → i < length ls → line_at (joined ls) i ≡ get_or ls i []
unfolding Each joined
joined_at [] i a h = absurd (omega arith)
joined_at (l ∷ ls) zero a h = take_at l (joined ls) line_bytes a.0.long
joined_at (l ∷ ls) (suc i) a h =
    let e : line_bytes * suc i ≡ length l + line_bytes * i = omega (arith, a.0.long) in
    rw (e, drop-append-add l (joined ls) (line_bytes * i)) (joined_at ls i a.1 (omega arith))

-- of numbers from one on
pub numbers-long : (a n : ℕ) → length (numbers_from a n) ≡ n
unfolding numbers_from
numbers-long a zero = refl
numbers-long a (suc n) = omega (arith, numbers-long (suc a) n)

pub numbers-at : (a n i : ℕ) → i < n → get_or (numbers_from a n) i 0 ≡ a + i
unfolding numbers_from
numbers-at a zero i h = absurd (omega arith)
numbers-at a (suc n) zero h = omega arith
numbers-at a (suc n) (suc i) h = numbers-at (suc a) n i (omega arith) ∙ omega arith

pub map_at : (f : ℕ → List ℕ) (ks : List ℕ) (i : ℕ) → i < length ks → get_or (map f ks) i [] ≡ f (get_or ks i 0)
map_at f [] i h = absurd (omega arith)
map_at f (k ∷ ks) zero h = refl
map_at f (k ∷ ks) (suc i) h = map_at f ks i (omega arith)
