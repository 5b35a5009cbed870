-- Words of a level that become 1, and the rows of the two parts. Assumes nothing.
use mathlib.Core.Path.{◌≡◌, refl, sym, ap, ap₂, ◌∙◌}
use mathlib.Core.List.{List}
use Prim.Native.Nat.{ℕ, ◌+◌, ◌*◌, ◌<◌, ◌≤◌}
use native.Mathlib.Omega.{arith}
use lib.ListN.{length, get_or, set, length-set}
use lib.Seq.{get_or-set_same, get_or-set_other}
use Rattle.lists.proofs.Tests.{by_equal}
use Rattle.search.specs.Cost.{plus}
use Rattle.optimum.specs.OneSided.{top_word, mark_count}
use Rattle.optimum.specs.Strips.{Point, Strip}
use Rattle.arrays.specs.declared.Measures.{Measures}
use Rattle.rows.specs.Rows.{row_of, rows_of, row_in, Lies, upper_part, lower_part, LevelFits}
use Rattle.rows.proofs.Places.{row_fits, upper-lies, lower-lies}
use Rattle.parts.specs.Parts.{parts_cost, Marked, Marking, PartsMarked}

pub marking-none : (old : List ℕ) (low size : ℕ) → Marking old old low size
marking-none old low size = record { others = record { before = λ i h. refl; after = λ i h. refl }; kept = λ i e. e }

pub marking-join : (old mid new : List ℕ) (low size : ℕ) → Marking old mid low size → Marking mid new low size → Marking old new low size
marking-join old mid new low size f g = record {
  others = record { before = λ i h. g.others.before i h ∙ f.others.before i h; after = λ i h. g.others.after i h ∙ f.others.after i h };
  kept = λ i e. g.kept i (f.kept i e);
}

pub marking-set : (old : List ℕ) (low size at : ℕ) → low ≤ at → at < low + size → at < length old → Marking old (set old at 1) low size
marking-set old low size at l u h = record {
  others = record {
    before = λ i k. get_or-set_other old at i 1 0 (λ (e : i ≡ at). omega arith);
    after = λ i k. get_or-set_other old at i 1 0 (λ (e : i ≡ at). omega arith);
  };
  kept = λ i e. by_equal i at (λ z. rw z (get_or-set_same old at 1 0 h)) (λ z. get_or-set_other old at i 1 0 z ∙ e);
}

-- a strip's row in a level with room
module _ {q : Measures} {m low area : ℕ} (r : LevelFits q m low area) (p : Strip) (l : Lies m q.colours p) where
  pub own-low : low + row_of m q.colours p * q.budgets < low + rows_of m q.colours * q.budgets
  own-low = omega (arith, row_fits m q.colours q.budgets p l, r.some_budget)

  pub own-within : low + row_of m q.colours p * q.budgets < area
  own-within = omega (arith, own-low, r.within)

  pub own-marking : (old : List ℕ) (at : ℕ) → area ≡ length old → at ≡ low + row_of m q.colours p * q.budgets
      → Marking old (set old at 1) low (rows_of m q.colours * q.budgets)
  own-marking old at a e = marking-set old low _ at (omega (arith, e)) (omega (arith, e, own-low)) (omega (arith, e, a, own-within))

  pub own-marked : (old : List ℕ) (at : ℕ) → area ≡ length old → at ≡ low + row_of m q.colours p * q.budgets → Marked (set old at 1) low m q.colours q.budgets p
  own-marked old at a e = rw (← e) (get_or-set_same old at 1 0 (omega (arith, e, a, own-within)))

-- what is marked stays so
pub parts-kept : (q : Measures) (old new : List ℕ) (low m size : ℕ) (p : Strip) (s : Point) {k d : ℕ} → Marking old new low size → PartsMarked q old low m p s k d → PartsMarked q new low m p s k d
parts-kept q old new low m size p s f h = record { upper = f.kept _ h.upper; lower = f.kept _ h.lower }

-- the rows of the two parts that a label at slot k leaves of a strip
module _ {q : Measures} {m low area : ℕ} (r : LevelFits q m low area) (p : Strip) (s : Point) (k d : ℕ) (l : Lies m q.colours p) (c : s.c < q.colours) (b : k + 1 < p.b) (dl : d < mark_count) (upper lower : ℕ)
    (u : upper ≡ low + row_of m q.colours (upper_part d p s k) * q.budgets) (w : lower ≡ low + row_of m q.colours (lower_part p s k) * q.budgets) where
  pub parts-cost : (work : List ℕ) (t : ℕ) → t ≡ plus top_word (get_or work upper 0) (get_or work lower 0) → t ≡ parts_cost (row_in work low m q.colours q.budgets) p s k d
  parts-cost work t f =
      f ∙ ap₂ (plus top_word) (ap (λ (z : ℕ). get_or work z 0) (u ∙ omega arith)) (ap (λ (z : ℕ). get_or work z 0) (w ∙ omega arith))

  pub parts-marked : (old : List ℕ) → area ≡ length old
      → Marking old (set (set old upper 1) lower 1) low (rows_of m q.colours * q.budgets) × PartsMarked q (set (set old upper 1) lower 1) low m p s k d
  parts-marked old a =
      let f = own-marking r (upper_part d p s k) (upper-lies m q.colours d p s k l c b dl) old upper a u in
      let x = own-marked r (upper_part d p s k) (upper-lies m q.colours d p s k l c b dl) old upper a u in
      let e : area ≡ length (set old upper 1) = a ∙ sym (length-set old upper 1) in
      let g = own-marking r (lower_part p s k) (lower-lies m q.colours p s k l c b) (set old upper 1) lower e w in
      let y = own-marked r (lower_part p s k) (lower-lies m q.colours p s k l c b) (set old upper 1) lower e w in
      (marking-join _ _ _ _ _ f g, record { upper = g.kept _ x; lower = y })
