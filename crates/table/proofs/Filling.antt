-- Rows of a level filled one by one, by their ends. Assumes nothing.
use mathlib.Core.Path.{◌≡◌, refl, sym, ap, ◌∙◌, subst}
use mathlib.Core.List.{List}
use Prim.Native.Nat.{ℕ, ◌+◌, ◌*◌, ◌<◌, ◌≤◌}
use native.Mathlib.Nat.{mul-le-mul, le_refl}
use native.Mathlib.Omega.{arith}
use lib.ListN.{length, get_or}
use Rattle.lists.proofs.Tests.{by_order}
use Rattle.optimum.specs.Strips.{Point, Strip}
use Rattle.optimum.specs.OneSided.{mark_count}
use Rattle.arrays.specs.declared.Measures.{Measures}
use Rattle.rows.specs.Budgets.{Others}
use Rattle.labelling.specs.Entry.{zeroed}
use Rattle.areas.proofs.Zeroed.{zeroed-before, zeroed-inside, zeroed-after}
use Rattle.entries.specs.Entries.{RowIs, entry_by}
use Rattle.rows.specs.Rows.{row_of, row_in, level_of, Lies, end_place, low_place, end_words}
use Rattle.entries.proofs.Places.{same_rows}
use Rattle.rows.proofs.Places.{row_fits}
use Rattle.marks.specs.Marks.{Shaped}
use Rattle.marks.proofs.Followed.{same_end, later-end, slot-low, row_ends, later-low, low-high, same-strip}
use Rattle.rows.proofs.Levels.{row_within}
use Rattle.table.specs.Levels.{RowFilled}

module _ (q : Measures) (hs bs parts counts left : List ℕ) (base low : ℕ) (s : Point) where
  abbrev C : ℕ
  C = q.colours

  abbrev row : Strip → ℕ
  row p = row_of (length hs) q.colours p * q.budgets

  -- a row, by its ends
  row_at : (p : Strip) → row p ≡ end_place C p.a p.ca * end_words q hs + low_place C p * q.budgets
  row_at p = ap (λ (z : ℕ). z * q.budgets) (row_ends (length hs) C p) ∙ split (end_place C p.a p.ca) (length hs + 2) (C + 1) mark_count (low_place C p) q.budgets
    where
      split : (u l c k e n : ℕ) → (u * (l * c * k) + e) * n ≡ u * ((l * c + 0) * k * n) + e * n
      split u l c k e n = omega arith

  -- a level, by its upper ends
  size_is : level_of q hs ≡ end_place C (length hs + 2) 0 * end_words q hs
  size_is = split (length hs + 2) (C + 1) mark_count q.budgets
    where
      split : (l c k n : ℕ) → l * c * l * c * k * n ≡ (l * c + 0) * ((l * c + 0) * k * n)
      split l c k n = omega arith

  -- the rows below one upper end, up to a lower end
  pub record Filled (old new : List ℕ) (above place : ℕ) : Type 0 where
    pub others : Others old new (base + above * end_words q hs) (place * q.budgets)
    pub rows : (p : Strip) → Shaped (length hs) C p → end_place C p.a p.ca ≡ above → low_place C p < place → RowFilled q hs bs parts counts left old new base low s p

  pub filled_none : (old : List ℕ) (a ca place : ℕ) → ca ≤ C → place ≡ end_place C (a + 1) 0 * mark_count → Filled old old (end_place C a ca) place
  filled_none old a ca place c e = record {
    others = record { before = λ i h. refl; after = λ i h. refl };
    rows = λ p h f l.
        let x = same_end C p.a p.ca a ca (omega (arith, h.lies.ca_low)) c f in
        absurd (omega (arith, e, l, low-high C (a + 1) p (omega (arith, h.falls, x.0))));
  }

  pub filled_more : (old new last : List ℕ) (r : Strip) (place at : ℕ) → base + level_of q hs ≤ low → Lies (length hs) C r → place ≡ low_place C r
      → at ≡ base + row r → Filled old new (end_place C r.a r.ca) place → Others new last at q.budgets
      → (get_or new at 0 ≡ 1 → (v : ℕ) → v < q.budgets → get_or last (at + v) 0 ≡ entry_by q hs bs parts counts left (row_in new low (length hs) C q.budgets) r s v)
      → Filled old last (end_place C r.a r.ca) (place + 1)
  filled_more old new last r place at h l e f d o k = record {
    others = record {
      before = λ i u. o.before i (omega (arith, at-is)) ∙ d.others.before i u;
      after = λ i u. let g : (place + 1) * q.budgets ≡ place * q.budgets + q.budgets = omega arith in o.after i (omega (arith, at-is)) ∙ d.others.after i (omega arith);
    };
    rows = λ p t a b. by_order place (low_place C p)
        (λ u. own p (same-strip (length hs) C p r t.lies l a (omega (arith, e, b, u))))
        (λ u m v w. o.before _ (lower p v a u w) ∙ d.rows p t a u m v w);
  }
    where
      at-is : at ≡ base + end_place C r.a r.ca * end_words q hs + place * q.budgets
      at-is = f ∙ ap (λ (z : ℕ). base + z) (row_at r ∙ ap (λ (z : ℕ). end_place C r.a r.ca * end_words q hs + z * q.budgets) (sym e)) ∙ omega arith

      inside : base + end_place C r.a r.ca * end_words q hs + place * q.budgets ≤ low
      inside = omega (arith, at-is, f, row_fits (length hs) C q.budgets r l)

      own : (p : Strip) → p ≡ r → RowFilled q hs bs parts counts left old last base low s p
      own p z = subst (RowFilled q hs bs parts counts left old last base low s) (sym z)
          (λ m v w.
          let mark : get_or new at 0 ≡ 1 = d.others.after at (omega (arith, at-is)) ∙ ap (λ (i : ℕ). get_or old i 0) f ∙ m in
          ap (λ (i : ℕ). get_or last (i + v) 0) (sym f) ∙ k mark v w
          ∙ ap (λ (rows : Strip → ℕ → ℕ). entry_by q hs bs parts counts left rows r s v) (same_rows old new _ _ low (length hs) C q.budgets inside d.others))

      lower : (p : Strip) (v : ℕ) → end_place C p.a p.ca ≡ end_place C r.a r.ca → low_place C p < place → v < q.budgets → base + row p + v < at
      lower p v a u w =
          let x = row_within (low_place C p) place q.budgets u in
          omega (arith, at-is, row_at p, ap (λ (z : ℕ). z * end_words q hs) a)

  -- up to the end of the lower ends
  pub filled-all : (old new : List ℕ) (above : ℕ) (r : Strip) → length hs + 2 ≤ r.b → low_place C r ≤ end_place C (length hs + 2) 0 * mark_count → Filled old new above (low_place C r)
      → Others old new (base + above * end_words q hs) (end_words q hs)
      × ((p : Strip) → Shaped (length hs) C p → end_place C p.a p.ca ≡ above → RowFilled q hs bs parts counts left old new base low s p)
  filled-all old new above r h k f =
      let e : low_place C r ≡ end_place C (length hs + 2) 0 * mark_count = omega (arith, k, low-high C (length hs + 2) r h) in (
        subst (λ (n : ℕ). Others old new (base + above * end_words q hs) (n * q.budgets)) e f.others,
        λ p t a. f.rows p t a (omega (arith, e, later-low C p (length hs + 2) 0 (omega (arith, t.lies.cb_low)) t.lies.d_low t.lies.b_low)),
      )

  -- the rows below all upper ends, up to one
  pub record Passed (old new : List ℕ) (place : ℕ) : Type 0 where
    pub others : Others old new base (place * end_words q hs)
    pub rows : (p : Strip) → Shaped (length hs) C p → end_place C p.a p.ca < place → RowFilled q hs bs parts counts left old new base low s p

  pub passed_none : (old : List ℕ) (place : ℕ) → place ≡ 0 → Passed old old place
  passed_none old place e = record { others = record { before = λ i h. refl; after = λ i h. refl }; rows = λ p t l. absurd (omega (arith, e, l)) }

  pub passed-more : (old new last : List ℕ) (slot colour : ℕ) → base + level_of q hs ≤ low → slot ≤ length hs → colour ≤ C → Passed old new (end_place C slot colour)
      → Others new last (base + end_place C slot colour * end_words q hs) (end_words q hs)
      → ((p : Strip) → Shaped (length hs) C p → end_place C p.a p.ca ≡ end_place C slot colour → RowFilled q hs bs parts counts left new last base low s p)
      → Passed old last (end_place C slot colour + 1)
  passed-more old new last slot colour h sl cl d o k = record {
    others = record {
      before = λ i u. o.before i (omega arith) ∙ d.others.before i u;
      after = λ i u. let g : (end_place C slot colour + 1) * end_words q hs ≡ end_place C slot colour * end_words q hs + end_words q hs = omega arith in o.after i (omega arith) ∙ d.others.after i (omega arith);
    };
    rows = λ p t l. by_order (end_place C slot colour) (end_place C p.a p.ca)
        (λ u m v w. k p t (omega (arith, l, u)) (d.others.after _ (high p (omega (arith, l, u))) ∙ m) v w
        ∙ ap (λ (rows : Strip → ℕ → ℕ). entry_by q hs bs parts counts left rows p s v) (same_rows old new base (end_place C slot colour * end_words q hs) low (length hs) C q.budgets inside d.others))
        (λ u m v w. o.before _ (lower p t.lies v u w) ∙ d.rows p t u m v w);
  }
    where
      inside : base + end_place C slot colour * end_words q hs ≤ low
      inside = omega (arith, h, size_is, row_within (end_place C slot colour) (end_place C (length hs + 2) 0) (end_words q hs) (later-end C slot colour (length hs + 2) 0 cl (omega arith)))

      high : (p : Strip) → end_place C p.a p.ca ≡ end_place C slot colour → base + end_place C slot colour * end_words q hs ≤ base + row p
      high p e = omega (arith, row_at p, ap (λ (z : ℕ). z * end_words q hs) e)

      lower : (p : Strip) → Lies (length hs) C p → (v : ℕ) → end_place C p.a p.ca < end_place C slot colour → v < q.budgets → base + row p + v < base + end_place C slot colour * end_words q hs
      lower p l v u w =
          let x = row_within (end_place C p.a p.ca) (end_place C slot colour) (end_words q hs) u in
          let y = row_within (low_place C p) (end_place C (length hs + 2) 0 * mark_count) q.budgets (later-low C p (length hs + 2) 0 (omega (arith, l.cb_low)) l.d_low l.b_low) in
          omega (arith, row_at p, x, y)

  pub passed-all : (old new : List ℕ) (c d : ℕ) → length hs + 1 ≤ c → end_place C c d ≤ end_place C (length hs + 1) 0 → Passed old new (end_place C c d)
      → Others old new base (level_of q hs) × ((p : Strip) → Shaped (length hs) C p → RowFilled q hs bs parts counts left old new base low s p)
  passed-all old new c d h k f = (
    record { before = f.others.before; after = λ i u. f.others.after i (omega (arith, u, within)) },
    λ p t. f.rows p t (later-end C p.a p.ca c d (omega (arith, t.lies.ca_low)) (omega (arith, t.lies.b_low, t.falls))),
  )
    where
      few : end_place C c d ≤ end_place C (length hs + 2) 0
      few = omega (arith, k)

      within : end_place C c d * end_words q hs ≤ level_of q hs
      within = omega (arith, mul-le-mul {n₂ = end_place C (length hs + 2) 0} {m₂ = end_words q hs} few (le_refl (end_words q hs)), size_is)

  -- a row of the level
  pub row_low : (p : Strip) (at : ℕ) → base + level_of q hs ≤ low → Lies (length hs) C p → at ≡ base + row p → at + q.budgets ≤ low
  row_low p at h l e = omega (arith, e, h, row_fits (length hs) C q.budgets p l)

  -- the same upper end, by an equation
  pub to_end : (old new : List ℕ) (x y : ℕ) → x ≡ y
      → Others old new (base + x * end_words q hs) (end_words q hs) × ((p : Strip) → Shaped (length hs) C p → end_place C p.a p.ca ≡ x → RowFilled q hs bs parts counts left old new base low s p)
      → Others old new (base + y * end_words q hs) (end_words q hs) × ((p : Strip) → Shaped (length hs) C p → end_place C p.a p.ca ≡ y → RowFilled q hs bs parts counts left old new base low s p)
  to_end old new x y e h = rw (← e) h

-- the first place is not past the last
pub start-end : (C a m : ℕ) → a ≤ m → end_place C (a + 1) 0 * mark_count + 0 ≤ end_place C (m + 2) 0 * mark_count
start-end C a m h =
    omega (arith, mul-le-mul {n₂ = end_place C (m + 2) 0} {m₂ = mark_count} (slot-low C (a + 1) (m + 2) 0 (omega arith)) (le_refl mark_count))

-- ---- zeros

-- a level that is zeroed
pub zero_row : (base size : ℕ) (w : List ℕ) → base + size ≤ length w → RowIs base size (λ i. 0) w (zeroed base (base + size) w)
zero_row base size w l =
    let h : base ≤ base + size = omega arith in (
      record { before = zeroed-before base (base + size) w h l; after = zeroed-after base (base + size) w h l },
      λ v k. zeroed-inside base (base + size) w h l v (omega arith),
    )

pub others-of : (old new : List ℕ) (base n m : ℕ) → n ≡ m → Others old new base m → Others old new base n
others-of old new base n m e o = record { before = o.before; after = λ i h. o.after i (omega (arith, e)) }
