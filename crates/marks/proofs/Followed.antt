-- The strips of a level followed one by one, by their ends. Assumes nothing.
use mathlib.Core.Path.{◌≡◌, refl, sym, ap, ap₂, ◌∙◌, subst}
use mathlib.Core.Bool.{false}
use mathlib.Core.List.{List}
use Prim.Native.Nat.{ℕ, suc, ◌+◌, ◌*◌, ◌-◌, ◌/◌, ◌%◌, ◌<◌, ◌≤◌}
use native.Mathlib.Nat.{mul-le-mul, le_refl}
use native.Mathlib.Omega.{arith}
use lib.Arith.{digits_div, digits_mod}
use lib.ListN.{length, get_or}
use Rattle.lists.proofs.Tests.{by_order, clash}
use Rattle.optimum.specs.Strips.{Point, Strip, Instance}
use Rattle.optimum.specs.OneSided.{mark_count}
use Rattle.optimum.specs.Reached.{Asks}
use Rattle.optimum.proofs.Levels.{pack-lt}
use Rattle.optimum.proofs.Marks.{some-mark}
use Rattle.arrays.specs.declared.Measures.{Measures}
use Rattle.strips.specs.Strips.{instance_on}
use Rattle.rows.specs.Rows.{row_of, level_of, Lies, end_place, low_place, upper_end}
use Rattle.rows.proofs.Places.{row_fits}
use Rattle.rows.specs.Level.{Ready, Level, slots_in, colours_in, budgets_in, words_in}
use Rattle.marks.specs.Marks.{Shaped, Led}
use Rattle.parts.specs.Parts.{Marked, Marking}
use Rattle.parts.proofs.Marking.{marking-none, marking-join}

-- ---- ends by their places

same_digits : (n a b c d : ℕ) → b < n → d < n → a * n + b ≡ c * n + d → (a ≡ c) × (b ≡ d)
same_digits n a b c d u v e =
    (sym (digits_div a u) ∙ ap (λ (z : ℕ). z / n) e ∙ digits_div c v, sym (digits_mod a u) ∙ ap (λ (z : ℕ). z % n) e ∙ digits_mod c v)

pub same_end : (C a b c d : ℕ) → b ≤ C → d ≤ C → end_place C a b ≡ end_place C c d → (a ≡ c) × (b ≡ d)
same_end C a b c d h k e = same_digits (C + 1) a b c d (omega arith) (omega arith) e

-- an end of a later slot comes later
pub later-end : (C a b c d : ℕ) → b ≤ C → a < c → end_place C a b < end_place C c d
later-end C a b c d h k = let e : c ≡ suc a + (c - suc a) = omega arith in omega (arith, ap (λ (z : ℕ). z * (C + 1)) e)

-- an end at or after the first of a slot is of that slot or a later one
pub slot-high : (C a c d : ℕ) → d ≤ C → end_place C a 0 ≤ end_place C c d → a ≤ c
slot-high C a c d h e = by_order a c (λ l. l) (λ l. absurd (omega (arith, later-end C c d a 0 h l)))

pub slot-low : (C a c d : ℕ) → a ≤ c → end_place C a 0 ≤ end_place C c d
slot-low C a c d h = let e : c ≡ a + (c - a) = omega arith in omega (arith, ap (λ (z : ℕ). z * (C + 1)) e)

-- no strip has an upper end that is none
pub ended : (m C slot colour : ℕ) → colour ≤ C → upper_end slot colour ≡ false → (p : Strip) → Shaped m C p → end_place C p.a p.ca ≡ end_place C slot colour → ⊥
ended m C slot colour c u p t e =
    let x = same_end C p.a p.ca slot colour (omega (arith, t.lies.ca_low)) c e in
    clash (ap₂ upper_end (sym x.0) (sym x.1) ∙ t.ends) u

-- the row of a strip, by its upper end and its place below it
pub row_ends : (m C : ℕ) (p : Strip) → row_of m C p ≡ end_place C p.a p.ca * ((m + 2) * (C + 1) * mark_count) + low_place C p
row_ends m C p = split (end_place C p.a p.ca) (m + 2) p.b (C + 1) p.cb mark_count p.d
  where
    split : (u l b c e k d : ℕ) → ((u * l + b) * c + e) * k + d ≡ u * (l * c * k) + ((b * c + e) * k + d)
    split u l b c e k d = omega arith

-- a place below an end of a later slot
pub later-low : (C : ℕ) (p : Strip) (c d : ℕ) → p.cb ≤ C → p.d < mark_count → p.b < c → low_place C p < end_place C c d * mark_count
later-low C p c d h k l = pack-lt (end_place C p.b p.cb) p.d (end_place C c d) mark_count (later-end C p.b p.cb c d h l) k

-- a place at or after the first of a slot
pub low-high : (C c : ℕ) (p : Strip) → c ≤ p.b → end_place C c 0 * mark_count ≤ low_place C p
low-high C c p h =
    omega (arith, mul-le-mul {n₂ = end_place C p.b p.cb} {m₂ = mark_count} (slot-low C c p.b p.cb h) (le_refl mark_count))

-- the strip whose place comes next has the next row
pub next_row : (m C n at base : ℕ) (p r : Strip) → r.a ≡ p.a → r.ca ≡ p.ca → low_place C r ≡ low_place C p + 1
    → at ≡ base + row_of m C p * n → at + n ≡ base + row_of m C r * n
next_row m C n at base p r e f g h =
    let x : row_of m C r ≡ row_of m C p + 1 = row_ends m C r ∙ ap₂ (λ (u v : ℕ). u * ((m + 2) * (C + 1) * mark_count) + v) (ap₂ (end_place C) e f) g ∙ omega (arith, row_ends m C p) in
    ap (λ (z : ℕ). z + n) h ∙ more (row_of m C p) (row_of m C r) x
  where
    more : (a b : ℕ) → b ≡ a + 1 → base + a * n + n ≡ base + b * n
    more a b e = rw e (omega arith)

-- its slot is the same or the next
pub next-slot : (C a b c d : ℕ) → b ≤ C → end_place C c d ≡ end_place C a b + 1 → c ≤ a + 1
next-slot C a b c d h e = slot-high C c (a + 1) 0 (omega arith) (omega (arith, e))

pub next_low : (C : ℕ) (p r : Strip) → p.cb ≤ C → p.d < mark_count → low_place C r ≡ low_place C p + 1 → r.b ≤ p.b + 1
next_low C p r h k e =
    by_order r.b (p.b + 1)
    (λ l. l)
    (λ l. absurd (omega (arith, e, later-low C p (p.b + 1) 0 h k (omega arith), pack-lt (end_place C (p.b + 1) 0) 0 (end_place C r.b r.cb) mark_count (later-end C (p.b + 1) 0 r.b r.cb (omega arith) l) some-mark)))

pub same-strip : (m C : ℕ) (p r : Strip) → Lies m C p → Lies m C r → end_place C p.a p.ca ≡ end_place C r.a r.ca → low_place C p ≡ low_place C r → p ≡ r
same-strip m C p r l k e f =
    let x = same_end C p.a p.ca r.a r.ca (omega (arith, l.ca_low)) (omega (arith, k.ca_low)) e in
    let w = same_digits mark_count (end_place C p.b p.cb) p.d (end_place C r.b r.cb) r.d l.d_low k.d_low f in
    let y = same_end C p.b p.cb r.b r.cb (omega (arith, l.cb_low)) (omega (arith, k.cb_low)) w.0 in
    all p.a p.ca p.b p.cb p.d r.a r.ca r.b r.cb r.d x.0 x.1 y.0 y.1 w.1
  where
    all : (a ca b cb d a' ca' b' cb' d' : ℕ) → a ≡ a' → ca ≡ ca' → b ≡ b' → cb ≡ cb' → d ≡ d'
        → ◌≡◌ {A = Strip} (record { a = a; ca = ca; b = b; cb = cb; d = d }) (record { a = a'; ca = ca'; b = b'; cb = cb'; d = d' })
    all a ca b cb d a' ca' b' cb' d' e f g h i = rw (e, f, g, h, i) refl

-- ---- the strips below one upper end, up to a lower end; those below all upper ends, up to one

module _ (q : Measures) (hs bs : List ℕ) (base low : ℕ) (s : Point) where
  abbrev P : Instance
  P = instance_on q hs bs

  pub record Followed (old new : List ℕ) (above place : ℕ) : Type 0 where
    pub marking : Marking old new low (level_of q hs)
    pub led : (p : Strip) → Shaped (length hs) q.colours p → end_place q.colours p.a p.ca ≡ above → low_place q.colours p < place → Led P q old new base low s p

  pub followed-none : (old : List ℕ) (a ca place : ℕ) → ca ≤ q.colours → place ≡ end_place q.colours (a + 1) 0 * mark_count → Followed old old (end_place q.colours a ca) place
  followed-none old a ca place c e = record {
    marking = marking-none _ _ _;
    led = λ p h f l.
        let x = same_end q.colours p.a p.ca a ca (omega (arith, h.lies.ca_low)) c f in
        absurd (omega (arith, e, l, low-high q.colours (a + 1) p (omega (arith, h.falls, x.0))));
  }

  pub followed-more : (old new last : List ℕ) (r : Strip) (place at : ℕ) → base + level_of q hs ≤ low → Lies (length hs) q.colours r → place ≡ low_place q.colours r
      → at ≡ base + row_of (length hs) q.colours r * q.budgets → 0 < q.budgets
      → Followed old new (end_place q.colours r.a r.ca) place → Marking new last low (level_of q hs)
      → (get_or new at 0 ≡ 1 → (x : Strip) → Asks P r s x → Marked last low (length hs) q.colours q.budgets x)
      → Followed old last (end_place q.colours r.a r.ca) (place + 1)
  followed-more old new last r place at h l e f n d g k = record {
    marking = marking-join _ _ _ _ _ d.marking g;
    led = λ p t a b. by_order place (low_place q.colours p)
        (λ u. let z = same-strip (length hs) q.colours p r t.lies l a (omega (arith, e, b, u)) in
        λ m x w. k (subst (λ (i : ℕ). get_or new i 0 ≡ 1) (sym f) (d.marking.others.before _ (omega (arith, row_fits (length hs) q.colours q.budgets r l)) ∙ subst (Marked old base (length hs) q.colours q.budgets) z m)) x (subst (λ (y : Strip). Asks P y s x) z w))
        (λ u m x w. g.kept _ (d.led p t a u m x w));
  }

  -- up to the end of the lower ends
  pub followed-all : (old new : List ℕ) (above : ℕ) (r : Strip) → length hs + 2 ≤ r.b → Followed old new above (low_place q.colours r)
      → (p : Strip) → Shaped (length hs) q.colours p → end_place q.colours p.a p.ca ≡ above → Led P q old new base low s p
  followed-all old new above r h f p t e =
      f.led p t e (omega (arith, low-high q.colours r.b r (omega arith), later-low q.colours p r.b 0 (omega (arith, t.lies.cb_low)) t.lies.d_low (omega (arith, t.lies.b_low))))

  -- the strips below all upper ends, up to one
  pub record Passed (old new : List ℕ) (place : ℕ) : Type 0 where
    pub marking : Marking old new low (level_of q hs)
    pub led : (p : Strip) → Shaped (length hs) q.colours p → end_place q.colours p.a p.ca < place → Led P q old new base low s p

  pub passed_none : (old : List ℕ) (place : ℕ) → place ≡ 0 → Passed old old place
  passed_none old place e = record { marking = marking-none _ _ _; led = λ p t l. absurd (omega (arith, e, l)) }

  pub passed-more : (old new last : List ℕ) (place : ℕ) → base + level_of q hs ≤ low → 0 < q.budgets → Passed old new place → Marking new last low (level_of q hs)
      → ((p : Strip) → Shaped (length hs) q.colours p → end_place q.colours p.a p.ca ≡ place → Led P q new last base low s p) → Passed old last (place + 1)
  passed-more old new last place h n d g k = record {
    marking = marking-join _ _ _ _ _ d.marking g;
    led = λ p t l. by_order place (end_place q.colours p.a p.ca)
        (λ u m x w. k p t (omega (arith, l, u)) (d.marking.others.before _ (omega (arith, row_fits (length hs) q.colours q.budgets p t.lies)) ∙ m) x w)
        (λ u m x w. g.kept _ (d.led p t u m x w));
  }

  pub passed-all : (old new : List ℕ) (c d : ℕ) → length hs + 1 ≤ c → Passed old new (end_place q.colours c d)
      → (p : Strip) → Shaped (length hs) q.colours p → Led P q old new base low s p
  passed-all old new c d h f p t =
      f.led p t (later-end q.colours p.a p.ca c d (omega (arith, t.lies.ca_low)) (omega (arith, t.lies.b_low, t.falls)))

-- ---- what the loops ask

pub lies_at : (m C : ℕ) (p : Strip) → p.a ≤ m → p.ca ≤ C → p.b < m + 2 → p.cb ≤ C → p.d < mark_count → Lies m C p
lies_at m C p a ca b cb d = record { a_low = omega arith; ca_low = omega arith; b_low = b; cb_low = omega arith; d_low = d }

-- the row that a loop has come to that goes down below an upper end
pub row_lies : (m C slot colour : ℕ) (p : Strip) → (slot ≤ m) × (colour ≤ C) → p.a ≡ slot → p.ca ≡ colour → p.b < m + 2 → (p.cb ≤ C) × (p.d < mark_count) → Lies m C p
row_lies m C slot colour p h a ca b f = lies_at m C p (omega arith) (omega arith) b f.0 f.1

pub start-lies : (m C a ca : ℕ) → a ≤ m → ca ≤ C → Lies m C (record { a = a; ca = ca; b = a + 1; cb = 0; d = 0 })
start-lies m C a ca h k = record { a_low = omega arith; ca_low = omega arith; b_low = omega arith; cb_low = omega arith; d_low = some-mark }

module _ {l : Level} {area : ℕ} (r : Ready l (words_in l) area) where
  -- a row of the upper level
  pub at_low : (p : Strip) → Lies (slots_in l) (colours_in l) p → (at : ℕ) → at ≡ l.base + row_of (slots_in l) (colours_in l) p * budgets_in l → at + budgets_in l ≤ l.low
  at_low p h at e = omega (arith, e, r.apart, row_fits (slots_in l) (colours_in l) (budgets_in l) p h)
