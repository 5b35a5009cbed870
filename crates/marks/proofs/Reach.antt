-- What the whole sheet leads to has the shape that is looked for, and is marked level by level. Assumes nothing.
use mathlib.Core.Path.{◌≡◌, refl, sym, ap, ◌∙◌, subst}
use mathlib.Core.Bool.{true}
use mathlib.Core.List.{List}
use Prim.Native.Nat.{ℕ, zero, suc, ◌+◌, ◌*◌, ◌-◌, ◌<◌, ◌≤◌}
use native.Mathlib.Omega.{arith}
use native.Mathlib.Numerals.{add-one}
use lib.ListN.{length, get_or}
use borrow.Author.Tests.{lt-ltb, ne_eqb}
use Rattle.lists.proofs.Tests.{by-test, by-either, by_order}
use Rattle.optimum.specs.Slots.{over, under, far_from, clear_from}
use Rattle.optimum.specs.Strips.{Point, Strip, Instance, inside, opens, joins_up, joins_down, children}
use Rattle.optimum.proofs.Marks.{some-mark}
use Rattle.optimum.specs.Reached.{Asks, Reached, no_point, whole_sheet}
use Rattle.arrays.specs.declared.Measures.{Measures}
use Rattle.arrays.specs.Arrays.{turn_by, instance_by}
use Rattle.arrays.specs.Given.{Given, points_of, OfSheet, SiteIn}
use Rattle.arrays.proofs.Narrowed.{on-slots}
use Rattle.arrays.proofs.Marks.{turn_low}
use Rattle.strips.specs.Strips.{instance_on}
use Rattle.rows.specs.Rows.{row_of, level_of, marked_by, upper_part, lower_part, upper_end}
use Rattle.rows.proofs.Places.{marked-lies, upper-lies, lower-lies}
use Rattle.marks.specs.Marks.{Shaped, Led, ReachMarked}
use Rattle.parts.specs.Parts.{Marked, Marking}
use Rattle.marks.proofs.Asked.{asked-out, asked_in}
use Rattle.arrays.proofs.Points.{point-at}

-- ---- radices and draws have no part in what is reached

pub asks-on : (q : Measures) (hs bs rs ds : List ℕ) (p : Strip) (s : Point) (x : Strip) → Asks (instance_by q hs bs rs ds) p s x → Asks (instance_on q hs bs) p s x
unfolding inside over under far_from clear_from opens joins_up joins_down children
asks-on q hs bs rs ds p s x a = a

pub asks-by : (q : Measures) (hs bs rs ds : List ℕ) (p : Strip) (s : Point) (x : Strip) → Asks (instance_on q hs bs) p s x → Asks (instance_by q hs bs rs ds) p s x
unfolding inside over under far_from clear_from opens joins_up joins_down children
asks-by q hs bs rs ds p s x a = a

pub reached-on : (q : Measures) (hs bs rs ds : List ℕ) (ss : List Point) (j : ℕ) (p : Strip) → Reached (instance_by q hs bs rs ds) ss j p → Reached (instance_on q hs bs) ss j p
unfolding Reached
reached-on q hs bs rs ds ss zero p r = r
reached-on q hs bs rs ds ss (suc j) p (x, r, a) = (x, reached-on q hs bs rs ds ss j x r, asks-on q hs bs rs ds x (get_or ss j no_point) p a)

-- ---- a level by its size and its site

pub at-site : (q : Measures) (hs bs old new : List ℕ) (size base low : ℕ) (s t : Point) → size ≡ level_of q hs → t ≡ s
    → Marking old new low (level_of q hs) × ((p : Strip) → Shaped (length hs) q.colours p → Led (instance_on q hs bs) q old new base low s p)
    → Marking old new low size × ((p : Strip) → Shaped (length hs) q.colours p → Led (instance_on q hs bs) q old new base low t p)
at-site q hs bs old new size base low s t e f h = rw (e, f) h

pub whole-marked : (q : Measures) (hs bs work : List ℕ) → Marked work 0 (length hs) q.colours q.budgets (record { a = 0; ca = 0; b = length hs + 1; cb = 0; d = 0 })
    → Marked work 0 (length hs) q.colours q.budgets (whole_sheet (instance_on q hs bs))
whole-marked q hs bs work h = subst (λ (b : ℕ). Marked work 0 (length hs) q.colours q.budgets (record { a = 0; ca = 0; b = b; cb = 0; d = 0 })) (add-one (length hs)) h

pub to_level : (P : Instance) (q : Measures) (ss : List Point) (work : List ℕ) (size level j : ℕ) {n : ℕ} → size ≡ level → j ≡ n → ReachMarked P q ss work size (j + 1) → ReachMarked P q ss work level (n + 1)
to_level P q ss work size level j e f h = rw (← e, ← f) h

-- ---- shapes

module _ {g : Given} (o : OfSheet g) where
  abbrev q : Measures
  q = g.measures

  abbrev hs : List ℕ
  hs = g.heights

  abbrev bs : List ℕ
  bs = g.bounds

  abbrev ss : List Point
  ss = points_of g

  asked-shape : (p x : Strip) (s : Point) → SiteIn q s → Shaped (length hs) q.colours p → Asks (instance_on q hs bs) p s x → Shaped (length hs) q.colours x
  unfolding upper_end
  asked-shape p x s i t a =
      by-test (inside (instance_on q hs bs) p s)
      (λ e. by-either (asked_in q hs bs p s x (on-slots o) i e a)
      (λ z. subst (Shaped (length hs) q.colours) (sym z.0) (joined (p.a - 1)))
      (λ y. by-either y
      (λ z. subst (Shaped (length hs) q.colours) (sym z.0) (joined (p.b - 1)))
      (λ z. let d = z.opened in
      by-either z.which
      (λ e. subst (Shaped (length hs) q.colours) (sym e) (upper z.k d.above d.under))
      (λ e. subst (Shaped (length hs) q.colours) (sym e) (lower z.k d.under)))))
      (λ e. subst (Shaped (length hs) q.colours) (sym (asked-out q hs bs p s x e a)) t)
    where
      joined : (k : ℕ) → Shaped (length hs) q.colours (marked_by (turn_by hs s k) p)
      joined k = record { lies = marked-lies _ _ _ p t.lies (turn_low hs s k); falls = t.falls; ends = t.ends }

      upper : (k : ℕ) → p.a < k + 1 → k + 1 < p.b → Shaped (length hs) q.colours (upper_part (turn_by hs s k) p s k)
      upper k h u = record { lies = upper-lies _ _ _ p s k t.lies i.colour_low u (turn_low hs s k); falls = h; ends = t.ends }

      label : (k c : ℕ) → upper_end (k + 1) (c + 1) ≡ true
      label k c = rw (ne_eqb (k + 1) 0 (λ (e : k + 1 ≡ 0). omega arith), lt-ltb 0 (c + 1) (omega arith))

      lower : (k : ℕ) → k + 1 < p.b → Shaped (length hs) q.colours (lower_part p s k)
      lower k u = record { lies = lower-lies _ _ p s k t.lies i.colour_low u; falls = u; ends = label k s.c }

  pub site-stands : (j : ℕ) → j < length g.xs → SiteIn q (get_or ss j no_point)
  site-stands j h = subst (SiteIn q) (sym (point-at q hs g.xs g.ys g.colours j h)) (o.site_in j h)

  pub reached-shape : (j : ℕ) → j ≤ length g.xs → (p : Strip) → Reached (instance_on q hs bs) ss j p → Shaped (length hs) q.colours p
  unfolding Reached upper_end
  reached-shape zero h p e = subst (Shaped (length hs) q.colours) (sym e) (record {
    lies = record { a_low = omega arith; ca_low = omega arith; b_low = omega arith; cb_low = omega arith; d_low = some-mark };
    falls = omega arith;
    ends = refl;
  })
  reached-shape (suc j) h p (x, r, a) = asked-shape x p _ (site-stands j (omega arith)) (reached-shape j (omega arith) x r) a

  -- ---- levels

  -- the first level, once the whole sheet is marked
  pub reach-first : (work : List ℕ) (size : ℕ) → Marked work 0 (length hs) q.colours q.budgets (whole_sheet (instance_on q hs bs))
      → ReachMarked (instance_on q hs bs) q ss work size 1
  unfolding Reached
  reach-first work size m zero h p e = subst (Marked work (0 * size) (length hs) q.colours q.budgets) (sym e) (ap (λ (z : ℕ). get_or work (z + row_of (length hs) q.colours (whole_sheet (instance_on q hs bs)) * q.budgets) 0) (omega arith) ∙ m)
  reach-first work size m (suc i) h p e = absurd (omega arith)

  -- one level more
  pub reach-more : (old new : List ℕ) (size j : ℕ) → j < length g.xs → ReachMarked (instance_on q hs bs) q ss old size (j + 1) → Marking old new ((j + 1) * size) size
      → ((p : Strip) → Shaped (length hs) q.colours p → Led (instance_on q hs bs) q old new (j * size) ((j + 1) * size) (get_or ss j no_point) p)
      → ReachMarked (instance_on q hs bs) q ss new size (j + 1 + 1)
  unfolding Reached
  reach-more old new size j l h m f i u p r =
      by_order (j + 1) i
      (λ z. let e : i ≡ suc j = omega arith in next i e r)
      (λ z. m.kept _ (h i z p r))
    where
      next : (i : ℕ) → i ≡ suc j → Reached (instance_on q hs bs) ss i p → Marked new (i * size) (length hs) q.colours q.budgets p
      next i e r =
          let w = subst (λ (n : ℕ). Reached (instance_on q hs bs) ss n p) e r in
          let a = f w.0 (reached-shape j (omega arith) w.0 w.1) (h j (omega arith) w.0 w.1) p w.2 in
          ap (λ (n : ℕ). get_or new (n * size + row_of (length hs) q.colours p * q.budgets) 0) (e ∙ sym (add-one j)) ∙ a
