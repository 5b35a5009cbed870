-- The rows that a row is filled from: they stand in the level below, and do not change. Assumes nothing.
use mathlib.Core.Path.{◌≡◌, fun_ext}
use mathlib.Core.List.{List}
use Prim.Native.Nat.{ℕ, ◌+◌, ◌*◌, ◌-◌, ◌<◌, ◌≤◌}
use native.Mathlib.Omega.{arith}
use Rattle.optimum.specs.Strips.{Strip}
use Rattle.optimum.specs.OneSided.{mark_count}
use Rattle.rows.specs.Budgets.{Others}
use Rattle.rows.specs.Rows.{row_of, row_in, Lies, marked_by, upper_part, lower_part}
use Rattle.rows.proofs.Places.{row_fits, marked-lies, upper-lies, lower-lies}
use Rattle.rows.specs.declared.level.TableLevel.{TableLevel}
use Rattle.rows.specs.Level.{Level, row_at, slots_in, colours_in, budgets_in, Ready}
use Rattle.entries.specs.declared.filling.Filling.{Filling}
use Rattle.entries.specs.Entries.{RowFits, PartsFit}
use Rattle.entries.specs.Filled.{filled_at}

-- rows past the words that changed are the same
pub same_rows : (old new : List ℕ) (base count low m C n : ℕ) → base + count ≤ low → Others old new base count → row_in new low m C n ≡ row_in old low m C n
same_rows old new base count low m C n h o = fun_ext (λ p. fun_ext (λ v. o.after _ (omega arith)))

pub last-in : (at n size : ℕ) → 0 < n → at + n ≤ size → at + (n - 1) < size
last-in at n size h l = omega arith

-- the rows of both parts stand in the level below, and that of the strip itself
module _ {l : Level} {area : ℕ} (r : Ready l (budgets_in l) area) where
  pub own-fits : (p : Strip) → Lies (slots_in l) (colours_in l) p → l.low + row_of (slots_in l) (colours_in l) p * budgets_in l + budgets_in l ≤ area
  own-fits p h = omega (arith, r.within, row_fits (slots_in l) (colours_in l) (budgets_in l) p h)

  -- where a label at slot k leaves two parts
  pub parts-fit : (p : Strip) (k d : ℕ) → Lies (slots_in l) (colours_in l) p → k + 1 < p.b → d < mark_count → (upper lower : ℕ)
      → upper ≡ l.low + row_of (slots_in l) (colours_in l) (upper_part d p l.site k) * budgets_in l → lower ≡ l.low + row_of (slots_in l) (colours_in l) (lower_part p l.site k) * budgets_in l
      → PartsFit (budgets_in l) l.base area upper lower
  parts-fit p k d h b dl upper lower e f =
      let u = own-fits (upper_part d p l.site k) (upper-lies _ _ d p l.site k h r.site.colour_low b dl) in
      let w = own-fits (lower_part p l.site k) (lower-lies _ _ p l.site k h r.site.colour_low b) in
      record {
        some = r.sheet.some_budget;
        upper_in = rw e u;
        lower_in = rw f w;
        upper_apart = omega (arith, e, r.apart);
        lower_apart = omega (arith, f, r.apart);
      }

  -- where a site joins that leaves the mark d, or the mark e
  pub joins-fit : (p : Strip) (d e : ℕ) → Lies (slots_in l) (colours_in l) p → d < mark_count → e < mark_count → (up down : ℕ)
      → up ≡ l.low + row_of (slots_in l) (colours_in l) (marked_by d p) * budgets_in l → down ≡ l.low + row_of (slots_in l) (colours_in l) (marked_by e p) * budgets_in l
      → PartsFit (budgets_in l) l.base area up down
  joins-fit p d e h dl el up down f g =
      let u = own-fits (marked_by d p) (marked-lies _ _ d p h dl) in
      let w = own-fits (marked_by e p) (marked-lies _ _ e p h el) in
      record {
        some = r.sheet.some_budget;
        upper_in = rw f u;
        lower_in = rw g w;
        upper_apart = omega (arith, f, r.apart);
        lower_apart = omega (arith, g, r.apart);
      }

-- a row of a level that code is given, and the level below it
pub row-ready : (v : TableLevel) {at : ℕ} {p : Strip} {area : ℕ} → RowFits (row_at v at) p area → Ready (row_at v at) (budgets_in (row_at v at)) area
row-ready v f = record { sheet = v.sheet.now.of_sheet; site = v.site_in; apart = f.apart; within = f.within }

pub filled-ready : (f : Filling) {at : ℕ} {p : Strip} {area : ℕ} → RowFits (filled_at f at) p area → Ready (filled_at f at) (budgets_in (filled_at f at)) area
filled-ready f h = record { sheet = f.level.sheet.now.of_sheet; site = f.level.site_in; apart = h.apart; within = h.within }
