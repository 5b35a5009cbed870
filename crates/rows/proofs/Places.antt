-- Where rows stand: bounds on the products, and rows as digits. Assumes nothing.
use mathlib.Core.Path.{◌≡◌, ap, ap₂}
use Prim.Native.Nat.{ℕ, suc, ◌+◌, ◌*◌, ◌-◌, ◌<◌, ◌≤◌}
use native.Mathlib.Nat.{mul-le-mul}
use native.Mathlib.Numerals.{add-one}
use native.Mathlib.Omega.{arith}
use Rattle.optimum.specs.Strips.{Point, Strip}
use Rattle.optimum.specs.OneSided.{mark_count}
use Rattle.optimum.proofs.Marks.{some-mark}
use Rattle.optimum.proofs.Levels.{pack-lt}
use Rattle.sheet.specs.Limits.{most_slots, most_colours, most_budgets, most_rows, most_level, most_ends}
use Rattle.rows.specs.Rows.{row_of, rows_of, Lies, marked_by, upper_part, lower_part}

pub row_low : (m C : ℕ) (p : Strip) → Lies m C p → row_of m C p < rows_of m C
row_low m C p r =
    pack-lt _ p.d _ mark_count (pack-lt _ p.cb _ (C + 1) (pack-lt _ p.b _ (m + 2) (pack-lt p.a p.ca (m + 2) (C + 1) r.a_low r.ca_low) r.b_low) r.cb_low) r.d_low

-- the products stay small
bounded : (x y X B : ℕ) → x ≤ X → y ≤ B → x * y ≤ X * B
bounded x y X B h k = mul-le-mul {n₂ = X} {m₂ = B} h k

-- the strips of the largest sheet, a row each mark
marked-few : (x : ℕ) → x ≤ most_ends * most_ends → x * mark_count ≤ most_rows
unfolding mark_count
marked-few x h = omega arith

pub rows_few : (m C : ℕ) → m ≤ most_slots → C ≤ most_colours → rows_of m C ≤ most_rows
rows_few m C hm hc =
    let a : (m + 2) * (C + 1) ≤ most_ends = bounded (m + 2) (C + 1) (most_slots + 2) (most_colours + 1) (omega arith) (omega arith) in
    let b : (m + 2) * (C + 1) * (m + 2) ≤ most_ends * (most_slots + 2) = bounded _ (m + 2) most_ends (most_slots + 2) a (omega arith) in
    marked-few _ (bounded _ (C + 1) (most_ends * (most_slots + 2)) (most_colours + 1) b (omega arith))

pub record Sized (m C n : ℕ) (p : Strip) : Type 0 where
  pub first : p.a * (C + 1) ≤ most_ends
  pub second : (p.a * (C + 1) + p.ca) * (m + 2) ≤ most_ends * (most_slots + 2)
  pub third : ((p.a * (C + 1) + p.ca) * (m + 2) + p.b) * (C + 1) ≤ most_ends * most_ends
  pub fourth : (((p.a * (C + 1) + p.ca) * (m + 2) + p.b) * (C + 1) + p.cb) * mark_count ≤ most_rows
  pub place : row_of m C p * n ≤ most_level

pub sized : (m C n : ℕ) (p : Strip) → m ≤ most_slots → C ≤ most_colours → n ≤ most_budgets → Lies m C p → Sized m C n p
sized m C n p hm hc hn r =
    let one : p.a * (C + 1) + p.ca < (m + 2) * (C + 1) = pack-lt p.a p.ca (m + 2) (C + 1) r.a_low r.ca_low in
    let a : (m + 2) * (C + 1) ≤ most_ends = bounded (m + 2) (C + 1) (most_slots + 2) (most_colours + 1) (omega arith) (omega arith) in
    let two : (p.a * (C + 1) + p.ca) * (m + 2) + p.b < (m + 2) * (C + 1) * (m + 2) = pack-lt _ p.b _ (m + 2) one r.b_low in
    let b : (m + 2) * (C + 1) * (m + 2) ≤ most_ends * (most_slots + 2) = bounded _ (m + 2) most_ends (most_slots + 2) a (omega arith) in
    let three : ((p.a * (C + 1) + p.ca) * (m + 2) + p.b) * (C + 1) + p.cb < (m + 2) * (C + 1) * (m + 2) * (C + 1) = pack-lt _ p.cb _ (C + 1) two r.cb_low in
    let c : (m + 2) * (C + 1) * (m + 2) * (C + 1) ≤ most_ends * most_ends = bounded _ (C + 1) (most_ends * (most_slots + 2)) (most_colours + 1) b (omega arith) in
    let four : row_of m C p < rows_of m C = row_low m C p r in
    record {
      first = omega arith;
      second = omega arith;
      third = omega arith;
      fourth = omega (arith, rows_few m C hm hc);
      place = bounded (row_of m C p) n most_rows most_budgets (omega (arith, rows_few m C hm hc)) hn;
    }

-- a row's words stand in its level
pub row_fits : (m C n : ℕ) (p : Strip) → Lies m C p → row_of m C p * n + n ≤ rows_of m C * n
row_fits m C n p r =
    within (row_of m C p) (rows_of m C) (row_low m C p r)
  where
    within : (a b : ℕ) → a < b → a * n + n ≤ b * n
    within a b h = let e : b ≡ suc a + (b - suc a) = omega arith in omega (arith, ap (λ (z : ℕ). z * n) e)

-- the parts that a label at slot k leaves of a strip
pub upper_is : (d : ℕ) (p : Strip) (s : Point) (k : ℕ) → upper_part d p s k ≡ record { a = p.a; ca = p.ca; b = suc k; cb = suc s.c; d = d }
upper_is d p s k = ap₂ (λ (b cb : ℕ). record { a = p.a; ca = p.ca; b = b; cb = cb; d = d }) (add-one k) (add-one s.c)

pub lower-is : (p : Strip) (s : Point) (k : ℕ) → lower_part p s k ≡ record { a = suc k; ca = suc s.c; b = p.b; cb = p.cb; d = 0 }
lower-is p s k = ap₂ (λ (a ca : ℕ). record { a = a; ca = ca; b = p.b; cb = p.cb; d = 0 }) (add-one k) (add-one s.c)

pub upper-lies : (m C d : ℕ) (p : Strip) (s : Point) (k : ℕ) → Lies m C p → s.c < C → k + 1 < p.b → d < mark_count → Lies m C (upper_part d p s k)
upper-lies m C d p s k r c h l = record { a_low = r.a_low; ca_low = r.ca_low; b_low = omega (arith, r.b_low); cb_low = omega arith; d_low = l }

pub lower-lies : (m C : ℕ) (p : Strip) (s : Point) (k : ℕ) → Lies m C p → s.c < C → k + 1 < p.b → Lies m C (lower_part p s k)
lower-lies m C p s k r c h = record { a_low = omega (arith, r.b_low); ca_low = omega arith; b_low = r.b_low; cb_low = r.cb_low; d_low = some-mark }

-- a strip with another mark
pub marked-lies : (m C d : ℕ) (p : Strip) → Lies m C p → d < mark_count → Lies m C (marked_by d p)
marked-lies m C d p r l = record { a_low = r.a_low; ca_low = r.ca_low; b_low = r.b_low; cb_low = r.cb_low; d_low = l }
