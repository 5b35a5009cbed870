-- One step of the loops that share a budget. Assumes nothing.
use mathlib.Core.Path.{◌≡◌, refl, sym, ap, ap₂, ◌∙◌}
use mathlib.Core.Logic.{◌≢◌}
use mathlib.Core.List.{List, ◌∷◌}
use Prim.Native.Nat.{ℕ, zero, suc, ◌+◌, ◌-◌, ◌≤◌, ◌<◌}
use native.Mathlib.Numerals.{add-one}
use native.Mathlib.Omega.{arith}
use lib.ListN.{length, get_or, set, take, replicate, length-set}
use lib.Seq.{ext_get_or, get_or-set_same, get_or-set_other}
use borrow.Author.Tests.{ne_eqb}
use Rattle.lists.proofs.Tests.{by_equal}
use Rattle.search.specs.Cost.{plus}
use Rattle.search.proofs.Cost.{least-cong}
use Rattle.optimum.specs.OneSided.{top_word}
use Rattle.search.specs.Split.{just}
use Rattle.search.specs.Sums.{listing}
use Rattle.search.proofs.Sums.{listing-first, length-listing}
use native.Mathlib.Nat.{mul-le-mul}
use Rattle.rows.specs.Rows.{Lies, level_size}
use Rattle.rows.proofs.Places.{row_fits, rows_few}
use Rattle.rows.specs.Budgets.{Within, part_at, split_by}
use Rattle.rows.specs.Rest.{split_row, row_start, LevelIn, join_row, fold_rows}
use Rattle.sheet.specs.Limits.{most_slots, most_colours, most_budgets, most_level, most_rows}

-- ---- a row joined from the highest budget down

-- from v on the new costs stand, below it the old ones
pub record Joined (parts counts old work : List ℕ) (row : ℕ) (acc : List ℕ) (v : ℕ) : Type 0 where
  pub long : length acc ≡ length old
  pub within : v ≤ length old
  pub kept : (k : ℕ) → k < v → get_or acc k 0 ≡ get_or old k 0
  pub done : (k : ℕ) → v ≤ k → k < length old → get_or acc k 0 ≡ split_row parts counts old work row k

pub joined-more : {parts counts old work : List ℕ} {row R : ℕ} {acc : List ℕ} {v u x : ℕ} → Joined parts counts old work row acc v → u + 1 ≡ v
    → Within R parts counts → length old ≤ R → x ≡ split_by parts counts (λ w. get_or acc (0 + w) 0) (λ w. get_or work (row + w) 0) u → Joined parts counts old work row (set acc u x) u
joined-more {parts} {counts} {old} {work} {row} {R} {acc} {v} {u} {x} j e i few h =
    record {
      long = length-set acc u x ∙ j.long;
      within = omega (arith, j.within);
      kept = λ k l. get_or-set_other acc u k x 0 (λ (q : k ≡ u). omega arith) ∙ j.kept k (omega arith);
      done = λ k l b. by_equal k u
          (λ q. rw q (get_or-set_same acc u x 0 (omega (arith, j.long, j.within)) ∙ h ∙ same))
          (λ q. get_or-set_other acc u k x 0 q ∙ j.done k (omega arith) b);
    }
  where
    same : split_by parts counts (λ w. get_or acc (0 + w) 0) (λ w. get_or work (row + w) 0) u ≡ split_row parts counts old work row u
    same =
        least-cong top_word (get_or counts u 0) _ _ (λ p l.
        let b = i.small u p (omega (arith, j.within, few)) l in
        ap (λ (z : ℕ). plus top_word z (get_or work (row + (u - part_at parts u p)) 0)) (ap (λ (z : ℕ). get_or acc z 0) (omega arith) ∙ j.kept (part_at parts u p) (omega arith)))

pub joined-all : {parts counts old work : List ℕ} {row : ℕ} {acc : List ℕ} → Joined parts counts old work row acc 0 → acc ≡ join_row parts counts old work row
unfolding join_row
joined-all {old = old} {acc = acc} j =
    ext_get_or 0 acc _ (j.long ∙ sym (length-listing _ 0 (length old))) (λ i l. let b : i < length old = omega (arith, j.long) in j.done i (omega arith) b ∙ sym (listing-first _ (length old) i b))

-- ---- where a strip's entries lie

pub join-long : (parts counts acc work : List ℕ) (row : ℕ) → length (join_row parts counts acc work row) ≡ length acc
unfolding join_row
join-long parts counts acc work row = length-listing _ 0 (length acc)

-- a level has few words
pub size : (m C R : ℕ) → m ≤ most_slots → C ≤ most_colours → R ≤ most_budgets → level_size m C R ≤ most_level
size m C R a b c = mul-le-mul {n₂ = most_rows} {m₂ = most_budgets} (rows_few m C a b) c

-- ---- the fold over the open labels

-- what is left to fold from slot i on is what was to fold at the start
pub record Folding (parts counts work : List ℕ) (base C R : ℕ) (L M start acc : List ℕ) (a ca i : ℕ) : Type 0 where
  pub long : length acc ≡ R
  pub passed : i ≤ length L
  pub above : a ≤ i
  pub colour : ca ≤ C
  pub same : fold_rows parts counts work base (length L) C R (length L) 0 0 0 L M start ≡ fold_rows parts counts work base (length L) C R (length L - i) i a ca L M acc

-- the strip from the last label passed to an end below it; its row lies in the level
module _ {parts counts work L M : List ℕ} {base C R : ℕ} (p : LevelIn work base C R L M) {start acc : List ℕ} {a ca i : ℕ} (f : Folding parts counts work base C R L M start acc a ca i) (b cb : ℕ) {d : ℕ} where
  pub strip_lies : b ≤ length L + 1 → cb ≤ C → d ≡ get_or M a 0 → Lies (length L) C (record { a = a; ca = ca; b = b; cb = cb; d = d })
  strip_lies h l e =
      record { a_low = omega (arith, f.above, f.passed); ca_low = omega (arith, f.colour); b_low = omega arith; cb_low = omega arith; d_low = rw e (p.marked a) }

  pub row_inside : {row : ℕ} → b ≤ length L + 1 → cb ≤ C → d ≡ get_or M a 0 → row ≡ row_start (length L) C R a ca b cb d → base + row + R ≤ length work
  row_inside h l e r = omega (arith, r, row_fits (length L) C R _ (strip_lies h l e), p.within)

module _ {parts counts work : List ℕ} {base C R : ℕ} {L M start acc : List ℕ} {a ca i : ℕ} (f : Folding parts counts work base C R L M start acc a ca i) where
  step : i < length L → fold_rows parts counts work base (length L) C R (length L - i) i a ca L M acc ≡ fold_rows parts counts work base (length L) C R (suc (length L - (i + 1))) i a ca L M acc
  step l = ap (λ (r : ℕ). fold_rows parts counts work base (length L) C R r i a ca L M acc) (omega arith)

  -- a slot without a label
  pub folding-skip : i < length L → get_or L i 0 ≡ 0 → Folding parts counts work base C R L M start acc a ca (i + 1)
  unfolding fold_rows
  folding-skip l e =
      record { long = f.long; passed = omega arith; above = omega (arith, f.above); colour = f.colour; same = f.same ∙ step l ∙ rw (e, add-one i) }

  -- a label: the strip above it takes its share
  pub folding-join : i < length L → (get_or L i 0 ≢ 0) → get_or L i 0 ≤ C
      → Folding parts counts work base C R L M start (join_row parts counts acc work (base + row_start (length L) C R a ca (i + 1) (get_or L i 0) (get_or M a 0))) (i + 1) (get_or L i 0) (i + 1)
  unfolding fold_rows
  folding-join l n h =
      record { long = join-long parts counts acc work _ ∙ f.long; passed = omega arith; above = omega arith; colour = h; same = f.same ∙ step l ∙ rw (ne_eqb (get_or L i 0) 0 n, add-one i) }

pub folding-all : {parts counts work : List ℕ} {base C R : ℕ} {L M start acc : List ℕ} {a ca i : ℕ} → Folding parts counts work base C R L M start acc a ca i → length L ≤ i
    → join_row parts counts acc work (base + row_start (length L) C R a ca (length L + 1) 0 (get_or M a 0)) ≡ fold_rows parts counts work base (length L) C R (length L) 0 0 0 L M start
unfolding fold_rows
folding-all {L = L} {i = i} f h =
    let e : i ≡ length L = omega (arith, f.passed) in
    let z : length L - i ≡ 0 = omega arith in
    sym (f.same ∙ rw z (rw (e, add-one (length L))))

-- ---- the row that takes nothing and costs nothing

tops : (k r n : ℕ) → r ≤ n → take r (replicate {A = ℕ} n top_word) ≡ listing (just top_word 0 0) (suc k) r
unfolding listing just
tops k zero n h = refl
tops k (suc r) zero h = absurd (omega arith)
tops k (suc r) (suc n) h =
    let e : top_word ≡ just top_word 0 0 (suc k) = rw (ne_eqb (suc k) 0 (λ (z : suc k ≡ 0). omega arith)) in
    ap₂ (λ (x : ℕ) (l : List ℕ). x ∷ l) e (tops (suc k) r n (omega arith))

pub start_is : (r n : ℕ) → r ≤ n → take r (set (replicate {A = ℕ} n top_word) 0 0) ≡ listing (just top_word 0 0) 0 r
unfolding listing just
start_is zero n h = refl
start_is (suc r) zero h = absurd (omega arith)
start_is (suc r) (suc n) h = ap (λ (l : List ℕ). 0 ∷ l) (tops 0 r n (omega arith))
