-- Clearing marks leaves what lies past them. Assumes nothing.
use mathlib.Core.Path.{◌≡◌, refl, ◌∙◌}
use mathlib.Core.List.{List}
use Prim.Native.Nat.{ℕ, ◌+◌, ◌<◌, ◌≤◌}
use native.Mathlib.Omega.{arith}
use lib.ListN.{set}
use lib.Seq.{get_or-set_other}
use Rattle.optimum.proofs.Marks.{some-mark}
use Rattle.rows.specs.Rows.{Lies}
use Rattle.marks.specs.Marks.{KeptFrom}

pub kept-none : (n : ℕ) (w : List ℕ) → KeptFrom n w w
kept-none n w = record { kept = λ i h. refl }

pub kept_more : {n k : ℕ} {a b c : List ℕ} → KeptFrom n a b → k ≤ n → KeptFrom k b c → KeptFrom n a c
kept_more f h g = record { kept = λ i l. g.kept i (omega arith) ∙ f.kept i l }

pub kept_less : {n k : ℕ} {a b : List ℕ} → k ≤ n → KeptFrom k a b → KeptFrom n a b
kept_less h f = record { kept = λ i l. f.kept i (omega arith) }

pub kept_set : {n : ℕ} {a : List ℕ} (w : List ℕ) (at v : ℕ) → at < n → KeptFrom n a w → KeptFrom n a (set w at v)
kept_set w at v h f = record { kept = λ i l. get_or-set_other w at i v 0 (λ (e : i ≡ at). omega arith) ∙ f.kept i l }

-- the last of the strips below an upper end
pub last-lies : (m C a ca : ℕ) → a ≤ m → ca ≤ C → Lies m C (record { a = a; ca = ca; b = m + 1; cb = C; d = 0 })
last-lies m C a ca h k = record { a_low = omega arith; ca_low = omega arith; b_low = omega arith; cb_low = omega arith; d_low = some-mark }
