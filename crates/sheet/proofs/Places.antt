-- The parts of a sheet at a place of its words: what the word there adds to the list read from there on. Assumes nothing.
use mathlib.Core.Path.{◌≡◌}
use mathlib.Core.Bool.{cond}
use mathlib.Core.List.{List}
use Prim.Native.Nat.{ℕ, suc, ◌+◌, ◌<◌}
use lib.Dec.{eqb}
use lib.ListN.{length, get_or, drop}
use borrow.Author.Tests.{eq-eqb, ne_eqb}
use Rattle.lists.proofs.Places.{at}
use Rattle.sheet.specs.Sheet.{kind_of, sites_run}
use Rattle.sheet.specs.Words.{count_kind}

module _ (s : List ℕ) (i : ℕ) (h : i < length s) where
  pub count_at : (k : ℕ) → count_kind k (drop i s) ≡ cond (eqb (kind_of (get_or s i 0)) k) 1 0 + count_kind k (drop (i + 1) s)
  unfolding count_kind
  count_at k = rw (at s i h)

  -- a colour's sites
  pub run-yes : kind_of (get_or s i 0) ≡ 4 → sites_run (drop i s) ≡ suc (sites_run (drop (i + 1) s))
  unfolding sites_run
  run-yes k = rw (at s i h, eq-eqb (kind_of (get_or s i 0)) 4 k)

  pub run-no : (kind_of (get_or s i 0) ≡ 4 → ⊥) → sites_run (drop i s) ≡ 0
  unfolding sites_run
  run-no k = rw (at s i h, ne_eqb (kind_of (get_or s i 0)) 4 k)
