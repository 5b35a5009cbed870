-- Radix by radix. Assumes nothing.
use mathlib.Core.Path.{◌≡◌}
use mathlib.Core.Bool.{◌&&◌}
use mathlib.Core.List.{List}
use Prim.Native.Nat.{ℕ, ◌+◌, ◌/◌, ◌%◌, ◌<◌}
use native.Mathlib.Numerals.{add-one}
use lib.Dec.{leb}
use lib.ListN.{length, get_or, drop}
use lib.Seq.{drop-cons}
use Rattle.search.specs.Radix.{below}

pub below_step : (rs : List ℕ) (i a b : ℕ) → i < length rs
    → below (drop i rs) a b ≡ leb (a % get_or rs i 0) (b % get_or rs i 0) && below (drop (i + 1) rs) (a / get_or rs i 0) (b / get_or rs i 0)
unfolding below
below_step rs i a b h = rw (add-one, drop-cons rs i 0)
