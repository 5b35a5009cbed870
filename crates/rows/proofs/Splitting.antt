-- Splitting a budget by the lists costs what splitting it in any way does. Assumes nothing.
use mathlib.Core.Path.{◌≡◌}
use mathlib.Core.Bool.{true}
use mathlib.Core.List.{List}
use mathlib.Core.Logic.{∥∥₁_elim}
use Rattle.std.proofs.Math.Bridge.{le_prop}
use Prim.Native.Nat.{ℕ, ◌-◌, ◌<◌, ◌≤◌}
use native.Mathlib.Nat.{le_antisymm}
use native.Mathlib.Omega.{arith}
use lib.ListN.{get_or}
use Rattle.search.specs.Cost.{plus}
use Rattle.search.proofs.Cost.{least-le, least-le-top, least-most}
use Rattle.search.specs.Split.{conv}
use Rattle.search.proofs.Split.{conv-le-top, conv-low, conv-most}
use Rattle.search.specs.Radix.{below}
use Rattle.search.proofs.Radix.{below-splits}
use Rattle.optimum.specs.OneSided.{top_word}
use Rattle.rows.specs.Budgets.{SplitsOf, part_at, split_by}

pub split-by : (rs : List ℕ) (P : ℕ) (parts counts : List ℕ) → SplitsOf rs P parts counts → (f g : ℕ → ℕ) (u : ℕ) → u < P
    → split_by parts counts f g u ≡ conv top_word (below rs) f g u
split-by rs P parts counts s f g u h =
    le_antisymm
    (conv-most top_word (below rs) (below-splits rs) f g u _ (least-le-top top_word _ _) (λ w e. listed w e))
    (least-most top_word _ _ _ (conv-le-top top_word (below rs) (below-splits rs) f g u) (λ i l. conv-low top_word (below rs) (below-splits rs) f g u (part_at parts u i) ((s.listed u h).sound i l)))
  where
    listed : (w : ℕ) → below rs w u ≡ true → split_by parts counts f g u ≤ plus top_word (f w) (g (u - w))
    listed w e =
        ∥∥₁_elim ((s.listed u h).whole w (omega (arith, (below-splits rs).fits w u e)) e) le_prop
        (λ q. rw q.2 at (least-le top_word (get_or counts u 0) (λ i. plus top_word (f (part_at parts u i)) (g (u - part_at parts u i))) q.0 q.1))
