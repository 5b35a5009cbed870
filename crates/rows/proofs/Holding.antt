-- The loop that looks for the strip which holds a height. Assumes nothing.
use mathlib.Core.Path.{◌≡◌, sym, ap, ◌∙◌}
use mathlib.Core.Logic.{◌≢◌}
use mathlib.Core.List.{List}
use Prim.Native.Nat.{ℕ, suc, ◌+◌, ◌-◌, ◌<◌, ◌≤◌}
use native.Mathlib.Numerals.{add-one}
use native.Mathlib.Omega.{arith}
use lib.ListN.{get_or}
use borrow.Author.Tests.{ne_eqb, le-ltb, lt-ltb}
use Rattle.optimum.specs.Strips.{Instance, hold, hold_from}

-- from slot i on the strip is still to be found, and a is the last label passed, of colour ca
pub record Looking (P : Instance) (L M : List ℕ) (y a ca i : ℕ) : Type 0 where
  pub same : hold P L M y ≡ hold_from P (P.slots.m - i) i a ca L M y

pub looking-none : (P : Instance) (L M : List ℕ) (y : ℕ) → Looking P L M y 0 0 0
unfolding hold
looking-none P L M y = record { same = let e : P.slots.m ≡ P.slots.m - 0 = omega arith in ap (λ (r : ℕ). hold_from P r 0 0 0 L M y) e }

module _ {P : Instance} {L M : List ℕ} {y a ca i : ℕ} (f : Looking P L M y a ca i) where
  step : i < P.slots.m → hold P L M y ≡ hold_from P (suc (P.slots.m - (i + 1))) i a ca L M y
  step l = f.same ∙ ap (λ (r : ℕ). hold_from P r i a ca L M y) (omega arith)

  -- a slot without a label; a label above the height; one below it
  pub looking-skip : i < P.slots.m → get_or L i 0 ≡ 0 → Looking P L M y a ca (i + 1)
  unfolding hold_from
  looking-skip l e = record { same = step l ∙ rw (e, add-one i) }

  pub looking-past : i < P.slots.m → (get_or L i 0 ≢ 0) → P.slots.height i ≤ y → Looking P L M y (i + 1) (get_or L i 0) (i + 1)
  unfolding hold_from
  looking-past l n h = record { same = step l ∙ rw (ne_eqb (get_or L i 0) 0 n, le-ltb _ _ h, add-one i) }

  pub looking-here : i < P.slots.m → (get_or L i 0 ≢ 0) → y < P.slots.height i → record { a = a; ca = ca; b = i + 1; cb = get_or L i 0; d = get_or M a 0 } ≡ hold P L M y
  unfolding hold_from
  looking-here l n h = sym (step l ∙ rw (ne_eqb (get_or L i 0) 0 n, lt-ltb _ _ h, add-one i))

  pub looking-end : i ≡ P.slots.m → record { a = a; ca = ca; b = P.slots.m + 1; cb = 0; d = get_or M a 0 } ≡ hold P L M y
  unfolding hold_from
  looking-end l =
      let z : P.slots.m - i ≡ 0 = omega arith in
      sym (f.same ∙ rw z (rw (l, add-one P.slots.m)))
