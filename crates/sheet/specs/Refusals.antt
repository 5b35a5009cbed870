-- Refusals in their order, for every operation: each a test that must pass and the number that is given where it does not. An operation
-- has one list of them; its refusal is the first whose test fails. Assumes nothing: these are definitions.
use Rattle.std.specs.Prelude.{◌≡◌, Bool, true, ◌&&◌, cond, List, [], ◌∷◌, ℕ, ltb, leb}

pub record Refusal : Type 0 where
  pub passes : Bool
  pub number : ℕ

-- the number is given unless the test passes
abbrev pub unless : (passes : Bool) → (number : ℕ) → Refusal
unless b n = record { passes = b; number = n }

-- THE REFUSAL: the number of the first whose test fails, or 0
unfoldable pub given : List Refusal → ℕ
given [] = 0
given (r ∷ rs) = cond r.passes (given rs) r.number

-- every test passes
unfoldable pub AllPass : List Refusal → Type 0
AllPass [] = Unit
AllPass (r ∷ rs) = (r.passes ≡ true) × AllPass rs

-- every number is a refusal's: not 0, and at most this one
unfoldable pub numbered_to : (top : ℕ) → List Refusal → Bool
numbered_to m [] = true
numbered_to m (r ∷ rs) = (ltb 0 r.number && leb r.number m) && numbered_to m rs
