-- How many numbers a statement holds of. Assumes nothing: this is a definition. proofs/Number shows that there is one such n at most.
use Rattle.std.specs.Prelude.{◌≡◌, ℕ, ◌<◌}

-- n IS THE NUMBER of those k of which P holds: the places below n hold all of them, each once
pub record NumberOf (P : ℕ → Type 0) (n : ℕ) : Type 0 where
  pub at : (place : ℕ) → ℕ
  pub holds : (i : ℕ) → i < n → P (at i)
  pub once : (i j : ℕ) → i < n → j < n → at i ≡ at j → i ≡ j
  pub every : (k : ℕ) → P k → (i : ℕ) × (i < n) × (at i ≡ k)
