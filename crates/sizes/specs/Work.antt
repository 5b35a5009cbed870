-- The number of work words, by numbers alone. Assumes nothing: this is a definition.
use Rattle.std.specs.Prelude.{Bool, cond, ℕ, ◌+◌, ◌*◌, ◌^◌}

-- the work words by side, m, C, n and P: `work_for` of the sheet that has them
abbrev pub work_of : (is_two_sided : Bool) → (m c n p : ℕ) → ℕ
work_of t m c n p = cond t ((m + 2) * (c + 1) * p) ((m + 2) ^ 2 * (c + 1) ^ 2 * (n + 1) * p)
