-- What a tool gives that writes into an area. Assumes nothing: these are definitions.
use Rattle.std.specs.Prelude.{cond, ℕ, eqb, Result, Ok, Err}
use Rattle.faults.specs.declared.refusal.Refusal.{Refusal}
use Rattle.faults.specs.declared.written.Written.{Written}
use Rattle.faults.specs.Refusals.{number_of}

-- its refusal, or 0; and how many places it wrote. Document 02 leaves free what stands beside a refusal: 0
abbrev pub written_post : (fault size : ℕ) → Written
written_post f n = record { refusal = f; written = cond (eqb f 0) n 0 }

-- the same from how many places it wrote, or from its refusal
abbrev pub written_of : Result ℕ Refusal → Written
written_of (Ok n) = record { refusal = 0; written = n }
written_of (Err r) = record { refusal = number_of r; written = 0 }
