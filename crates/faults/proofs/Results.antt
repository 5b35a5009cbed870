-- What a tool gives with a refusal and without. Assumes nothing.
use mathlib.Core.Path.{◌≡◌, refl, ap, ◌∙◌}
use Prim.Native.Nat.{ℕ}
use native.Mathlib.Omega.{arith}
use borrow.Author.Tests.{eq-eqb, ne_eqb}
use Rattle.std.specs.Prelude.{Ok, Err}
use Rattle.faults.specs.declared.refusal.Refusal.{Refusal}
use Rattle.faults.specs.declared.written.Written.{Written}
use Rattle.faults.specs.Refusals.{number_of}
use Rattle.faults.specs.Results.{written_post, written_of}
use Rattle.faults.proofs.Refusals.{number-above}

pub post-refused : (f n : ℕ) (r : Refusal) → number_of r ≡ f → written_of (Err r) ≡ written_post f n
post-refused f n r e = ap (λ (z : ℕ). let w : Written = record { refusal = z; written = 0 } in w) e ∙ rw (ne_eqb f 0 (λ q. omega (arith, number-above r, e, q))) refl

pub post-written : (f n w : ℕ) → f ≡ 0 → w ≡ n → written_of (Ok w) ≡ written_post f n
post-written f n w z e = rw (eq-eqb f 0 z, z, e) refl
