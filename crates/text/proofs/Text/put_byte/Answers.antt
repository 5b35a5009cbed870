use Rattle.text.specs.Text.{written}
use Rattle.text.proofs.Written.{written_out}
use mathlib.Core.Path.{refl, sym}
use native.Mathlib.Omega.{arith}
use Rattle.text.proofs.Text.put_byte.Goals as goal

pub returns-then-past-area : goal.returns-then-past-area
unfolding written
returns-then-past-area c = record { same = refl; past = omega arith; area = refl }

pub returns-else-past-area : goal.returns-else-past-area
returns-else-past-area c = record { same = refl; past = omega arith; area = sym (written_out _ _ _ c.if-past-area.false) }
