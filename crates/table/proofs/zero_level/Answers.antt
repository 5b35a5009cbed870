-- `table::zero_level` meets its contract.
use Rattle.table.proofs.Filling.{zero_row}
use Rattle.entries.specs.Entries.{RowIs}
use mathlib.Core.Path.{subst⁻¹}
use Rattle.table.proofs.zero_level.Goals as goal

pub returns : goal.returns
returns c =
    let a = c.args in
    subst⁻¹ (RowIs a.base a.size (λ i. 0) a.work.now) c.zero_part.ensures (zero_row a.base a.size a.work.now c.requires)
