-- `reader::read_sheet` meets its contract.
use mathlib.Core.Path.{◌∙◌}
use Rattle.reader.proofs.Opening.{accepted-sizes}
use Rattle.reader.proofs.read_sheet.Goals as goal

pub returns-in-Ok : goal.returns-in-Ok
returns-in-Ok c = c.sizes_of.ensures ∙ accepted-sizes c.args.sheet.now c.in-Ok.numbers c.in-Ok.ensures
