use mathlib.Core.Path.{refl}
use Rattle.demands.proofs.Demands.{served-by-reader}
use Rattle.cabi.proofs.backbone_read.Goals as goal

pub returns-clause-served_by_reader : goal.returns-clause-served_by_reader
returns-clause-served_by_reader c = let r = c.read_sheet in served-by-reader c.args.sheet.now r.result c.args.sheet.now (r.ensures, refl)
