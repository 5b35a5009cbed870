-- `refusal_2::in_order` meets its contract.
use mathlib.Core.Path.{◌≡◌}
use lib.ListN.{drop}
use Rattle.sheet.specs.Sheet.{in_order}
use Rattle.forms.specs.Stages.{stage_number}
use Rattle.reader.proofs.refusal_2.in_order.Given as goal

abbrev pub invariant-loop-w : goal.invariant-loop-w
invariant-loop-w l = in_order 0 l.body ≡ in_order (stage_number l.stage) (drop l.w-index l.body)
