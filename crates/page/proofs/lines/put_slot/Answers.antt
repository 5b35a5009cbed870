use mathlib.Core.Path.{sym, ◌∙◌}
use Rattle.text.proofs.Puts.{puts-none}
use Rattle.page.proofs.lines.put_slot.Goals as goal

pub returns-else-is_used : goal.returns-else-is_used
returns-else-is_used c = rw (sym c.is_used.ensures ∙ c.if-is_used.false) (puts-none _)
