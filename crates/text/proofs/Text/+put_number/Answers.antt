use Rattle.text.proofs.Right.{number-one, number_more}
use Rattle.text.proofs.Text.+put_number.Goals as goal
use Rattle.text.proofs.Text.+put_number.Goals.{then-n-lt10, else-n-lt10}

pub returns : goal.returns
returns t c =
    let last = rw c.last_digit.ensures at c.put_byte.ensures in
    elim c.if-n-lt10.branch [
      | then-n-lt10 w ↦ number-one _ _ _ w.if-n-lt10.true (rw (c.saturating_sub-rest.ensures, ← w.self-is) at w.put_right.ensures) last
      | else-n-lt10 w ↦ number_more _ _ _ w.if-n-lt10.false (rw (c.saturating_sub-rest.ensures, ← w.self-is) at w.put_number.ensures) last
    ]
