-- `refusal_5::all_inside` meets its contract.
use mathlib.Core.Path.{refl}
use Rattle.std.proofs.Common.{rules}
use Rattle.std.proofs.lemmas.List.Recursion.{and_is}
use Rattle.refusals.specs.Wordwise.{width_ok, all_inside}
use Rattle.reader.proofs.Wordwise.{inside}
use Rattle.reader.proofs.refusal_5.all_inside.Goals as goal

pub returns : goal.returns
unfolding all_inside
returns c =
    let a = c.args in
    rw (inside a.width 0 a.body.now) (and_is (all_inside a.width) (width_ok a.width) refl (λ _ _. refl) a.body.now 0 _ (search rules) (search rules))
