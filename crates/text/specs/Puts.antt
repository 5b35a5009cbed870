-- What it is to put bytes into a text. Assumes nothing: these are definitions.
use Rattle.std.specs.Prelude.{◌≡◌, List, ℕ}
use Rattle.text.specs.declared.Text.{Text}
use Rattle.text.specs.Text.{written, past_of}

-- the text afterwards has the same area, with the bytes in it from the place on that the text had, and goes on past them
pub record Puts (before after : Text) (bytes : List ℕ) : Type 0 where
  pub same : after.area.ghost_name ≡ before.area.ghost_name
  pub past : after.past ≡ past_of before.area.now before.past bytes
  pub area : after.area.now ≡ written before.area.now before.past bytes
