-- The digits that are put are those that the array begins with, and they are the number's.
use mathlib.Core.Path.{◌≡◌, ◌∙◌}
use Rattle.text_out.specs.Digits.{decimal}
use Rattle.text_out.proofs.DecimalLaws.{fewest-decimal}
use Rattle.text_out.proofs.put_number.Goals as goal

pub returns : goal.returns
returns c =
    let n : _ ≡ decimal c.args.n = c.decimal-k.ensures.digits ∙ fewest-decimal _ _ c.decimal-k.ensures.len in
    rw (← n) c.put.ensures
