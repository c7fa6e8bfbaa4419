-- The word, then the number's sign and its distance from zero.
use mir.Facts.{to_z-of_z}
use Rattle.text_out.proofs.PutLaws.{then}
use Rattle.answer_text.proofs.fixed_text.Numbers.{below, above}
use Rattle.answer_text.proofs.fixed_text.signed.Goals as goal

pub returns-then-n-lt0 : goal.returns-then-n-lt0
returns-then-n-lt0 c =
    let same = to_z-of_z c.ranges.n in
    let far = rw (c.unsigned_abs.ensures.value, same) at c.put_number.ensures in
    rw (below c.args.n (rw same at c.if-n-lt0.true)) (then c.put-behind.ensures (then c.put-past.ensures far))

pub returns-else-n-lt0 : goal.returns-else-n-lt0
returns-else-n-lt0 c =
    let same = to_z-of_z c.ranges.n in
    let far = rw (c.unsigned_abs-else-n-lt0.ensures.value, same) at c.put_number-else-n-lt0.ensures in
    rw (above c.args.n (rw same at c.if-n-lt0.false)) (then c.put-behind.ensures far)
