-- Eight bytes have sixteen digits.
use Rattle.answer_text.proofs.fixed_text.Numbers.{sixteen}
use Rattle.answer_text.proofs.fixed_text.bits.Goals as goal

pub returns : goal.returns
returns c = rw (← sixteen c.args.n) (rw c.to_be_bytes.ensures at c.spelled.ensures)
