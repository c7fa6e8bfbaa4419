-- The length, the byte order, then the numbers.
use Rattle.text_out.proofs.PutLaws.{then}
use Rattle.answer_text.proofs.header_text.head.Goals as goal

pub returns : goal.returns
returns c = then c.labelled-behind.ensures (then c.mark-past.ensures c.numbers.ensures)
