-- The head, then the fields.
use Rattle.text_out.proofs.PutLaws.{then}
use Rattle.answer_text.proofs.header_text.whole.Goals as goal

pub returns : goal.returns
returns c = then c.head-behind.ensures c.entries.ensures
