-- A word, and behind it the bytes.
use Rattle.text_out.proofs.PutLaws.{then}
use Rattle.answer_text.proofs.spelled.Goals as goal

pub returns : goal.returns
returns c = then c.put-start.ensures c.put_bytes.ensures
