-- One word.
use Rattle.answer_text.proofs.bad.Goals as goal

pub returns : goal.returns
returns c = c.put.ensures
