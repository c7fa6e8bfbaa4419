-- A word, then the bytes.
use Rattle.answer_text.proofs.text.Goals as goal

pub returns : goal.returns
returns c = c.spelled.ensures
