-- The answer of the write, then the buffer.
use Rattle.text_out.proofs.PutLaws.{then}
use Rattle.answer_text.proofs.written.Goals.{in-Ok, in-Err}
use Rattle.answer_text.proofs.written.Goals as goal

pub returns : goal.returns
returns c = elim c.match-w.branch [
  | in-Ok w ↦ rw w.in-Ok.is (then w.accepted-behind.ensures (rw (w.out-is, w.behind-is) at c.spelled.ensures))
  | in-Err w ↦ rw w.in-Err.is (then w.refused-behind.ensures (rw (w.out-is, w.behind-is) at c.spelled.ensures))
]
