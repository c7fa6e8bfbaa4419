-- The bytes that a word gives lie in the buffer.
use Rattle.question_lines.proofs.Laws.{taken-counts}
use Rattle.answers.proofs.questions.spelled_mut.Goals as goal

pub slice_bounds-result-end : goal.slice_bounds-result-end
slice_bounds-result-end c =
    let b = c.bytes_of.ensures in
    (taken-counts _ _ _ _ _ b.value b.out_after c.in_ok-n.was).1
