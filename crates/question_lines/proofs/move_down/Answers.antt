-- What the library's copy leaves is what is promised.
use Rattle.std.proofs.Common.{◌∙◌}
use Rattle.question_lines.proofs.Laws.{moved}
use Rattle.question_lines.proofs.move_down.Goals as goal

pub returns : goal.returns
returns c =
    let a = c.args in
    c.copy_within.ensures.after ∙ moved a.s.now a.from a.to c.requires.0 c.requires.1
