-- The check, handed out.
use mathlib.Core.Path.{ap, ◌∙◌}
use Rattle.structs.specs.Answers.{answer_of}
use borrow.Author.Rules.{rules}
use Rattle.millettie.proofs.mt_check_message.Goals as goal

pub returns : goal.returns
returns c = c.of_checked.ensures ∙ ap answer_of c.check_message.ensures
