-- The count, handed out.
use mathlib.Core.Path.{ap, ◌∙◌}
use Rattle.structs.specs.Answers.{count_of}
use borrow.Author.Rules.{rules}
use Rattle.millettie.proofs.mt_check_signature.Goals as goal

pub returns : goal.returns
returns c = c.of_counted.ensures ∙ ap count_of c.validate_signature.ensures
