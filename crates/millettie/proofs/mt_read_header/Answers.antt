-- The header, or the refusal, handed out.
use mathlib.Core.Path.{ap, ◌∙◌}
use Rattle.structs.specs.Answers.{read_of}
use borrow.Author.Rules.{rules}
use Rattle.millettie.proofs.mt_read_header.Goals as goal

pub returns : goal.returns
returns c = c.of_read.ensures ∙ ap read_of c.unmarshal_header.ensures
