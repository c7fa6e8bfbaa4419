-- What the stack amounts to is read off the height, the flag and the count.
use mathlib.Core.Path.{ap, sym, ◌∙◌}
use Rattle.std.specs.Prelude.{Err}
use Rattle.signature.proofs.RunLaws.{end-open, end-fine, end-deep}
use Rattle.signature.proofs.finished.Goals as goal

pub returns-then-state-ne0 : goal.returns-then-state-ne0
returns-then-state-ne0 c = λ k m f. ap Err c.refuse.ensures ∙ sym (end-open k f c.if-state-ne0.true)

pub returns-then-state : goal.returns-then-state
returns-then-state c = λ k m f. sym (end-fine k f c.if-state-ne0.false c.if-state.true)

pub returns-else-state : goal.returns-else-state
returns-else-state c = λ k m f. ap Err c.refuse-else-state.ensures ∙ sym (end-deep k f c.if-state-ne0.false c.if-state.false)
