-- The test is that of the definition.
use mathlib.Core.Path.{refl}
use borrow.Author.Tests.{ne_eqb}
use Rattle.text.proofs.strings.terminated.Goals as goal

pub returns-then-buf-stop-eq0 : goal.returns-then-buf-stop-eq0
returns-then-buf-stop-eq0 c = rw c.if-buf-stop-eq0.true refl

pub returns-else-buf-stop-eq0 : goal.returns-else-buf-stop-eq0
returns-else-buf-stop-eq0 c = rw (ne_eqb _ _ c.if-buf-stop-eq0.false, c.refuse.ensures)
