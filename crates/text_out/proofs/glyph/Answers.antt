-- Each answer is that of the test.
use borrow.Author.Tests.{lt-ltb, le-ltb}
use Rattle.text_out.proofs.glyph.Goals as goal

pub returns-then-d-lt10 : goal.returns-then-d-lt10
returns-then-d-lt10 c =
    simp (lt-ltb _ 10 c.if-d-lt10.true)

pub returns-else-d-lt10 : goal.returns-else-d-lt10
returns-else-d-lt10 c =
    simp (le-ltb _ 10 c.if-d-lt10.false)
