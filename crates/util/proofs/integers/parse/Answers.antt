-- The tests are those of `read_integer`, in its order, at every width.
use Rattle.util.proofs.integers.Integers.{outside, too_few, is_read}
use Rattle.util.proofs.integers.parse.Goals as goal

pub returns-then-buf-at : goal.returns-then-buf-at
returns-then-buf-at c = outside _ _ _ _ c.if-buf-at.true _ c.refuse.ensures

pub returns-then-buf-at-2 : goal.returns-then-buf-at-2
returns-then-buf-at-2 c = too_few _ _ _ _ c.if-buf-at.false c.if-buf-at-2.true _ c.refuse-then-buf-at-2.ensures

pub returns : goal.returns
returns c = is_read _ _ _ _ c.if-buf-at.false c.if-buf-at-2.false _ c.load.ensures
