-- Any bits are a value, so only the length is tested.
use native.Mathlib.Omega.{arith}
use Rattle.basic.proofs.BaseLaws.{number_short, number_read}
use Rattle.basic.proofs.fixed.Goals as goal

pub returns-then-buf-off : goal.returns-then-buf-off
returns-then-buf-off c = λ o k a z. number_short o k _ _ _ _ z (omega arith) c.refuse.ensures

pub returns-else-buf-off : goal.returns-else-buf-off
returns-else-buf-off c = λ o k a z. number_read o k _ _ _ z (omega arith) (a _)
