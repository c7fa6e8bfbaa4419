-- The length is tested, and then whether the number is 0 or 1.
use native.Mathlib.Omega.{arith}
use mathlib.Core.Path.{refl, subst}
use Prim.Native.Nat.{ℕ, ◌<◌, ◌≤◌}
use lib.Dec.{lt→ltb}
use borrow.Author.Tests.{le-ltb}
use Rattle.meaning.specs.Types.{bool}
use Rattle.basic.proofs.BaseLaws.{number_short, number_read, number-wrong}
use Rattle.basic.proofs.boolean.Goals as goal

pub returns-then-buf-off-lt4 : goal.returns-then-buf-off-lt4
returns-then-buf-off-lt4 c = number_short _ bool _ _ 4 _ refl (omega arith) c.refuse.ensures

pub returns-then-load32-lt2 : goal.returns-then-load32-lt2
returns-then-load32-lt2 c =
    number_read _ bool _ _ 4 refl (omega arith)
    (lt→ltb _ 2 (subst (λ (n : ℕ). n < 2) c.load32.ensures.is c.if-load32-lt2.true))

pub returns-else-load32-lt2 : goal.returns-else-load32-lt2
returns-else-load32-lt2 c =
    number-wrong _ bool _ _ 4 refl (omega arith) _
    (le-ltb _ 2 (subst (λ (n : ℕ). 2 ≤ n) c.load32.ensures.is c.if-load32-lt2.false)) c.refuse-else-load32-lt2.ensures
