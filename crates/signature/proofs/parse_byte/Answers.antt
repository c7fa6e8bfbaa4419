-- A byte is a signature by itself if it is the variant's code or a basic type's.
use mathlib.Core.Path.{ap, sym, ◌∙◌}
use native.Mathlib.Omega.{arith}
use borrow.Author.Tests.{eq-eqb}
use Rattle.std.specs.Prelude.{Err}
use Rattle.std.proofs.lemmas.Bool.{false≢true}
use Rattle.signature.proofs.RunLaws.{alone-variant, alone-basic, alone-none}
use Rattle.signature.proofs.parse_byte.Goals as goal
use Rattle.signature.proofs.parse_byte.Goals.{then-c-eq118, else-c-eq118}

pub returns-then-is_basic : goal.returns-then-is_basic
returns-then-is_basic c =
    elim c.if-c-eq118.branch [
      | then-c-eq118 w ↦ sym (alone-variant _ (omega arith) w.if-c-eq118.true)
      | else-c-eq118 w ↦ sym (alone-basic _ (omega arith) (sym w.is_basic.ensures ∙ sym w.value-is ∙ c.if-is_basic.true))
    ]

pub returns-else-is_basic : goal.returns-else-is_basic
returns-else-is_basic c =
    elim c.if-c-eq118.branch [
      | then-c-eq118 w ↦ absurd (false≢true (sym c.if-is_basic.false ∙ w.value-is ∙ eq-eqb _ 118 w.if-c-eq118.true))
      | else-c-eq118 w ↦
          ap Err c.refuse.ensures ∙ sym (alone-none _ (omega arith) w.if-c-eq118.false (sym w.is_basic.ensures ∙ sym w.value-is ∙ c.if-is_basic.false))
    ]
