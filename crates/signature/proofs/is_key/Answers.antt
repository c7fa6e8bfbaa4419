-- Of the basic types only Boolean is no key.
use mathlib.Core.Path.{◌∙◌, sym}
use native.Mathlib.Omega.{arith}
use borrow.Author.Tests.{eq-eqb}
use Rattle.signature.proofs.CodeLaws.{key-basic, key-bool}
use Rattle.signature.proofs.is_key.Goals as goal

pub returns-then-c-ne98 : goal.returns-then-c-ne98
returns-then-c-ne98 c = c.is_basic.ensures ∙ key-basic c.args.c (omega arith) c.if-c-ne98.true

pub returns-else-c-ne98 : goal.returns-else-c-ne98
returns-else-c-ne98 c = simp (eq-eqb c.args.c 98 c.if-c-ne98.false) (sym (key-bool _ c.if-c-ne98.false))
