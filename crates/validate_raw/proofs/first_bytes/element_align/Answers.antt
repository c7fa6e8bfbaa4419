-- Entries are aligned as structs are; for the rest the table says it.
use mathlib.Core.Path.{◌∙◌}
use borrow.Author.Tests.{eq-eqb}
use Rattle.std.proofs.Common.{rules, tests}
use Rattle.types.proofs.CodeLaws.{align-struct}
use Rattle.validate_raw.specs.FirstBytes.{element_align}
use Rattle.validate_raw.proofs.first_bytes.element_align.Goals as goal

pub returns-in-123 : goal.returns-in-123
unfolding element_align
returns-in-123 c = c.align.ensures ∙ align-struct ∙ simp (eq-eqb _ _ c.in-123.is)

pub returns-in_default : goal.returns-in_default
unfolding element_align
returns-in_default c = search (rules, tests)
