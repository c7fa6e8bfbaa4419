-- One type stands between the length byte and the zero. The grammar's refusals become the field's own; those of the text are handed on.
use mathlib.Core.Path.{sym, ◌∙◌}
use native.Mathlib.Omega.{arith}
use Rattle.meaning.specs.declared.Order.TheVariants.{Little}
use Rattle.basic.proofs.spelled.SpellLaws.{spelt-within}
use Rattle.header.proofs.header_field.OneLaws.{one-stop, one-refused, one-other, one-read}
use Rattle.header.proofs.header_field.one_type.Goals as goal

pub overflow_sub-result : goal.overflow_sub-result
overflow_sub-result c =
    let spelt = sym c.in-Ok.is ∙ c.spelled_types.ensures Little in
    omega (arith, (spelt-within Little _ _ c.requires _ _ spelt).0)

pub overflow_sub-result-in-Ok : goal.overflow_sub-result-in-Ok
overflow_sub-result-in-Ok c =
    let spelt = sym c.in-Ok.is ∙ c.spelled_types.ensures Little in
    omega (arith, (spelt-within Little _ _ c.requires _ _ spelt).0)

pub returns-else-types-ne1 : goal.returns-else-types-ne1
returns-else-types-ne1 c = λ o. one-read o _ _ c.requires _ _ (sym c.in-Ok.is ∙ c.spelled_types.ensures o) c.if-types-ne1.false

pub returns-then-types-ne1 : goal.returns-then-types-ne1
returns-then-types-ne1 c = λ o.
    one-other o _ _ c.requires _ _ _ (sym c.in-Ok.is ∙ c.spelled_types.ensures o) c.if-types-ne1.true c.refuse.ensures

pub returns-in-Err-Grammar : goal.returns-in-Err-Grammar
returns-in-Err-Grammar c = λ o.
    let is = rw c.in-Err-Grammar.field-0-is at c.in-Err-Grammar.is in
    one-refused o _ _ c.requires _ _ (sym is ∙ c.spelled_types.ensures o) c.refuse-in-Err-Grammar.ensures

pub returns-in-Err-Text : goal.returns-in-Err-Text
returns-in-Err-Text c = λ o.
    let is = rw c.in-Err-Text.field-0-is at c.in-Err-Text.is in
    one-stop o _ _ c.requires _ (sym is ∙ c.spelled_types.ensures o)
