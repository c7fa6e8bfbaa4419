-- How many types there are decides; one of them stands between the length byte and the zero.
use mathlib.Core.Path.{sym, ◌∙◌}
use native.Mathlib.Omega.{arith}
use Rattle.meaning.specs.declared.Order.TheVariants.{Little}
use Rattle.basic.proofs.spelled.SpellLaws.{inner-stop, inner-none, inner-more, inner-one, spelt-within, misspelt}
use Rattle.basic.proofs.spelled.inner.Goals as goal

pub returns-in_err-types : goal.returns-in_err-types
returns-in_err-types c = λ o.
    let refused = misspelt o _ _ _ _ (sym c.in_err-types.was ∙ c.spelled_types.ensures o) c.from_residual.ensures in
    refused.1 ∙ inner-stop o _ _ c.requires _ refused.2

pub returns-then-types-eq0 : goal.returns-then-types-eq0
returns-then-types-eq0 c = λ o.
    let spelt = sym c.in_ok-types.was ∙ c.spelled_types.ensures o in
    inner-none o _ _ c.requires _ _ _ c.if-types-eq0.true spelt c.refuse.ensures

pub returns-then-types-ne1 : goal.returns-then-types-ne1
returns-then-types-ne1 c = λ o.
    let spelt = sym c.in_ok-types.was ∙ c.spelled_types.ensures o in
    inner-more o _ _ c.requires _ _ _ c.if-types-eq0.false c.if-types-ne1.true spelt c.refuse-then-types-ne1.ensures

pub overflow_sub-result : goal.overflow_sub-result
overflow_sub-result c =
    let spelt = sym c.in_ok-types.was ∙ c.spelled_types.ensures Little in
    omega (arith, (spelt-within Little _ _ c.requires _ _ spelt).0)

pub overflow_sub-result-2 : goal.overflow_sub-result-2
overflow_sub-result-2 c =
    let spelt = sym c.in_ok-types.was ∙ c.spelled_types.ensures Little in
    omega (arith, (spelt-within Little _ _ c.requires _ _ spelt).0)

pub returns : goal.returns
returns c = λ o.
    let spelt = sym c.in_ok-types.was ∙ c.spelled_types.ensures o in
    inner-one o _ _ c.requires _ _ c.if-types-ne1.false spelt
