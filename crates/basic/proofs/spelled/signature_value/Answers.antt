-- A value of type g is a signature that spells types, however many.
use mathlib.Core.Path.{sym, ◌∙◌}
use Rattle.basic.proofs.spelled.SpellLaws.{g-reached, spelt-reached, misspelt}
use Rattle.basic.proofs.spelled.signature_value.Goals as goal

pub returns : goal.returns
returns c = λ o. spelt-reached o _ _ _ (sym c.in_ok-past.was ∙ c.spelled_types.ensures o) ∙ sym (g-reached o _ _)

pub returns-in_err-past : goal.returns-in_err-past
returns-in_err-past c = λ o.
    let refused = misspelt o _ _ _ _ (sym c.in_err-past.was ∙ c.spelled_types.ensures o) c.from_residual.ensures in
    refused.1 ∙ refused.2 ∙ sym (g-reached o _ _)
