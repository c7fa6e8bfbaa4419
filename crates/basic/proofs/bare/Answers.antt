-- The code says which basic type it is; each has its reader.
use mathlib.Core.Path.{sym, ◌∙◌, ap}
use Rattle.meaning.specs.Types.{fix, bool, str, path, sig}
use Rattle.meaning.specs.Signature.{code}
use Rattle.meaning.specs.ReadValue.{bare_r}
use Rattle.meaning.proofs.PlaceLaws.{same_code}
use Rattle.types.specs.Codes.{size_code}
use Rattle.types.proofs.CodeLaws.{size-fix}
use Rattle.basic.proofs.BaseLaws.{is_number, as-base}
use Rattle.basic.proofs.bare.Goals as goal

pub returns-in-115 : goal.returns-in-115
unfolding bare_r
returns-in-115 c = λ b e. as-base _ _ _ str _ (same_code b str (sym e ∙ c.in-115.is)) c.read_string.ensures

pub returns-in-111 : goal.returns-in-111
unfolding bare_r
returns-in-111 c = λ b e. as-base _ _ _ path _ (same_code b path (sym e ∙ c.in-111.is)) c.read_path.ensures

pub returns-in-103 : goal.returns-in-103
unfolding bare_r
returns-in-103 c = λ b e. as-base _ _ _ sig _ (same_code b sig (sym e ∙ c.in-103.is)) (c.signature_value.ensures _)

pub returns-in-98 : goal.returns-in-98
unfolding bare_r
returns-in-98 c = λ b e. as-base _ _ _ (fix bool) _ (same_code b (fix bool) (sym e ∙ c.in-98.is)) c.boolean.ensures

pub returns-in_default : goal.returns-in_default
unfolding bare_r
returns-in_default c =
    λ b e. (let n = is_number b (λ z. c.in_default.in_default-own.rest.0.0.0.1 (e ∙ z)) (λ z. c.in_default.in_default-own.rest.0.0.1 (e ∙ z)) (λ z. c.in_default.in_default-own.rest.0.1 (e ∙ z))
    (λ z. c.in_default.in_default-own.rest.1 (e ∙ z)) in as-base _ _ _ (fix n.of) _ n.is
    (c.fixed.ensures _ n.of n.any (c.size.ensures ∙ ap size_code (e ∙ ap code n.is) ∙ size-fix n.of)))
