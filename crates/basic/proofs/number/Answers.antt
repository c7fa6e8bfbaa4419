-- The padding to its size, and then its bytes.
use mathlib.Core.Path.{◌∙◌}
use Rattle.meaning.proofs.Passing.{handed-on}
use Rattle.util.proofs.Pads.{padded-within}
use Rattle.basic.proofs.BaseLaws.{number-stop, number_at}
use Rattle.basic.proofs.number.Goals as goal

pub fixed-requires : goal.fixed-requires
fixed-requires c = (padded-within _ _ _ _ _ c.requires.inside c.padded.ensures c.in_ok-at.was).1

pub returns : goal.returns
returns c = λ o k a z. number_at o k _ _ _ z _ _ _ c.padded.ensures c.in_ok-at.was (c.fixed.ensures o k a z)

pub returns-in_err-at : goal.returns-in_err-at
returns-in_err-at c = λ o k a z.
    handed-on _ _ c.from_residual.ensures ∙ number-stop o k _ _ _ z _ _ c.padded.ensures c.in_err-at.was
