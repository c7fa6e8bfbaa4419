-- The number that the definition has.
use mathlib.Core.Path.{refl}
use Rattle.millettie.proofs.mt_interface.Goals as goal

pub returns : goal.returns
returns c = refl
