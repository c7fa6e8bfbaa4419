-- The codes are those of the definition.
use mathlib.Core.Logic.{⊎_elim}
use mathlib.Core.Path.{refl}
use Rattle.std.proofs.Common.{rules, tests}
use Rattle.validate_raw.specs.FirstBytes.{composite}
use Rattle.validate_raw.proofs.first_bytes.is_composite.Goals as goal

pub returns-in-97 : goal.returns-in-97
unfolding composite
returns-in-97 c = ⊎_elim (λ e. rw e refl) (⊎_elim (λ e. rw e refl) (⊎_elim (λ e. rw e refl) (λ e. rw e refl))) c.in-97.is

pub returns-in_default : goal.returns-in_default
unfolding composite
returns-in_default c = search (rules, tests)
