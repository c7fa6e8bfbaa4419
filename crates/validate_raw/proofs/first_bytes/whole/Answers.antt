-- The two exceptions are tested for; the table knows the others.
use mathlib.Core.Logic.{⊎_elim}
use mathlib.Core.Path.{refl}
use Rattle.std.proofs.Common.{rules, tests}
use Rattle.validate_raw.specs.FirstBytes.{whole_code}
use Rattle.validate_raw.proofs.first_bytes.whole.Goals as goal

pub returns-in-98 : goal.returns-in-98
unfolding whole_code
returns-in-98 c = ⊎_elim (λ e. rw e refl) (λ e. rw e refl) c.in-98.is

pub returns-in_default : goal.returns-in_default
unfolding whole_code
returns-in_default c = search (rules, tests)
