-- No second answer meets a contract of this crate's entry points: each is an equation with a definition of what was passed.
use Rattle.meaning.proofs.OneAnswer.{OneAnswer, both}
use Rattle.validate_raw.proofs.validate_marshalled.Reads as validate-marshalled

pub one-validate-marshalled : OneAnswer validate-marshalled.Learnt
one-validate-marshalled κs a x y s t h k = both h k
