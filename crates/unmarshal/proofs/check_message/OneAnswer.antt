-- No second answer meets the contract of this crate's entry point: it is an equation with a definition of what was passed.
use Rattle.meaning.proofs.OneAnswer.{OneAnswer, both}
use Rattle.unmarshal.proofs.check_message.check_message.Reads as check-message

pub one-check-message : OneAnswer check-message.Learnt
one-check-message κs a x y s t h k = both h k
