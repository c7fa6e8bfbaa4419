-- No second answer meets a contract of this crate's entry points: each is an equation with a definition of what was passed.
use Rattle.meaning.proofs.OneAnswer.{OneAnswer, both}
use Rattle.signature.proofs.parse_description.Reads as parse-description
use Rattle.signature.proofs.validate_signature.Reads as validate-signature

pub one-parse-description : OneAnswer parse-description.Learnt
one-parse-description κs a x y s t h k = both h k

pub one-validate-signature : OneAnswer validate-signature.Learnt
one-validate-signature κs a x y s t h k = both h k
