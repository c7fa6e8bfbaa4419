-- No second answer meets a contract of this crate's entry points: each is an equation with a definition of what was passed.
use Rattle.meaning.proofs.OneAnswer.{OneAnswer, both}
use Rattle.read.proofs.unmarshal_fixed.Reads as unmarshal-fixed
use Rattle.read.proofs.letter.Reads as letter
use Rattle.read.proofs.bits.Reads as bits

pub one-unmarshal-fixed : OneAnswer unmarshal-fixed.Learnt
one-unmarshal-fixed κs a x y s t h k = both h k

pub one-kind : OneAnswer letter.Learnt × OneAnswer bits.Learnt
one-kind = (λ κs a x y s t h k. both h k, λ κs a x y s t h k. both h k)
