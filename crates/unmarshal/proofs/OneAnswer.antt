-- No second answer meets the contract of this crate's entry point: it is an equation with a definition of what was passed.
use Rattle.meaning.proofs.OneAnswer.{OneAnswer, both}
use Rattle.unmarshal.proofs.unmarshal_header.Reads as unmarshal-header

pub one-unmarshal-header : OneAnswer unmarshal-header.Learnt
one-unmarshal-header κs a x y s t h k = both h k
