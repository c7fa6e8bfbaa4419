-- No second answer meets the contract of a function of this crate that asks for nothing: each is an equation with a definition of what was passed.
use Rattle.meaning.proofs.OneAnswer.{OneAnswer, both}
use Rattle.validate_raw.proofs.first_bytes.whole.Reads as whole
use Rattle.validate_raw.proofs.first_bytes.is_composite.Reads as is-composite
use Rattle.validate_raw.proofs.first_bytes.element_align.Reads as element-align

pub one-whole : OneAnswer whole.Learnt
one-whole κs a x y s t h k = both h k

pub one-is-composite : OneAnswer is-composite.Learnt
one-is-composite κs a x y s t h k = both h k

pub one-element-align : OneAnswer element-align.Learnt
one-element-align κs a x y s t h k = both h k
