-- No second answer meets a contract of this crate's entry points: each is an equation with a definition of what was passed.
use Rattle.meaning.proofs.OneAnswer.{OneAnswer, both}
use Rattle.util.proofs.align_offset.Reads as align-offset

pub one-align-offset : OneAnswer align-offset.Learnt
one-align-offset κs a x y s t h k = both h k
