-- No second answer meets a contract of this crate's entry points: each is an equation with a definition of what was passed.
use Rattle.meaning.proofs.OneAnswer.{OneAnswer, both}
use Rattle.types.proofs.align.Reads as align
use Rattle.types.proofs.size.Reads as size

pub one_entry : OneAnswer align.Learnt × OneAnswer size.Learnt
one_entry = (λ κs a x y s t h k. both h k, λ κs a x y s t h k. both h k)
