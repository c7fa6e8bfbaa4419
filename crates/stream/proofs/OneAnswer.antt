-- No second answer meets a contract of this crate's entry points: each has an equation with a definition of what was passed.
use Rattle.meaning.proofs.OneAnswer.{OneAnswer, both}
use Rattle.stream.proofs.stated_size.Reads as stated-size
use Rattle.stream.proofs.next_message.Reads as next-message

pub one-stated-size : OneAnswer stated-size.Learnt
one-stated-size κs a x y s t h k = both h k

-- of its two promises the first determines it
pub one-next-message : OneAnswer next-message.Learnt
one-next-message κs a x y s t h k = both h.0 k.0
