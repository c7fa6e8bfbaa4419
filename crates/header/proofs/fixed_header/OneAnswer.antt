-- No second answer meets a contract of this crate's public functions: each is an equation with a definition of what was passed.
use Rattle.meaning.proofs.OneAnswer.{OneAnswer, both}
use Rattle.header.proofs.fixed_header.byteorder.Reads as byteorder
use Rattle.header.proofs.fixed_header.fixed.Reads as fixed

pub one-byteorder : OneAnswer byteorder.Learnt
one-byteorder κs a x y s t h k = both h k

pub one-fixed : OneAnswer fixed.Learnt
one-fixed κs a x y s t h k = both h k
