-- No second answer meets a contract of this crate's entry points: each is an equation with a definition of what was passed.
use Rattle.meaning.proofs.OneAnswer.{OneAnswer, both}
use Rattle.text.proofs.Scans.{same_number}
use Rattle.text.proofs.check_text.Reads as check-text
use Rattle.text.proofs.is_path.Reads as is-path

pub one-check-text : OneAnswer check-text.Learnt
one-check-text κs a x y s t h k = same_number x y (both h k)

pub one-is-path : OneAnswer is-path.Learnt
one-is-path κs a x y s t h k = both h k
