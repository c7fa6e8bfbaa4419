-- No second answer meets a contract of this crate's entry points: each is an equation with a definition of what was passed.
use mathlib.Core.Path.{◌≡◌}
use Rattle.meaning.proofs.OneAnswer.{OneAnswer, both}
use Rattle.lookup.proofs.find.Reads as find
use Rattle.lookup.proofs.lookup.Reads as lookup

pub one-find : OneAnswer find.Learnt
one-find κs a x y s t h k = both h k

-- the bytes of the slice that comes back
pub one-lookup : (κs : _) (a : _) (x y : _) (s t : _) → lookup.Learnt κs a x s → lookup.Learnt κs a y t → x.now ≡ y.now
one-lookup κs a x y s t h k = both h k
