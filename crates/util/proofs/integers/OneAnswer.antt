-- No second answer meets a contract of this crate's entry points: each is an equation with a definition of what was passed.
use Rattle.meaning.proofs.OneAnswer.{OneAnswer, both}
use Rattle.util.proofs.integers.parse_u16.Reads as parse-u16
use Rattle.util.proofs.integers.parse_u32.Reads as parse-u32
use Rattle.util.proofs.integers.parse_u64.Reads as parse-u64

-- an integer of each width
pub one-integer : OneAnswer parse-u16.Learnt × OneAnswer parse-u32.Learnt × OneAnswer parse-u64.Learnt
one-integer = (λ κs a x y s t h k. both h k, λ κs a x y s t h k. both h k, λ κs a x y s t h k. both h k)
