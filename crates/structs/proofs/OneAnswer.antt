-- No second answer meets a contract of this crate's functions: each is an equation with a definition of what was passed.
use Rattle.meaning.proofs.OneAnswer.{OneAnswer, both}
use Rattle.structs.proofs.order.Reads as order
use Rattle.structs.proofs.refused.Reads as refused
use Rattle.structs.proofs.of_checked.Reads as of-checked
use Rattle.structs.proofs.of_counted.Reads as of-counted
use Rattle.structs.proofs.of_written.Reads as of-written
use Rattle.structs.proofs.of_read.Reads as of-read
use Rattle.structs.proofs.of_found.Reads as of-found

-- what a caller passes, and the refusal of each answer
pub one-part : OneAnswer order.Learnt × OneAnswer refused.Learnt
one-part = (λ κs a x y s t h k. both h k, λ κs a x y s t h k. both h k)

-- what is handed out of each answer
pub one-handed : OneAnswer of-checked.Learnt × OneAnswer of-counted.Learnt × OneAnswer of-written.Learnt × OneAnswer of-read.Learnt × OneAnswer of-found.Learnt
one-handed = (λ κs a x y s t h k. both h k, λ κs a x y s t h k. both h k, λ κs a x y s t h k. both h k, λ κs a x y s t h k. both h k, λ κs a x y s t h k. both h k)
