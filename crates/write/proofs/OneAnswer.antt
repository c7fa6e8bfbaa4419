-- No second answer and no second buffer meet a contract of this crate's entry points: each is an equation with a definition of what was passed.
use Rattle.meaning.proofs.OneAnswer.{OneAnswer, OneBuffer, both}
use Rattle.write.proofs.pad_to_align.Reads as pad-to-align
use Rattle.write.proofs.write_u16.Reads as write-u16
use Rattle.write.proofs.write_u32.Reads as write-u32
use Rattle.write.proofs.write_u64.Reads as write-u64

pub one-pad-to-align : OneAnswer pad-to-align.Learnt × OneBuffer pad-to-align.Learnt (λ κs s. s.1.0.now)
one-pad-to-align = (λ κs a x y s t h k. both h.0 k.0, λ κs a x y s t h k. both h.1 k.1)

-- an integer of each width
pub one-integer : OneAnswer write-u16.Learnt × OneAnswer write-u32.Learnt × OneAnswer write-u64.Learnt
one-integer = (λ κs a x y s t h k. both h.0 k.0, λ κs a x y s t h k. both h.0 k.0, λ κs a x y s t h k. both h.0 k.0)

pub one-integer-buffer : OneBuffer write-u16.Learnt (λ κs s. s.1.1.0.now) × OneBuffer write-u32.Learnt (λ κs s. s.1.1.0.now)
    × OneBuffer write-u64.Learnt (λ κs s. s.1.1.0.now)
one-integer-buffer = (λ κs a x y s t h k. both h.1 k.1, λ κs a x y s t h k. both h.1 k.1, λ κs a x y s t h k. both h.1 k.1)
