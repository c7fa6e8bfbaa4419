-- No second place and no second buffer meet this crate's contract, which is an equation with a definition of what was passed.
use Rattle.text_out.proofs.OneAnswer.{OnePut, once}
use Rattle.answer_text.proofs.header_text.header.Reads as header

pub one-header : OnePut header.Learnt (λ κs s. s.0.now)
one-header κs a x y s t h k = once h k
