-- No second place and no second buffer meet a contract of this crate's functions: each is an equation with a definition of what was passed.
use Rattle.text_out.proofs.OneAnswer.{OnePut, once}
use Rattle.answer_text.proofs.bad.Reads as bad
use Rattle.answer_text.proofs.labelled.Reads as labelled
use Rattle.answer_text.proofs.refused.Reads as refused
use Rattle.answer_text.proofs.checked.Reads as checked
use Rattle.answer_text.proofs.counted.Reads as counted
use Rattle.answer_text.proofs.written.Reads as written
use Rattle.answer_text.proofs.text.Reads as text

pub one_word : OnePut bad.Learnt (λ κs s. s.0.now) × OnePut labelled.Learnt (λ κs s. s.0.now) × OnePut text.Learnt (λ κs s. s.0.now)
one_word = (λ κs a x y s t h k. once h k, λ κs a x y s t h k. once h k, λ κs a x y s t h k. once h k)

pub one-refused : OnePut refused.Learnt (λ κs s. s.0.now)
one-refused κs a x y s t h k = once h k

pub one-outcome : OnePut checked.Learnt (λ κs s. s.0.now) × OnePut counted.Learnt (λ κs s. s.0.now) × OnePut written.Learnt (λ κs s. s.0.now)
one-outcome = (λ κs a x y s t h k. once h k, λ κs a x y s t h k. once h k, λ κs a x y s t h k. once h k)
