-- No second answer and no second buffer meet a contract of this crate's entry points: each is an equation with a definition of what was passed.
use Rattle.meaning.proofs.OneAnswer.{OneAnswer, OneBuffer, both}
use Rattle.meaning.specs.declared.Order.TheVariants.{Little}
use Rattle.write.proofs.texts.write_string.Reads as write-string
use Rattle.write.proofs.texts.write_signature.Reads as write-signature

pub one-write-string : OneAnswer write-string.Learnt
one-write-string κs a x y s t h k = both h.0 k.0

pub one-write-string-buffer : OneBuffer write-string.Learnt (λ κs s. s.1.1.0.now)
one-write-string-buffer κs a x y s t h k = both h.1 k.1

pub one-write-signature : OneAnswer write-signature.Learnt
one-write-signature κs a x y s t h k = both (h.0 Little) (k.0 Little)

pub one-write-signature-buffer : OneBuffer write-signature.Learnt (λ κs s. s.1.0.now)
one-write-signature-buffer κs a x y s t h k = both (h.1 Little) (k.1 Little)
