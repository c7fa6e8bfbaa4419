-- No second answer meets a contract of this crate's entry points: each is an equation with a definition of what was passed.
use Rattle.meaning.proofs.OneAnswer.{OneAnswer, both}
use Rattle.meaning.specs.declared.Order.TheVariants.{Little}
use Rattle.text.proofs.strings.unmarshal_str.Reads as unmarshal-str
use Rattle.text.proofs.strings.unmarshal_object_path.Reads as unmarshal-object-path
use Rattle.text.proofs.strings.unmarshal_signature_text.Reads as unmarshal-signature-text

pub one-unmarshal-str : OneAnswer unmarshal-str.Learnt
one-unmarshal-str κs a x y s t h k = both h k

pub one-unmarshal-object-path : OneAnswer unmarshal-object-path.Learnt
one-unmarshal-object-path κs a x y s t h k = both h k

pub one-unmarshal-signature-text : OneAnswer unmarshal-signature-text.Learnt
one-unmarshal-signature-text κs a x y s t h k = both (h Little) (k Little)
