-- Where a key is due the code must be a key's; elsewhere it is a type of one code.
use mathlib.Core.Path.{ap, sym, ◌∙◌}
use native.Mathlib.Omega.{arith}
use Rattle.meaning.specs.Types.{base}
use Rattle.signature.specs.Codes.{key_tok}
use Rattle.signature.proofs.MarkLaws.{the-mark, not-mark, refuses, leaf-base, key-yes, key-no, not_key}
use Rattle.signature.proofs.basic.Goals as goal

pub returns-in-Key : goal.returns-in-Key
returns-in-Key c =
    let asked = c.requires in
    λ k b q f. key-yes b _ f c.in-Key.is (sym (ap key_tok q) ∙ sym c.is_key.ensures ∙ c.if-is_key.true)
    (omega (arith, asked.room)) (omega arith)

pub returns-in-Key-2 : goal.returns-in-Key-2
returns-in-Key-2 c = λ k b q f. refuses _ _ (key-no k b (the-mark f.stands c.in-Key-2.is) (sym (ap key_tok q) ∙ sym c.is_key.ensures ∙ c.if-is_key.false))

pub returns-in_default : goal.returns-in_default
returns-in_default c = λ k b q f. rw (not_key k b (not-mark f.stands c.in_default.not-Key)) (c.leaf.ensures k (base b) (leaf-base b) f)
