-- The offset is tested; the rest is the reader on the whole buffer.
use native.Mathlib.Omega.{arith}
use mathlib.Core.Path.{ap, ◌∙◌}
use lib.Seq.{take_all}
use Rattle.meaning.specs.ReadValue.{read_sig}
use Rattle.std.specs.Prelude.{Err}
use Rattle.meaning.specs.declared.Order.TheVariants.{Little}
use Rattle.meaning.proofs.ValueLocal.{read_sig-local}
use Rattle.util.proofs.Windows.{entry_past, front-read, entry-is, entry-outside}
use Rattle.text.proofs.strings.unmarshal_signature_text.Goals as goal

pub returns-then-buf-off : goal.returns-then-buf-off
returns-then-buf-off c = λ o. ap Err c.refuse.ensures ∙ entry-outside (read_sig o) _ _ c.if-buf-off.true

pub taken_from-requires : goal.taken_from-requires
taken_from-requires c =
    let a = c.args in
    let read = front-read (read_sig Little) _ a.buf.now a.offset.0 _ (c.read_signature_text.ensures Little)
    (omega arith) (grind (arith, take_all)) in
    entry_past (read_sig Little) (read_sig-local Little).bound a.buf.now a.offset.0 _ c.if-buf-off.false read

pub returns : goal.returns
returns c =
    let a = c.args in
    λ o.
    let read = front-read (read_sig o) _ a.buf.now a.offset.0 _ (c.read_signature_text.ensures o)
    (omega arith) (grind (arith, take_all)) in
    c.taken_from.ensures ∙ entry-is (read_sig o) _ _ _ c.if-buf-off.false read
