-- The write, handed out; a signature is the same in either order.
use mathlib.Core.Path.{refl}
use Rattle.meaning.specs.declared.Order.TheVariants.{Little}
use Rattle.meaning.specs.Writers.{signature_bytes}
use Rattle.structs.proofs.Writes.{past, handed}
use borrow.Author.Rules.{rules}
use Rattle.millettie.proofs.mt_write_signature.Goals as goal

pub of_written-requires : goal.of_written-requires
of_written-requires c =
    let a = c.args in
    let e = c.write_signature.ensures in
    past (λ o. signature_bytes o a.sig.now) a.buf.now a.place {o = Little} refl (e.value Little, e.buf_after Little)

pub returns : goal.returns
returns c =
    let a = c.args in
    let e = c.write_signature.ensures in record { value = λ o. (handed (λ z. signature_bytes z a.sig.now) a.buf.now a.place {o = o} refl (e.value o, e.buf_after o) c.of_written.ensures).0; buf_after = λ o. e.buf_after o }
