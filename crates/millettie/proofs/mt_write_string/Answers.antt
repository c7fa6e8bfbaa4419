-- The write in the named order, handed out.
use Rattle.meaning.specs.Writers.{string_bytes}
use Rattle.structs.proofs.Writes.{past, handed}
use borrow.Author.Rules.{rules}
use Rattle.millettie.proofs.mt_write_string.Goals as goal

pub of_written-requires : goal.of_written-requires
of_written-requires c =
    let a = c.args in
    past (λ o. string_bytes o a.text.now) a.buf.now a.place c.order.ensures (c.write_string.ensures.value, c.write_string.ensures.buf_after)

pub returns : goal.returns
returns c =
    let a = c.args in
    let e = c.write_string.ensures in
    let it = handed (λ o. string_bytes o a.text.now) a.buf.now a.place c.order.ensures (e.value, e.buf_after) c.of_written.ensures in
    record { value = it.0; buf_after = it.1 }
