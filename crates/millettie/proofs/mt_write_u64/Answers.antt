-- The write in the named order, handed out.
use Rattle.meaning.specs.Writers.{integer_bytes}
use Rattle.structs.proofs.Writes.{past, handed}
use borrow.Author.Rules.{rules}
use Rattle.millettie.proofs.mt_write_u64.Goals as goal

pub returns : goal.returns
returns c =
    let a = c.args in
    let e = c.write_u64.ensures in
    let it = handed (λ o. integer_bytes o 8 a.value) a.buf.now a.place c.order.ensures (e.value, e.buf_after) c.of_written.ensures in
    record { value = it.0; buf_after = it.1 }

pub of_written-requires : goal.of_written-requires
of_written-requires c = let a = c.args in past (λ o. integer_bytes o 8 a.value) a.buf.now a.place c.order.ensures (c.write_u64.ensures.value, c.write_u64.ensures.buf_after)
