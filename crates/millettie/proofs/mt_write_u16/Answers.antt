-- The write in the named order, handed out. The buffer by rewriting, which proves less of it too: must-fail/one_answer.edit promises less.
use mathlib.Core.Path.{refl}
use Rattle.meaning.specs.Writers.{integer_bytes}
use Rattle.structs.proofs.Writes.{past, handed}
use borrow.Author.Rules.{rules}
use Rattle.millettie.proofs.mt_write_u16.Goals as goal

pub returns : goal.returns
returns c =
    let a = c.args in
    let e = c.write_u16.ensures in
    let out = handed (λ o. integer_bytes o 2 a.value) a.buf.now a.place c.order.ensures (e.value, e.buf_after) c.of_written.ensures in
    record { value = out.0; buf_after = rw out.1 refl }

pub of_written-requires : goal.of_written-requires
of_written-requires c = let a = c.args in past (λ o. integer_bytes o 2 a.value) a.buf.now a.place c.order.ensures (c.write_u16.ensures.value, c.write_u16.ensures.buf_after)
