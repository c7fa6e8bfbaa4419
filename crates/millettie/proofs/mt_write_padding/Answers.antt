-- The write, handed out; padding is the same in either order.
use mathlib.Core.Path.{refl}
use Rattle.meaning.specs.declared.Order.TheVariants.{Little}
use Rattle.meaning.specs.Writers.{padding_bytes}
use Rattle.structs.proofs.Writes.{past, handed}
use borrow.Author.Rules.{rules}
use Rattle.millettie.proofs.mt_write_padding.Goals as goal

pub returns : goal.returns
returns c =
    let a = c.args in
    let e = c.pad_to_align.ensures in
    let it = handed (λ o. padding_bytes a.alignment a.place) a.buf.now a.place {o = Little} refl (e.value, e.buf_after) c.of_written.ensures in
    record { value = it.0; buf_after = it.1 }

pub of_written-requires : goal.of_written-requires
of_written-requires c = let a = c.args in past (λ o. padding_bytes a.alignment a.place) a.buf.now a.place {o = Little} refl (c.pad_to_align.ensures.value, c.pad_to_align.ensures.buf_after)
