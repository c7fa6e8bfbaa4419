-- The tests are those of `write_at` and `string_bytes`, in their order; the room is looked at last.
use Rattle.write.proofs.texts.Contents.{too_long, fine, not-utf8, has-zero}
use Rattle.write.proofs.store.Writes.{outside, is-faulty, is-bytes}
use Rattle.write.proofs.texts.write_string.Goals as goal

pub returns-then-buf-at : goal.returns-then-buf-at
returns-then-buf-at c =
    let it = outside _ _ _ c.if-buf-at.true _ c.refuse.ensures in
    record { value = it.0; buf_after = it.1 }

pub returns-then-val-gt4294967295 : goal.returns-then-val-gt4294967295
returns-then-val-gt4294967295 c =
    let a = c.args in
    let it = is-faulty _ _ _ c.if-buf-at.false _ (too_long a.order a.val.now c.if-val-gt4294967295.true) _ c.refuse-then-val-gt4294967295.ensures in
    record { value = it.0; buf_after = it.1 }

pub returns-in-Ok : goal.returns-in-Ok
returns-in-Ok c =
    let it = is-bytes _ _ _ c.if-buf-at.false _ (fine _ _ c.if-val-gt4294967295.false c.in-Ok.ensures) _ _ (c.put_sized.ensures.value, c.put_sized.ensures.buf_after) in
    record { value = it.0; buf_after = it.1 }

pub returns-in-Err-NotUtf8 : goal.returns-in-Err-NotUtf8
returns-in-Err-NotUtf8 c =
    let e = rw c.in-Err-NotUtf8.field-0-is at c.in-Err-NotUtf8.ensures in
    let it = is-faulty _ _ _ c.if-buf-at.false _ (not-utf8 _ _ c.if-val-gt4294967295.false e) _ c.refuse-in-Err-NotUtf8.ensures in
    record { value = it.0; buf_after = it.1 }

pub returns-in-Err-HasZero : goal.returns-in-Err-HasZero
returns-in-Err-HasZero c =
    let e = rw c.in-Err-HasZero.field-0-is at c.in-Err-HasZero.ensures in
    let it = is-faulty _ _ _ c.if-buf-at.false _ (has-zero _ _ c.if-val-gt4294967295.false e) _ c.refuse-in-Err-HasZero.ensures in
    record { value = it.0; buf_after = it.1 }
