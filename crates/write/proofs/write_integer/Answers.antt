-- The tests are those of `write_at`, in its order.
use mathlib.Core.Path.{refl, sym}
use Rattle.meaning.specs.Writers.{integer_bytes}
use Rattle.meaning.proofs.NumberLaws.{length-store}
use Rattle.write.proofs.store.Writes.{outside, is-bytes, no_room, stored}
use Rattle.write.proofs.write_integer.Goals as goal

pub returns-then-buf-at : goal.returns-then-buf-at
returns-then-buf-at c =
    let it = outside _ _ _ c.if-buf-at.true _ c.refuse.ensures in
    record { value = it.0; buf_after = it.1 }

pub returns-then-buf-at-2 : goal.returns-then-buf-at-2
returns-then-buf-at-2 c =
    let within = c.if-buf-at.false in
    let it = is-bytes _ _ _ within _ refl _ _ (no_room _ _ within _ _ (sym (length-store _ _ _)) c.if-buf-at-2.true _ c.refuse-then-buf-at-2.ensures) in
    record { value = it.0; buf_after = it.1 }

pub returns : goal.returns
returns c =
    let within = c.if-buf-at.false in
    let a = c.args in
    let content = integer_bytes a.order a.width a.x in
    let met = is-bytes content a.buf.now a.at within _ refl _ _
    (stored _ _ within _ _ (sym (length-store _ _ _)) c.if-buf-at-2.false _ refl _ c.store.ensures) in
    record { value = met.0; buf_after = met.1 }
