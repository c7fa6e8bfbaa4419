-- The tests are those of `write_at` and `padding_bytes`, in their order.
use mathlib.Core.Path.{refl, sym, ◌∙◌}
use lib.ListN.{length-replicate}
use Rattle.write.proofs.Paddings.{aligned, not_aligned}
use Rattle.write.proofs.store.Writes.{outside, is-faulty, is-bytes, no_room, stored}
use Rattle.write.proofs.pad_to_align.Goals as goal

pub returns-then-buf-at : goal.returns-then-buf-at
returns-then-buf-at c =
    let it = outside _ _ _ c.if-buf-at.true _ c.refuse.ensures in
    record { value = it.0; buf_after = it.1 }

pub returns-then-not-is_alignment : goal.returns-then-not-is_alignment
returns-then-not-is_alignment c =
    let a = c.args in
    let is = not_aligned a.align a.place.0 (sym c.is_alignment.ensures ∙ c.if-not-is_alignment.true) in
    let it = is-faulty _ _ _ c.if-buf-at.false _ is _ c.refuse-then-not-is_alignment.ensures in
    record { value = it.0; buf_after = it.1 }

pub returns-then-buf-at-2 : goal.returns-then-buf-at-2
returns-then-buf-at-2 c =
    let within = c.if-buf-at.false in
    let is = aligned _ _ _ (sym c.is_alignment.ensures ∙ c.if-not-is_alignment.false) c.gap-count.ensures in
    let it = is-bytes _ _ _ within _ is _ _ (no_room _ _ within _ _ (sym (length-replicate _ 0)) c.if-buf-at-2.true _ c.refuse-then-buf-at-2.ensures) in
    record { value = it.0; buf_after = it.1 }

pub returns : goal.returns
returns c =
    let within = c.if-buf-at.false in
    let is = aligned _ _ _ (sym c.is_alignment.ensures ∙ c.if-not-is_alignment.false) c.gap-count.ensures in
    let wrote = c.put_zeros.ensures in
    let it = is-bytes _ _ _ within _ is _ _ (stored _ _ within _ _ (sym (length-replicate _ 0)) c.if-buf-at-2.false _ refl _ wrote) in
    record { value = it.0; buf_after = it.1 }
