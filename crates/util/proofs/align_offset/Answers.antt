-- The tests are those of `check_padding`, in its order; the rest is `padded` on the whole buffer.
use native.Mathlib.Omega.{arith}
use mathlib.Core.Path.{sym, ◌∙◌}
use lib.Seq.{take_all}
use Rattle.meaning.specs.ReadValue.{padding}
use Rattle.meaning.proofs.ValueLocal.{padding-local}
use Rattle.util.proofs.Windows.{entry_past, front-read}
use Rattle.util.proofs.Pads.{outside, no-alignment, aligned}
use borrow.Author.Rules.{rules}
use Rattle.util.proofs.align_offset.Goals as goal

pub returns-then-buf-off : goal.returns-then-buf-off
returns-then-buf-off c = outside _ _ _ c.if-buf-off.true _ c.refuse.ensures

pub padded-requires : goal.padded-requires
padded-requires c =
    let if1 = c.if-buf-off in
    record { inside = omega (arith, if1.false); alignment = rw (sym c.is_alignment.ensures ∙ c.if-not-is_alignment.false) tt }

pub taken_from-requires : goal.taken_from-requires
taken_from-requires c =
    let a = c.args in
    let if1 = c.if-buf-off in
    let read = front-read (padding a.align) _ a.buf.now a.offset.0 _ c.padded.ensures
    (omega arith) (grind (arith, take_all)) in
    entry_past (padding a.align) (padding-local a.align).bound a.buf.now a.offset.0 _ if1.false read

pub returns : goal.returns
returns c =
    let a = c.args in
    let if1 = c.if-buf-off in
    let is-alignment = c.is_alignment in
    let read = front-read (padding a.align) _ a.buf.now a.offset.0 _ c.padded.ensures
    (omega arith) (grind (arith, take_all)) in
    c.taken_from.ensures ∙ aligned _ _ _ _ if1.false (sym is-alignment.ensures ∙ c.if-not-is_alignment.false) read

pub returns-then-not-is_alignment : goal.returns-then-not-is_alignment
returns-then-not-is_alignment c = no-alignment _ _ _ c.if-buf-off.false (sym c.is_alignment.ensures ∙ c.if-not-is_alignment.true) _ c.refuse-then-not-is_alignment.ensures
