-- Each return is one way through what follows the field table.
use mathlib.Core.Path.{refl, ◌∙◌}
use native.Mathlib.Omega.{arith}
use Prim.Native.Nat.{◌+◌}
use lib.Seq.{length-take-le}
use Rattle.types.proofs.CodeLaws.{align-struct, struct-aligns}
use Rattle.util.proofs.Pads.{padded-within}
use Rattle.meaning.proofs.NumberLaws.{bytes_of}
use Rattle.meaning.proofs.Passing.{handed-on}
use Rattle.unmarshal.proofs.body.NextLaws.{pads-to, held-within, next-stop, sig-within, sig-types, body-over, body_refused, body-read}
use Rattle.unmarshal.proofs.body.unmarshal_next_message.Goals as goal

pub padded-requires : goal.padded-requires
padded-requires c = record { inside = held-within _ _ _ _ c.requires; alignment = struct-aligns c.align.ensures }

pub returns-in-Err : goal.returns-in-Err
returns-in-Err c = next-stop _ _ _ _ c.requires _ _ (pads-to _ _ _ _ (c.align.ensures ∙ align-struct) c.padded.ensures c.in-Err.is) c.moved.ensures

pub overflow_sub-buf : goal.overflow_sub-buf
overflow_sub-buf c =
    omega (arith, (padded-within _ _ _ _ _ (held-within _ _ _ _ c.requires) c.padded.ensures c.in-Ok.is).1)

pub returns-then-buf-at : goal.returns-then-buf-at
returns-then-buf-at c =
    let r = padded-within _ _ _ _ _ (held-within _ _ _ _ c.requires) c.padded.ensures c.in-Ok.is in
    let y = bytes_of c.args.buf.now (λ i. omega (arith, c.type_inv.buf i)) in
    let padding = pads-to _ _ _ _ (c.align.ensures ∙ align-struct) c.padded.ensures c.in-Ok.is in
    body-over _ _ _ _ c.requires y _ refl _ padding _ (omega (arith, r.1, c.if-buf-at.true)) c.refuse.ensures

-- field 8's text lies within the message
pub overflow_add-first : goal.overflow_add-first
overflow_add-first c =
    let y = bytes_of c.args.buf.now (λ i. omega (arith, c.type_inv.buf i)) in
    omega (arith, sig-within _ _ _ _ c.requires y _ c.signature_part-first.ensures)

pub slice_bounds-unmarshal_body-end : goal.slice_bounds-unmarshal_body-end
slice_bounds-unmarshal_body-end c =
    let y = bytes_of c.args.buf.now (λ i. omega (arith, c.type_inv.buf i)) in
    omega (arith, sig-within _ _ _ _ c.requires y _ c.signature_part-first.ensures)

pub slice_bounds-unmarshal_body-end-2 : goal.slice_bounds-unmarshal_body-end-2
slice_bounds-unmarshal_body-end-2 c =
    let r = padded-within _ _ _ _ _ (held-within _ _ _ _ c.requires) c.padded.ensures c.in-Ok.is in
    let lent = length-take-le (c.in-Ok.field-0.0 + c.args.start.body.0) c.args.buf.now (omega (arith, r.1, c.if-buf-at.false)) in
    omega (arith, r.1, lent, c.if-buf-at.false)

pub unmarshal_body-requires : goal.unmarshal_body-requires
unmarshal_body-requires c =
    let y = bytes_of c.args.buf.now (λ i. omega (arith, c.type_inv.buf i)) in
    let r = padded-within _ _ _ _ _ (held-within _ _ _ _ c.requires) c.padded.ensures c.in-Ok.is in
    let lent = length-take-le (c.in-Ok.field-0.0 + c.args.start.body.0) c.args.buf.now (omega (arith, r.1, c.if-buf-at.false)) in
    record { types = sig-types _ _ _ _ c.requires y _ c.signature_part-first.ensures; inside = omega (arith, lent) }

pub returns : goal.returns
returns c =
    let y = bytes_of c.args.buf.now (λ i. omega (arith, c.type_inv.buf i)) in
    let r = padded-within _ _ _ _ _ (held-within _ _ _ _ c.requires) c.padded.ensures c.in-Ok.is in
    let padding = pads-to _ _ _ _ (c.align.ensures ∙ align-struct) c.padded.ensures c.in-Ok.is in
    body-read _ _ _ _ c.requires y _ c.signature_part-first.ensures _ padding (omega (arith, r.1, c.if-buf-at.false)) _ c.unmarshal_body.ensures _ c.in_ok-unmarshal_body.was

pub returns-in_err-unmarshal_body : goal.returns-in_err-unmarshal_body
returns-in_err-unmarshal_body c =
    let y = bytes_of c.args.buf.now (λ i. omega (arith, c.type_inv.buf i)) in
    let r = padded-within _ _ _ _ _ (held-within _ _ _ _ c.requires) c.padded.ensures c.in-Ok.is in
    let padding = pads-to _ _ _ _ (c.align.ensures ∙ align-struct) c.padded.ensures c.in-Ok.is in
    handed-on _ _ c.from_residual.ensures
    ∙ body_refused _ _ _ _ c.requires y _ c.signature_part-first.ensures _ padding (omega (arith, r.1, c.if-buf-at.false)) _ c.unmarshal_body.ensures _ c.in_err-unmarshal_body.was
